use Rattle.std.proofs.Common.{length, subst}
use Rattle.pooma_bench.specs.Windows.{HasReleased}
use Rattle.pooma_bench.proofs.Releases.{least_is_first, none_ready_all_released}
use Rattle.pooma_bench.proofs.window.run_all.Goals as goal

pub run_one-requires-clause-left : goal.run_one-requires-clause-left
run_one-requires-clause-left c =
    let at = c.loop-entry.invariant.1 in
    let first = least_is_first c.loop-entry.machine (length c.args.machine.now.plan) c.loop-entry.invariant.0 c.in-Some.entry at c.in-Some.ensures.least c.in-Some.ensures.there in
    rw (at.issued, first.0) at

pub returns : goal.returns
returns c =
    let at = c.loop-entry.invariant.1 in
    let all = none_ready_all_released c.loop-entry.machine (length c.args.machine.now.plan) c.loop-entry.invariant.0 at c.in_default.ensures.least in
    subst (HasReleased c.loop-entry.machine (length c.args.machine.now.plan)) all at
