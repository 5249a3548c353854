use Rattle.std.proofs.Common.{rules}
use Rattle.pooma_view.proofs.Runs.{kept}
use Rattle.pooma_view.proofs.common.Run.of.Goals as goal

pub invariant_of-result : goal.invariant_of-result
invariant_of-result c =
    let run = (kept c.args.numbers.first c.args.numbers.stride c.at-last.result _ _ c.args.numbers.count _ _ _ c.args.numbers.moves c.args.numbers.some (search rules) (search rules) (search rules) c.at-last.ensures.value c.min.ensures.value c.from.ensures c.unsigned_abs.ensures.value c.from-2.ensures c.from-3.ensures).0 in
    record { moves = run.moves; small_step = run.small_step; some = run.some; low = run.low; high = run.high }

pub returns : goal.returns
returns c =
    (kept c.args.numbers.first c.args.numbers.stride c.at-last.result _ _ c.args.numbers.count _ _ _ c.args.numbers.moves c.args.numbers.some (search rules) (search rules) (search rules) c.at-last.ensures.value c.min.ensures.value c.from.ensures c.unsigned_abs.ensures.value c.from-2.ensures c.from-3.ensures).1
