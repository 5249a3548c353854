use Rattle.std.proofs.Common.{◌∙◌, length}
use Rattle.pooma_bench.proofs.Releases.{released_more}
use Rattle.pooma_bench.proofs.window.run_one.Goals as goal

pub returns : goal.returns
returns c =
    released_more c.args.machine.now c.release.new.self (length c.args.machine.now.plan) c.args.entry 0 c.requires.left c.requires.within (c.release.ensures.plan ∙ c.in-Ok.ensures.plan)
    (c.release.ensures.opening ∙ c.in-Ok.ensures.opening)
    (rw (c.perform.ensures.entry, c.in-Ok.ensures.entry, c.in-Ok.ensures.history) at c.release.ensures.history)
