use Rattle.std.proofs.Common.{refl, subst, sym}
use Rattle.pooma_top.specs.Prepared.{IsReady}
use Rattle.pooma_top.proofs.program.finish_one.Goals as goal

pub returns-in-Ready-clause-unasked : goal.returns-in-Ready-clause-unasked
returns-in-Ready-clause-unasked g c none =
    absurd (none c.in-Ready.program c.in-Ready.workers (subst (λ p. IsReady c.in-Ready.program c.in-Ready.workers p) (sym c.in-Ready.is) (refl, refl)))
