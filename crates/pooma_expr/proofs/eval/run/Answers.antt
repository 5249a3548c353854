use Rattle.std.proofs.Common.{arith, sym}
use Rattle.pooma_expr.proofs.Runs.{goes_on, same_places}
use Rattle.pooma_expr.proofs.eval.run.Goals as goal

pub overflow_add-at : goal.overflow_add-at
overflow_add-at g c =
    let next = goes_on _ _ _ _ _ _ _ _ _ _ _ c.loop-at.invariant.is_at c.loop-at-test.true c.in_ok-next.ensures.ok in
    omega (arith, next.within)

pub overflow_add-at-in-loop-at : goal.overflow_add-at-in-loop-at
overflow_add-at-in-loop-at g c =
    let next = goes_on _ _ _ _ _ _ _ _ _ _ _ c.loop-at.invariant.is_at c.loop-at-test.true c.in_ok-next.ensures.ok in
    omega (arith, next.within)

pub loop-at-preserved : goal.loop-at-preserved
loop-at-preserved g c =
    let next = goes_on _ _ _ _ _ _ _ _ _ _ _ c.loop-at.invariant.is_at c.loop-at-test.true c.in_ok-next.ensures.ok in
    record { within = c.in_ok-next.ensures.within; is_at = same_places _ _ _ _ _ _ _ _ _ (sym c.step.auto.places) next }
