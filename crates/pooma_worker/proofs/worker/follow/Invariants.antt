use Rattle.std.proofs.Common.{◌≡◌, Some, slice_get}
use Rattle.pooma_desk.specs.Tokens.{HasOut, plan_of, values_after}
use Rattle.pooma_worker.proofs.Doing.{IsUnderway}
use Rattle.pooma_worker.proofs.worker.follow.Given as goal

abbrev pub invariant-loop : goal.invariant-loop
invariant-loop g l =
    (goal.iterator-loop g).can_next l.iterator' × (goal.iterator-loop g).is_finite l.iterator'
    × IsUnderway l.fn.pass l.pass l.fn.entry l.loan.entry
    × HasOut l.pass l.loan.entry
    × (slice_get (plan_of l.pass) l.loan.entry ≡ Some l.loan.work)
    × (l.loan.lent ≡ (values_after g.W.Work.meaning l.pass).lent l.loan.entry)
