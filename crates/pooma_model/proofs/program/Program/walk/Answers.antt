use Rattle.pooma_model.proofs.Fitting.{fit-drafted}
use Rattle.pooma_model.proofs.Walks.{walk_over}
use Rattle.pooma_model.proofs.program.Program.walk.Goals as goal

pub returns-clause-order : goal.returns-clause-order
returns-clause-order c =
    rw (c.over.ensures, c.deref.ensures.value, ← c.self.view_is) (walk_over c.self.inside.lines.items c.self.invariant.nested)

pub returns-clause-fit : goal.returns-clause-fit
returns-clause-fit c = rw (← c.self.view_is) (fit-drafted _ _ c.self.invariant.nested c.self.invariant.fit)
