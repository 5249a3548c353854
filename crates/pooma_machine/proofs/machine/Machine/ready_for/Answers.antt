use Rattle.std.proofs.Common.{◌∙◌, ◌<◌, sym, subst}
use Rattle.pooma_machine.proofs.machine.Machine.ready_for.Goals as goal

pub ready_for-requires : goal.ready_for-requires
ready_for-requires g c = subst (λ n. c.args.object < n) (sym (c.self.invariant.1 ∙ c.self.invariant.0.count)) (rw (← c.self.view_is) at c.requires)

pub returns-clause-least : goal.returns-clause-least
returns-clause-least g c = rw (← c.self.view_is) c.ready_for.ensures.least
