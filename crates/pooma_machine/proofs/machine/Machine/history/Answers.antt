use Rattle.std.proofs.Common.{◌∙◌}
use Rattle.std.proofs.lemmas.List.{length-map}
use Rattle.pooma_machine.proofs.machine.Machine.history.Goals as goal

pub returns-clause-legal : goal.returns-clause-legal
returns-clause-legal g c = rw (← c.self.view_is) c.self.invariant.0.sound.legal

pub returns-clause-issued : goal.returns-clause-issued
returns-clause-issued g c = rw (← c.self.view_is) (c.self.invariant.0.sound.issued ∙ length-map c.self.inside.table.plan g.W.Work.meaning.requests)
