use Rattle.pooma_machine.proofs.machine.Machine.ready_from.Goals as goal

pub returns : goal.returns
returns g c = rw (← c.self.view_is) c.ready_from.ensures
