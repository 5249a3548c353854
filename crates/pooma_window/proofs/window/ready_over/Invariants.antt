use Rattle.std.proofs.Common.{◌-◌}
use Rattle.pooma_machine.specs.Steps.{IsReadyFor}
use Rattle.pooma_machine.specs.Values.{asks_of}
use Rattle.pooma_window.proofs.Choosing.{HasAllBelow}
use Rattle.pooma_window.proofs.window.ready_over.Given as goal

abbrev pub invariant-loop-entry : goal.invariant-loop-entry
invariant-loop-entry g l = HasAllBelow (IsReadyFor (asks_of g.W.Work.meaning l.machine.plan) l.machine.history l.object) l.from l.ready.items

abbrev pub decreases-loop-entry : goal.decreases-loop-entry
decreases-loop-entry g l = l.issued - l.from
