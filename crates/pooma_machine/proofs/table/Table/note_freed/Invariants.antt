use Rattle.std.proofs.Common.{take}
use Rattle.pooma_machine.specs.Values.{asks_of}
use Rattle.pooma_machine.specs.Became.{Notes}
use Rattle.pooma_machine.proofs.Waking.{FreedAmong}
use Rattle.pooma_machine.proofs.table.Table.note_freed.Given as goal

abbrev pub invariant-loop-asked : goal.invariant-loop-asked
invariant-loop-asked g l = Notes (FreedAmong (asks_of g.W.Work.meaning l.self.plan) l.self.history l.j l.request.mode (take l.asked-index l.asked-items)) l.initial.became l.became
