use Rattle.std.proofs.Common.{take}
use Rattle.pooma_machine.specs.Values.{asks_of}
use Rattle.pooma_machine.proofs.Awaited.{NoneReady}
use Rattle.pooma_machine.proofs.table.Table.ready_for.Given as goal

abbrev pub invariant-loop-asked : goal.invariant-loop-asked
invariant-loop-asked g l = NoneReady (asks_of g.W.Work.meaning l.self.plan) l.self.history (take l.asked-index l.asked-items)
