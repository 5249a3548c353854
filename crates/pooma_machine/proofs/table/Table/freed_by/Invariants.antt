use Rattle.std.proofs.Common.{take}
use Rattle.pooma_machine.specs.Values.{asks_of}
use Rattle.pooma_machine.proofs.Waking.{NamesThose, FreedOverSome}
use Rattle.pooma_machine.proofs.table.Table.freed_by.Given as goal

abbrev pub invariant-loop-request : goal.invariant-loop-request
invariant-loop-request g l = NamesThose (FreedOverSome (asks_of g.W.Work.meaning l.self.plan) l.self.history l.j (take l.request-index l.request-items)) l.became
