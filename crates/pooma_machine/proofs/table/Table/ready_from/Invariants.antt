use Rattle.std.proofs.Common.{◌<◌, ◌≤◌, ℕ}
use Rattle.pooma_machine.specs.Values.{asks_of}
use Rattle.pooma_machine.specs.Steps.{IsReady}
use Rattle.pooma_machine.proofs.table.Table.ready_from.Given as goal

abbrev pub invariant-loop-j : goal.invariant-loop-j
invariant-loop-j g l = (i : ℕ) → l.from ≤ i → i < l.j → IsReady (asks_of g.W.Work.meaning l.self.plan) l.self.history i → ⊥
