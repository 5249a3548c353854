use Rattle.std.proofs.Common.{ℕ, ◌<◌, ◌-◌, Contains}
use Rattle.pooma_machine.specs.Steps.{IsReady}
use Rattle.pooma_machine.specs.Values.{asks_of}
use Rattle.pooma_window.proofs.window.note_ready.Given as goal

abbrev pub invariant-loop-entry : goal.invariant-loop-entry
invariant-loop-entry g l =
    record {
      stays : (j : ℕ) → Contains l.choices j → IsReady (asks_of g.W.Work.meaning l.machine.plan) l.machine.history j;
      below : (j : ℕ) → j < l.from → IsReady (asks_of g.W.Work.meaning l.machine.plan) l.machine.history j → Contains l.choices j;
    }

abbrev pub decreases-loop-entry : goal.decreases-loop-entry
decreases-loop-entry g l = l.issued - l.from
