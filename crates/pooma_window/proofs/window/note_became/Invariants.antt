use Rattle.std.proofs.Common.{ℕ, take, Contains}
use Rattle.pooma_machine.specs.Steps.{IsReady}
use Rattle.pooma_machine.specs.Values.{asks_of}
use Rattle.pooma_window.proofs.window.note_became.Given as goal

abbrev pub invariant-loop-entry : goal.invariant-loop-entry
invariant-loop-entry g l =
    record {
      stays : (j : ℕ) → Contains l.choices j → IsReady (asks_of g.W.Work.meaning l.machine.plan) l.machine.history j;
      old : (j : ℕ) → Contains l.fn.choices j → Contains l.choices j;
      named : (j : ℕ) → Contains (take l.entry-index l.entry-items) j → Contains l.choices j;
    }
