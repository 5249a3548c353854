-- How the laws speak of histories.
use Rattle.std.specs.Prelude.{◌⊎◌, ℕ, IsTrue, List}
use Rattle.pooma_machine.specs.declared.step.Event.{Event}
use Rattle.pooma_machine.specs.Steps.{IsLegal, status_of, is_out, is_released}
use Rattle.pooma_machine.specs.Values.{Meaning, asks_of}

-- the history is a legal one of the plan's entries
abbrev pub IsHistoryOf : {W V O S : Type 0} → Meaning W V O S → List W → List Event → Type 0
IsHistoryOf meaning plan history = IsLegal (asks_of meaning plan) history

-- it is so for every plan, all opening values and every legal history
abbrev pub ForEachHistory : {W V O S : Type 0} → Meaning W V O S → (List W → List V → List Event → Type 0) → Type 0
ForEachHistory {W} {V} meaning says = (plan : List W) (opening : List V) (history : List Event) → IsHistoryOf meaning plan history → says plan opening history

-- the entry is out, or was released
abbrev pub WasDispatched : List Event → ℕ → Type 0
WasDispatched history j = IsTrue (is_out (status_of history j)) ⊎ IsTrue (is_released (status_of history j))
