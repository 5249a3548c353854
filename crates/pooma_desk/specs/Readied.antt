-- Which entries an event of a history makes ready, and which of those that are ready are dispatched.
use Rattle.std.specs.Prelude.{◌≡◌, ◌≤◌, ◌++◌, ℕ, List, [], ◌∷◌, map}
use Rattle.pooma_machine.specs.declared.step.Request.{Request}
use Rattle.pooma_machine.specs.declared.step.Event.{Event}
use Rattle.pooma_machine.specs.declared.step.EventKind.TheVariants as kind
use Rattle.pooma_machine.specs.Steps.{IsReady, IsLeastReady, event_of}
use Rattle.pooma_machine.specs.Became.{BecameReady, TellsReady, Woken}

-- the history ends with these events, and this holds of what was before them
abbrev pub EndsWith : List Event → List Event → (List Event → Type 0) → Type 0
EndsWith history last says = (before : List Event) × (history ≡ before ++ last) × says before

-- an entry may be dispatched once the event has happened, and could not be before it
abbrev pub IsReadied : List (List Request) → List Event → Event → ℕ → Type 0
IsReadied plan before event j = BecameReady plan before (before ++ event ∷ []) j

-- the least entry of which that is so
pub record IsLeastReadied (plan : List (List Request)) (before : List Event) (event : Event) (j : ℕ) : Type 0 where
  pub readied : IsReadied plan before event j
  pub least : (i : ℕ) → IsReadied plan before event i → j ≤ i

-- there is none
abbrev pub NoneReadied : List (List Request) → List Event → Event → Type 0
NoneReadied plan before event = (j : ℕ) → IsReadied plan before event j → ⊥

-- the event stands in the history, and the answer names the entries that it made ready
pub record TellsReadied (plan : List (List Request)) (history : List Event) (event : Event) (woken : Woken) : Type 0 where
  pub before : List Event
  pub later : List Event
  pub stands : history ≡ before ++ event ∷ later
  pub tells : TellsReady plan before (before ++ event ∷ []) woken

-- the dispatches of these entries at a seat, in order
abbrev pub dispatches_of : ℕ → List ℕ → List Event
dispatches_of seat entries = map (λ j. event_of kind.Dispatch j seat) entries

-- after this history these entries are dispatched at a seat, one after another, each of them the least from this number on that
-- may be dispatched then
abbrev pub DispatchesLeast : List (List Request) → ℕ → ℕ → List Event → List ℕ → Type 0
DispatchesLeast plan seat from history [] = Unit {0}
DispatchesLeast plan seat from history (j ∷ js) = IsLeastReady plan history from j × DispatchesLeast plan seat from (history ++ event_of kind.Dispatch j seat ∷ []) js

-- no entry from this number on may be dispatched
abbrev pub NoneReady : List (List Request) → List Event → ℕ → Type 0
NoneReady plan history from = (j : ℕ) → from ≤ j → IsReady plan history j → ⊥
