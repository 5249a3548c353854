-- How many holds there are on an entry.
use Rattle.std.specs.Prelude.{◌≡◌, ◌↔◌, ◌<◌, ℕ, List, length, false, Contains, AllPairs}
use Rattle.pooma_machine.specs.declared.step.Request.{Request}
use Rattle.pooma_machine.specs.declared.step.Event.{Event}
use Rattle.pooma_machine.specs.Steps.{ConflictOver, status_of, is_released}

-- a pair of an entry and an object
pub record Hold : Type 0 where
  pub by : ℕ
  pub object : ℕ

-- it holds entry j back: its entry is earlier, was not released, and conflicts with j over its object
pub record Holds (plan : List (List Request)) (history : List Event) (j : ℕ) (hold : Hold) : Type 0 where
  pub earlier : hold.by < j
  pub unreleased : is_released (status_of history hold.by) ≡ false
  pub over : ConflictOver plan hold.by j hold.object

-- so many pairs hold entry j back: a list of that length has each of them, once, and no other
abbrev pub IsCount : List (List Request) → List Event → ℕ → ℕ → Type 0
IsCount plan history j count =
    (holds : List Hold) × AllPairs (λ a b. a ≡ b → ⊥) holds × ((hold : Hold) → Contains holds hold ↔ Holds plan history j hold) × (count ≡ length holds)
