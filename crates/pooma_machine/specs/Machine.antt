-- What a machine's objects have to do with its history between its calls.
use Rattle.std.specs.Prelude.{◌≡◌, ◌<◌, ℕ, IsTrue, is_some, All, option_map, List, length, map, slice_get, Option, Some, None}
use Rattle.pooma_machine.specs.declared.step.Event.{Event}
use Rattle.pooma_machine.specs.Steps.{requests_of, status_of, is_out, is_released}
use Rattle.pooma_machine.specs.Values.{Meaning, values, asks_of, lent_by, written_object}
use Rattle.pooma_machine.specs.Kept.{IsSound}

-- the work fits what objects of these shapes lend to it
abbrev pub FitsShapes : {W V O S : Type 0} → Meaning W V O S → List S → W → Type 0
FitsShapes meaning shapes work = IsTrue (meaning.fits work (lent_by shapes (meaning.requests work)).written (lent_by shapes (meaning.requests work)).reads)

-- the contents and outcomes that a machine has are those that its history gives; an object whose value is lent to write has none
pub record Matches {W V O S : Type 0} (meaning : Meaning W V O S) (plan : List W) (opening : List V) (history : List Event) (homes : List (Option V)) (outcomes : List (Option O)) : Type 0 where
  pub sound : IsSound (asks_of meaning plan) history
  -- the objects are those of the beginning, and keep their shapes
  pub count : length homes ≡ length opening
  pub shapes : map meaning.shape (values meaning plan opening history).objects ≡ map meaning.shape opening
  pub fitting : (j : ℕ) (work : W) → slice_get plan j ≡ Some work → FitsShapes meaning (map meaning.shape opening) work
  -- a value that isn't away is the present one of its object
  pub home : (o : ℕ) (content : V) → slice_get homes o ≡ Some (Some content) → slice_get (values meaning plan opening history).objects o ≡ Some content
  -- a value that is away is lent to an entry that is out and asked to write it
  pub away : (o : ℕ) → slice_get homes o ≡ Some None → (i : ℕ) × IsTrue (is_out (status_of history i)) × (written_object (requests_of (asks_of meaning plan) i) ≡ Some o)
  -- an entry that is out and asked to write got a value of its object's shape
  pub lent : (i o : ℕ) → IsTrue (is_out (status_of history i)) → written_object (requests_of (asks_of meaning plan) i) ≡ Some o → option_map meaning.shape ((values meaning plan opening history).lent i).written ≡ slice_get (map meaning.shape opening) o
  -- each entry asks for objects that are there
  pub ranges : (j : ℕ) → j < length plan → All (λ r. r.object < length homes) (requests_of (asks_of meaning plan) j)
  -- the outcomes are those of the history, of the released entries and no others
  pub outcomes_count : length outcomes ≡ length plan
  pub kept : (j : ℕ) → j < length plan → slice_get outcomes j ≡ Some ((values meaning plan opening history).outcome j)
  pub answered : (j : ℕ) → is_some ((values meaning plan opening history).outcome j) ≡ is_released (status_of history j)
