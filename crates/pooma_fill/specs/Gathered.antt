-- What the laws of the crates below say of boxes, of the owners of cells and of the objects that are changed, in one place. No
-- contract of a public call cites it.
use Rattle.std.specs.Prelude.{◌≡◌, ◌≢◌, ℕ, ◌<◌, ℤ, Some, List, length, slice_get}
use Rattle.pooma_domain.specs.Cells.{Interval}
use Rattle.pooma_domain.specs.Operations.{common_axes, IsMeeting}
use Rattle.pooma_field.specs.Numbered.{Change, Numbered}
use Rattle.pooma_field.specs.Worlds.{World, HasCell}
use Rattle.pooma_layout.specs.Axes.{CutAxis}
use Rattle.pooma_layout.specs.Patches.{Owns}
use Rattle.pooma_piece.specs.Gathered.{OfCells, StayWords}
use Rattle.pooma_store.specs.Gathered.{OfOwners, StayObjects}
use Rattle.pooma_store.specs.Numbering.{AreObjects, EachCell, HasPatch, changed_at, layout_at, object_of}
use Rattle.pooma_store.specs.Standing.{OwnerHas, StandsFor}

pub record HasLaws : Type 0 where
  -- the cells of boxes
  pub cells : OfCells
  pub meeting : (a b : List Interval) → length a ≡ length b → IsMeeting a b (common_axes a b)
  -- their owners
  pub owners : OfOwners
  -- the objects
  pub objects : StayObjects
  pub set : (layouts : List (List CutAxis)) (objects : List Numbered) (array p : ℕ) (changes : List Change) (k : ℕ) (change : Change) → AreObjects layouts objects → HasPatch layouts array p → Owns (layout_at layouts array) p change.cell → slice_get changes k ≡ Some change → ((j : ℕ) (later : Change) → k < j → slice_get changes j ≡ Some later → later.cell ≢ change.cell) → OwnerHas layouts (changed_at objects (object_of layouts array p) changes) array change.cell change.number
  pub kept : (layouts : List (List CutAxis)) (objects : List Numbered) (array p : ℕ) (changes : List Change) (other : ℕ) (c : List ℤ) (n : ℤ) → AreObjects layouts objects → HasPatch layouts array p → (other ≡ array → EachCell changes (λ cell. Owns (layout_at layouts array) p cell → c ≢ cell)) → OwnerHas layouts objects other c n → OwnerHas layouts (changed_at objects (object_of layouts array p) changes) other c n
  pub unseen : (layouts : List (List CutAxis)) (objects : List Numbered) (world : World) (array p : ℕ) (changes : List Change) → AreObjects layouts objects → HasPatch layouts array p → EachCell changes (λ cell. Owns (layout_at layouts array) p cell → ¬ (HasCell world array cell)) → StandsFor layouts objects world → StandsFor layouts (changed_at objects (object_of layouts array p) changes) world
  -- numbers of 64 bits
  pub words : StayWords
