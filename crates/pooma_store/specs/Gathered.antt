-- What the laws of the crates below say of cells, their owners and their numbers, in one place, with what several of the records
-- of laws above say. No contract of a call cites it.
use Rattle.std.specs.Prelude.{◌≡◌, ◌≢◌, ℕ, ◌<◌, ℤ, pos, Some, List, length, slice_get, All}
use Rattle.pooma_domain.specs.Cells.{Interval, IsIn}
use Rattle.pooma_field.specs.Numbered.{Numbered, Change, number_at, with_number, with_changes, IsFull}
use Rattle.pooma_field.specs.Shapes.{Shaped}
use Rattle.pooma_field.specs.Worlds.{World, array_of, number_of, changed, opening_world}
use Rattle.pooma_layout.specs.Axes.{CutAxis, IsCutAxis}
use Rattle.pooma_layout.specs.Patches.{owned_boxes, allocated_of, owner_of, total_of, Owns}
use Rattle.pooma_store.specs.Numbering.{AreObjects, changed_at}

-- each total cell has one owner
pub record OfOwners : Type 0 where
  pub total : (layout : List CutAxis) (p : ℕ) (c : List ℤ) → All IsCutAxis layout → Owns layout p c → IsIn (total_of layout) c
  pub owned : (layout : List CutAxis) (c : List ℤ) → IsIn (total_of layout) c → Owns layout (owner_of layout c) c
  pub only : (layout : List CutAxis) (p : ℕ) (c : List ℤ) → All IsCutAxis layout → Owns layout p c → p ≡ owner_of layout c

-- a patch allocates the cells that it owns
abbrev pub AllocateOwn : Type 0
AllocateOwn = (layout : List CutAxis) (p : ℕ) (box : List Interval) (c : List ℤ) → All IsCutAxis layout → slice_get (owned_boxes layout) p ≡ Some box → IsIn box c → IsIn (allocated_of layout box) c

-- changes of one object leave objects of the layouts
abbrev pub StayObjects : Type 0
StayObjects = (layouts : List (List CutAxis)) (objects : List Numbered) (k : ℕ) (changes : List Change) → AreObjects layouts objects → k < length objects → AreObjects layouts (changed_at objects k changes)

pub record HasLaws : Type 0 where
  pub owners : OfOwners
  pub own : AllocateOwn
  -- what a box of numbers is after changes
  pub set : (a : Numbered) (c : List ℤ) (n : ℤ) → IsFull a → IsIn a.area c → number_at (with_number a c n) c ≡ n
  pub kept : (a : Numbered) (c d : List ℤ) (n : ℤ) → IsFull a → d ≢ c → number_at (with_number a c n) d ≡ number_at a d
  pub all_set : (a : Numbered) (changes : List Change) (k : ℕ) (change : Change) → IsFull a → IsIn a.area change.cell → slice_get changes k ≡ Some change → ((j : ℕ) (later : Change) → k < j → slice_get changes j ≡ Some later → later.cell ≢ change.cell) → number_at (with_changes a changes) change.cell ≡ change.number
  pub all_kept : (a : Numbered) (changes : List Change) (d : List ℤ) → IsFull a → ((k : ℕ) (change : Change) → slice_get changes k ≡ Some change → d ≢ change.cell) → number_at (with_changes a changes) d ≡ number_at a d
  pub area : (a : Numbered) (changes : List Change) → (with_changes a changes).area ≡ a.area
  pub full : (a : Numbered) (changes : List Change) → IsFull a → IsFull (with_changes a changes)
  -- what a world's arrays are after changes of one, and in the opening world
  pub this : (world : World) (array : ℕ) (changes : List Change) → array < length world.arrays → array_of (changed world array changes) array ≡ with_changes (array_of world array) changes
  pub others : (world : World) (array other : ℕ) (changes : List Change) → other ≢ array → array_of (changed world array changes) other ≡ array_of world other
  pub opening : (shapes : List Shaped) (scalars array : ℕ) (c : List ℤ) → number_of (opening_world shapes scalars) array c ≡ pos 0
