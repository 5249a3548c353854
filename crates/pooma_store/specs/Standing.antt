-- What the contents of arrays' objects say of a world. They are seen as a list, by the objects' numbers, wherever the objects are.
use Rattle.std.specs.Prelude.{◌≡◌, ℕ, ◌<◌, ℤ, None, List, [], length, slice_get, slice_index_or, IsSome, IsSomeAnd}
use Rattle.pooma_domain.specs.Cells.{IsIn}
use Rattle.pooma_view.specs.Slots.{cell_named, positions_of}
use Rattle.pooma_view.specs.Views.{Viewed}
use Rattle.pooma_field.specs.Numbered.{Numbered, number_at}
use Rattle.pooma_field.specs.Shapes.{Shaped, own_area}
use Rattle.pooma_field.specs.Worlds.{World, number_of, look_in, HasCell}
use Rattle.pooma_layout.specs.Axes.{CutAxis}
use Rattle.pooma_layout.specs.Patches.{allocated_boxes, owner_of, total_of}
use Rattle.pooma_store.specs.Numbering.{layout_at, object_at, object_of}

-- the array is there, and this is a cell of its total domain
pub record HasTotal (layouts : List (List CutAxis)) (array : ℕ) (c : List ℤ) : Type 0 where
  pub known : array < length layouts
  pub inside : IsIn (total_of (layout_at layouts array)) c

-- the number of the object whose patch owns a cell
abbrev pub owner_object : List (List CutAxis) → ℕ → List ℤ → ℕ
owner_object layouts array c = object_of layouts array (owner_of (layout_at layouts array) c)

-- the object of this number is there and has the cell, with this number
pub record HasNumber (objects : List Numbered) (k : ℕ) (c : List ℤ) (n : ℤ) : Type 0 where
  pub known : k < length objects
  pub inside : IsIn (object_at objects k).area c
  pub number : number_at (object_at objects k) c ≡ n

-- an array's total cell has this number in the patch that owns it
pub record OwnerHas (layouts : List (List CutAxis)) (objects : List Numbered) (array : ℕ) (c : List ℤ) (n : ℤ) : Type 0 where
  pub cell : HasTotal layouts array c
  pub number : HasNumber objects (owner_object layouts array c) c n

-- each cell that the world has a number for has this number in the patch that owns it
abbrev pub StandsFor : List (List CutAxis) → List Numbered → World → Type 0
StandsFor layouts objects world =
    (array : ℕ) (c : List ℤ) → HasCell world array c → OwnerHas layouts objects array c (number_of world array c)

-- the shape of an array; one that is not there is no field
abbrev pub shape_at : List Shaped → ℕ → Shaped
shape_at shapes array = slice_index_or shapes array (record { physical = []; total = []; faces = None })

-- an array of this shape is a field, and the world has a number for each of its physical cells
pub record IsField (world : World) (array : ℕ) (shape : Shaped) : Type 0 where
  pub faced : IsSome shape.faces
  pub known : (c : List ℤ) → IsIn shape.physical c → HasCell world array c

-- if the array is a field, each of its external cells has in the patch that owns it the number that looking it up gives
abbrev pub IsFresh : List Shaped → List (List CutAxis) → List Numbered → World → ℕ → Type 0
IsFresh shapes layouts objects world array =
    (c : List ℤ) → IsField world array (shape_at shapes array)
    → IsIn (shape_at shapes array).total c → ¬ (IsIn (shape_at shapes array).physical c)
    → OwnerHas layouts objects array c (look_in world (shape_at shapes array) array c)

-- what a view names at a position is a cell with a number of its own
abbrev pub IsOwn : List Shaped → Viewed → List ℤ → Type 0
IsOwn shapes view p = IsIn (own_area (shape_at shapes view.array)) (cell_named view.slots p)

-- if the view names an external cell of a field, the field is fresh
abbrev pub IsFreshFor : List Shaped → List (List CutAxis) → List Numbered → World → Viewed → Type 0
IsFreshFor shapes layouts objects world view =
    (p : List ℤ) → IsIn (positions_of view.slots) p → ¬ (IsOwn shapes view p) → IsFresh shapes layouts objects world view.array

-- there is a patch of this number, and it allocates the cell
abbrev pub Allocates : List CutAxis → ℕ → List ℤ → Type 0
Allocates layout p c = IsSomeAnd (slice_get (allocated_boxes layout) p) (λ box. IsIn box c)

-- each patch of the array has, at each cell that it allocates, the number that the cell has in the patch that owns it
abbrev pub IsGuarded : List (List CutAxis) → List Numbered → ℕ → Type 0
IsGuarded layouts objects array =
    (p : ℕ) (c : List ℤ) (n : ℤ) → Allocates (layout_at layouts array) p c → OwnerHas layouts objects array c n
    → HasNumber objects (object_of layouts array p) c n
