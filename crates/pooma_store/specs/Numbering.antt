-- The data objects of arrays: one for each patch, numbered by arrays in order and in each array by patch. Arrays are seen as the
-- list of their layouts.
use Rattle.std.specs.Prelude.{◌≡◌, ℕ, ◌+◌, ◌<◌, ℤ, pos, Some, List, [], length, map, flat_map, replicate, slice_get, slice_index_or, slice_set, sum_by, take, All}
use Rattle.pooma_domain.specs.Cells.{Interval, cells_of}
use Rattle.pooma_field.specs.Numbered.{Numbered, Change, with_changes, IsFull}
use Rattle.pooma_layout.specs.Axes.{CutAxis}
use Rattle.pooma_layout.specs.Patches.{owned_boxes, allocated_boxes, IsLayout}

-- the layout of an array; of one that is not there, no axes
abbrev pub layout_at : List (List CutAxis) → ℕ → List CutAxis
layout_at layouts array = slice_index_or layouts array []

-- how many patches an array of this layout has
abbrev pub patch_count : List CutAxis → ℕ
patch_count layout = length (owned_boxes layout)

-- how many objects arrays of these layouts have
abbrev pub object_count : List (List CutAxis) → ℕ
object_count layouts = sum_by patch_count layouts

-- the number of the object of an array's patch: those of the arrays before it come first
abbrev pub object_of : List (List CutAxis) → ℕ → ℕ → ℕ
object_of layouts array patch = object_count (take array layouts) + patch

-- the array is there, cut by a layout, and has a patch of this number
pub record HasPatch (layouts : List (List CutAxis)) (array patch : ℕ) : Type 0 where
  pub known : array < length layouts
  pub cut : IsLayout (layout_at layouts array)
  pub within : patch < patch_count (layout_at layouts array)

-- the box of each object, by its number
abbrev pub areas_of : List (List CutAxis) → List (List Interval)
areas_of layouts = flat_map allocated_boxes layouts

-- these are contents of all objects: each over its box, with a number for each cell
pub record AreObjects (layouts : List (List CutAxis)) (objects : List Numbered) : Type 0 where
  pub areas : map (λ object. object.area) objects ≡ areas_of layouts
  pub full : All IsFull objects

-- the content of the object of this number; of one that is not there, no cell that a total domain has
abbrev pub object_at : List Numbered → ℕ → Numbered
object_at objects k = slice_index_or objects k (record { area = []; numbers = [] })

-- the contents, where some cells of one object got other numbers
abbrev pub changed_at : List Numbered → ℕ → List Change → List Numbered
changed_at objects k changes = slice_set objects k (with_changes (object_at objects k) changes)

-- it is so of each cell that one of the changes speaks of
abbrev pub EachCell : List Change → (List ℤ → Type 0) → Type 0
EachCell changes P = (k : ℕ) (change : Change) → slice_get changes k ≡ Some change → P change.cell

-- a box whose cells all have the number 0
abbrev pub zeros_over : List Interval → Numbered
zeros_over box = record { area = box; numbers = replicate (length (cells_of box)) (pos 0) }

-- the contents of the objects of a new array, and of new arrays
abbrev pub new_patches : List CutAxis → List Numbered
new_patches layout = map zeros_over (allocated_boxes layout)

abbrev pub new_objects : List (List CutAxis) → List Numbered
new_objects layouts = flat_map new_patches layouts
