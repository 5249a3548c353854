-- What contracts see of a store's arrays, and how the numbers of their objects are kept.
use Rattle.std.specs.Prelude.{◌≡◌, ℕ, ◌<◌, List, length, map, slice_index_or, take}
use Rattle.pooma_field.specs.Shapes.{Shaped}
use Rattle.pooma_field.specs.ShapeOf.{shape_of}
use Rattle.pooma_layout.specs.Axes.{CutAxis}
use Rattle.pooma_store.specs.declared.arrays.Array.{Array}
use Rattle.pooma_store.specs.Numbering.{object_count}

-- the arrays' shapes and layouts by the arrays' numbers
pub record Arrayed : Type 0 where
  pub shapes : List Shaped
  pub layouts : List (List CutAxis)

abbrev pub shapes_of : List Array → List Shaped
shapes_of arrays = map (λ array. shape_of array.shape) arrays

abbrev pub layouts_of : List Array → List (List CutAxis)
layouts_of arrays = map (λ array. array.layout) arrays

abbrev pub firsts_of : List Array → List ℕ
firsts_of arrays = map (λ array. array.first) arrays

-- the first number kept for each array is the number of objects of the arrays before it
abbrev pub AreFirsts : List (List CutAxis) → List ℕ → Type 0
AreFirsts layouts firsts = (array : ℕ) → array < length layouts → slice_index_or firsts array 0 ≡ object_count (take array layouts)
