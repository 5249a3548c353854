-- The shape of an array: the box that its statements speak of, the box of all its cells, and for a field its faces.
use Rattle.std.specs.Prelude.{◌≡◌, ◌⊎◌, ℕ, zero, suc, ◌<◌, ℤ, pos, ◌+ℤ◌, ◌-ℤ◌, ◌≤ℤ◌, Bool, true, false, Option, Some, List, [], ◌∷◌, ◌++◌, length, slice_get, take, drop}
use Rattle.std.specs.Option.{ForSome, option_map_or}
use Rattle.pooma_domain.specs.Cells.{Interval, interval, axis_length, IsIn}
use Rattle.pooma_field.specs.declared.faces.Ends.{Ends}

-- the axes of the physical and of the total domain, and the updaters of the faces of each axis where the array is a field
pub record Shaped : Type 0 where
  pub physical : List Interval
  pub total : List Interval
  pub faces : Option (List Ends)

-- the total axis holds the physical one, and has on either side at most as many further numbers as that one has
pub record IsAround (physical total : Interval) : Type 0 where
  pub low : total.first ≤ℤ physical.first
  pub high : physical.last ≤ℤ total.last
  pub few_low : (physical.first -ℤ total.first) ≤ℤ pos (axis_length physical)
  pub few_high : (total.last -ℤ physical.last) ≤ℤ pos (axis_length physical)

-- each axis of the total domain lies around that of the physical one, and of a field each has its two updaters
pub record IsShape (shape : Shaped) : Type 0 where
  pub same_dims : length shape.total ≡ length shape.physical
  pub around : (n : ℕ) (p t : Interval) → slice_get shape.physical n ≡ Some p → slice_get shape.total n ≡ Some t → IsAround p t
  pub faced : ForSome shape.faces (λ faces. length faces ≡ length shape.physical)

-- the numbers of the total axis below the physical one; or where `high`, those above it
abbrev pub beyond : Bool → Interval → Interval → Interval
beyond false physical total = interval total.first (physical.first -ℤ pos 1)
beyond true physical total = interval (physical.last +ℤ pos 1) total.last

-- a slab of an axis: beyond the physical domain on that axis, total on the lower axes and physical on the greater ones
abbrev pub slab_axes : Bool → ℕ → List Interval → List Interval → List Interval
slab_axes high n [] total = []
slab_axes high n (p ∷ physical) [] = []
slab_axes high zero (p ∷ physical) (t ∷ total) = beyond high p t ∷ physical
slab_axes high (suc n) (p ∷ physical) (t ∷ total) = t ∷ slab_axes high n physical total

abbrev pub slab_of : Bool → ℕ → Shaped → List Interval
slab_of high axis shape = slab_axes high axis shape.physical shape.total

-- the array has the axis, and the cell lies in its low or in its high slab: it goes by this axis
abbrev pub IsInSlabs : Shaped → ℕ → List ℤ → Type 0
IsInSlabs shape axis c =
    (axis < length shape.physical) × (IsIn (slab_of false axis shape) c ⊎ IsIn (slab_of true axis shape) c)

-- the cells that are inside on an axis and on the greater ones: total on the lower axes alone
abbrev pub inside_from : ℕ → Shaped → List Interval
inside_from axis shape = take axis shape.total ++ drop axis shape.physical

-- the cells of an array that have a number of their own: all of a plain array, and the physical ones of a field
abbrev pub own_area : Shaped → List Interval
own_area shape = option_map_or (λ faces. shape.physical) shape.faces shape.total
