-- Cells, the boxes that are sets of them, and the order in which the first index is fastest.
use Rattle.std.specs.Prelude.{◌≡◌, ◌⊎◌, ℕ, zero, suc, ◌^◌, ◌<◌, ◌≤◌, ℤ, pos, negsuc, neg_ℤ, ◌+ℤ◌, ◌-ℤ◌, ◌≤ℤ◌, ◌<ℤ◌, List, [], ◌∷◌, length, map, flat_map, All, Bool, ◌&&◌}
use Rattle.std.specs.Ordering.{int_eq}

-- the whole numbers from a first to a last one, as an axis of a box has them; none where the last is below the first
pub record Interval : Type 0 where
  pub first : ℤ
  pub last : ℤ

abbrev pub interval : ℤ → ℤ → Interval
interval first last = record { first = first; last = last }

-- whether two axes have the same first and the same last number
abbrev pub interval_eq : Interval → Interval → Bool
interval_eq a b = int_eq a.first b.first && int_eq a.last b.last

-- how many a whole number counts: none where it is negative
abbrev pub count_of : ℤ → ℕ
count_of (pos n) = n
count_of (negsuc n) = 0

-- so many whole numbers in a row
abbrev pub counting : ℤ → ℕ → List ℤ
counting first zero = []
counting first (suc n) = first ∷ counting (first +ℤ pos 1) n

-- how many numbers an axis has
abbrev pub axis_length : Interval → ℕ
axis_length axis = count_of ((axis.last -ℤ axis.first) +ℤ pos 1)

-- the numbers of an axis in order
abbrev pub coordinates : Interval → List ℤ
coordinates axis = counting axis.first (axis_length axis)

-- the cells of a box in order: the first axis goes round for each cell of the others
abbrev pub cells_of : List Interval → List (List ℤ)
cells_of [] = [] ∷ []
cells_of (axis ∷ axes) = flat_map (λ rest. map (λ x. x ∷ rest) (coordinates axis)) (cells_of axes)

-- the cell has one coordinate on each axis of the box, between the axis's first and last number
abbrev pub IsIn : List Interval → List ℤ → Type 0
IsIn [] [] = Unit {0}
IsIn [] (x ∷ xs) = ⊥
IsIn (axis ∷ axes) [] = ⊥
IsIn (axis ∷ axes) (x ∷ xs) = (axis.first ≤ℤ x) × (x ≤ℤ axis.last) × IsIn axes xs

-- on the greatest axis on which the cells differ, the first has the smaller coordinate
abbrev pub IsBefore : List ℤ → List ℤ → Type 0
IsBefore [] ys = ⊥
IsBefore (x ∷ xs) [] = ⊥
IsBefore (x ∷ xs) (y ∷ ys) = IsBefore xs ys ⊎ ((xs ≡ ys) × (x <ℤ y))

-- the axis has a number
abbrev pub IsOrdered : Interval → Type 0
IsOrdered axis = axis.first ≤ℤ axis.last

-- an axis has a number, and all its numbers lie within plus and minus 4,000,000
pub record IsAxis (axis : Interval) : Type 0 where
  pub ordered : axis.first ≤ℤ axis.last
  pub low : neg_ℤ (pos 4000000) ≤ℤ axis.first
  pub high : axis.last ≤ℤ pos 4000000

-- a box has at most three axes, and its number of cells is that of a signed number of 64 bits
pub record IsBox (axes : List Interval) : Type 0 where
  pub few : length axes ≤ 3
  pub whole : All IsAxis axes
  pub countable : length (cells_of axes) < 2 ^ 63
