-- The box that some cells make up.
use Rattle.std.specs.Prelude.{ℕ, zero, suc, ℤ, pos, ◌-ℤ◌, ◌≤ℤ◌, ◌<ℤ◌, Bool, true, false, Option, Some, None, List, [], ◌∷◌}
use Rattle.pooma_domain.specs.Cells.{Interval, axis_length, interval}

-- so many whole numbers from one on
abbrev pub counting_from : ℕ → ℕ → List ℕ
counting_from k zero = []
counting_from k (suc m) = k ∷ counting_from (suc k) m

abbrev pub numbers_below : ℕ → List ℕ
numbers_below n = counting_from 0 n

-- the last of these, the first of which is this one
abbrev pub last_of : List ℤ → List (List ℤ) → List ℤ
last_of c [] = c
last_of c (d ∷ cells) = last_of d cells

-- on each axis the numbers from the one cell's coordinate to the other's
abbrev pub between : List ℤ → List ℤ → List Interval
between [] ys = []
between (x ∷ xs) [] = []
between (x ∷ xs) (y ∷ ys) = interval x y ∷ between xs ys

-- of the cells of a box, in their order, the box: from the first to the last of them; of no cells there is none
abbrev pub box_of : List (List ℤ) → Option (List Interval)
box_of [] = None
box_of (c ∷ cells) = Some (between c (last_of c cells))

-- the number is one of those from a first to a last one
pub record IsWithin (first last x : ℤ) : Type 0 where
  pub low : first ≤ℤ x
  pub high : x ≤ℤ last

-- the number lies below the axis, or where `high` above it, at most as far away as the axis is long
abbrev pub IsBesideAxis : Bool → Interval → ℤ → Type 0
IsBesideAxis false axis x = (x <ℤ axis.first) × ((axis.first -ℤ x) ≤ℤ pos (axis_length axis))
IsBesideAxis true axis x = (axis.last <ℤ x) × ((x -ℤ axis.last) ≤ℤ pos (axis_length axis))
