-- Rows of cells: cells that lie a stride apart along an axis.
use Rattle.std.specs.Prelude.{◌≡◌, ℕ, ◌<◌, ℤ, pos, ◌*ℤ◌, List}
use Rattle.pooma_compress.specs.Rows.{row_place}
use Rattle.pooma_domain.specs.Cells.{Interval, IsIn}
use Rattle.pooma_domain.specs.Neighbours.{moved_along}
use Rattle.pooma_field.specs.Numbered.{place_in}

-- the k-th cell of a row along an axis, counted from 0; the stride may be negative
abbrev pub row_cell : List ℤ → ℕ → ℤ → ℕ → List ℤ
row_cell first axis stride k = moved_along axis (stride *ℤ pos k) first

-- each of so many cells of a row lies in the box
abbrev pub IsRowIn : List Interval → List ℤ → ℕ → ℤ → ℕ → Type 0
IsRowIn area first axis stride count = (k : ℕ) → k < count → IsIn area (row_cell first axis stride k)

-- the cells of a row stand at the places of a row
abbrev pub ArePlaced : List Interval → List ℤ → ℕ → ℤ → ℕ → ℕ → ℤ → Type 0
ArePlaced area first axis stride count place step =
    (k : ℕ) → k < count → pos (place_in area (row_cell first axis stride k)) ≡ row_place place step k
