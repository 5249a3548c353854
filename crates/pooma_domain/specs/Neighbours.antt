-- Cells beside a cell along an axis, and how far apart their places are.
use Rattle.std.specs.Prelude.{ℕ, zero, suc, ◌*◌, ℤ, ◌+ℤ◌, List, [], ◌∷◌}
use Rattle.pooma_domain.specs.Cells.{Interval, axis_length}

-- the cell that lies so far along an axis from this one
abbrev pub moved_along : ℕ → ℤ → List ℤ → List ℤ
moved_along n z [] = []
moved_along zero z (x ∷ xs) = (x +ℤ z) ∷ xs
moved_along (suc n) z (x ∷ xs) = x ∷ moved_along n z xs

-- from the place of a cell to that of the next one along an axis: the product of the lower axes' lengths
abbrev pub axis_stride : List Interval → ℕ → ℕ
axis_stride axes zero = 1
axis_stride [] (suc n) = 1
axis_stride (axis ∷ axes) (suc n) = axis_length axis * axis_stride axes n
