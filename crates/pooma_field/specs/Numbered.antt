-- A box with a number for each of its cells, and what it is after some of the numbers were changed.
use Rattle.std.specs.Prelude.{◌≡◌, ℕ, ℤ, pos, Bool, List, [], ◌∷◌, length, slice_index_or, slice_set}
use Rattle.std.specs.Cmp.Lexicographic.{pointwise}
use Rattle.std.specs.List.{position_or_len}
use Rattle.std.specs.Ordering.{int_eq}
use Rattle.pooma_domain.specs.Cells.{Interval, cells_of}

-- a box, and one number for each of its cells, in the order of the box's cells
pub record Numbered : Type 0 where
  pub area : List Interval
  pub numbers : List ℤ

-- whether two cells have the same coordinates
abbrev pub is_same_cell : List ℤ → List ℤ → Bool
is_same_cell c d = pointwise int_eq c d

-- where the cell stands in the order of the box's cells, counted from 0; at their end where it is none of them
unfoldable pub place_in : List Interval → List ℤ → ℕ
place_in box c = position_or_len (λ d. is_same_cell d c) (cells_of box)

-- the number at a cell; 0 where the box does not have the cell
abbrev pub number_at : Numbered → List ℤ → ℤ
number_at a c = slice_index_or a.numbers (place_in a.area c) (pos 0)

-- the same, where this cell, if the box has it, has this number
abbrev pub with_number : Numbered → List ℤ → ℤ → Numbered
with_number a c n = record a { numbers = slice_set a.numbers (place_in a.area c) n }

-- a cell, and the number that it gets
pub record Change : Type 0 where
  pub cell : List ℤ
  pub number : ℤ

-- the same, where these changes were made one after another
abbrev pub with_changes : Numbered → List Change → Numbered
with_changes a [] = a
with_changes a (change ∷ changes) = with_changes (with_number a change.cell change.number) changes

-- each cell has its number
abbrev pub IsFull : Numbered → Type 0
IsFull a = length a.numbers ≡ length (cells_of a.area)
