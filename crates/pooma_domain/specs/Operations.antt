-- What is made of boxes: as lists of axes, and as sets of cells.
use Rattle.std.specs.Prelude.{◌≡◌, ◌↔◌, ℕ, ℤ, neg_ℤ, ◌+ℤ◌, IfSome, List, [], ◌∷◌, slice_get}
use Rattle.std.specs.Int.{int_max, int_min}
use Rattle.pooma_domain.specs.Cells.{Interval, interval, IsIn}

-- what a function makes of two lists, place by place
abbrev pub each_of : {A B C : Type 0} → (A → B → C) → List A → List B → List C
each_of f [] ys = []
each_of f (x ∷ xs) [] = []
each_of f (x ∷ xs) (y ∷ ys) = f x y ∷ each_of f xs ys

-- the numbers that two axes share
abbrev pub common : Interval → Interval → Interval
common a b = interval (int_max a.first b.first) (int_min a.last b.last)

abbrev pub common_axes : List Interval → List Interval → List Interval
common_axes a b = each_of common a b

-- some cell lies in both boxes
abbrev pub HaveCommonCell : List Interval → List Interval → Type 0
HaveCommonCell a b = (c : List ℤ) × IsIn a c × IsIn b c

-- the cells of the third box are those that lie in both others
abbrev pub IsMeeting : List Interval → List Interval → List Interval → Type 0
IsMeeting a b both = (c : List ℤ) → IsIn both c ↔ (IsIn a c × IsIn b c)

-- the cell, moved by so much on each axis
abbrev pub moved : List ℤ → List ℤ → List ℤ
moved c by = each_of (λ x y. x +ℤ y) c by

-- the axis, moved by so much
abbrev pub shifted_axis : Interval → ℤ → Interval
shifted_axis axis by = interval (axis.first +ℤ by) (axis.last +ℤ by)

abbrev pub shifted : List Interval → List ℤ → List Interval
shifted axes by = each_of shifted_axis axes by

-- the cells of the new box are the moved cells of the old one
abbrev pub IsShifted : List Interval → List ℤ → List Interval → Type 0
IsShifted old by new = (c : List ℤ) → IsIn new c ↔ ((d : List ℤ) × IsIn old d × (c ≡ moved d by))

-- the moves down by at most one number and up by at most another
abbrev pub reach : ℤ → ℤ → Interval
reach low high = interval (neg_ℤ low) high

abbrev pub reaches : List ℤ → List ℤ → List Interval
reaches low high = each_of reach low high

-- the numbers that moves of the second axis make of the first
abbrev pub grown_axis : Interval → Interval → Interval
grown_axis axis moves = interval (axis.first +ℤ moves.first) (axis.last +ℤ moves.last)

abbrev pub grown : List Interval → List Interval → List Interval
grown axes moves = each_of grown_axis axes moves

-- the cells of the new box are those that a move of the second box makes of a cell of the old one
abbrev pub IsGrown : List Interval → List Interval → List Interval → Type 0
IsGrown old moves new =
    (c : List ℤ) → IsIn new c ↔ ((d : List ℤ) × (m : List ℤ) × IsIn old d × IsIn moves m × (c ≡ moved d m))

-- the part of a box whose cells have a coordinate on this axis that passes a test
abbrev pub IsPart : List Interval → ℕ → (ℤ → Type 0) → List Interval → Type 0
IsPart box n Passes part = (c : List ℤ) → IsIn part c ↔ (IsIn box c × IfSome (slice_get c n) Passes)
