-- Where numbers at equal steps come past a border.
use Rattle.std.specs.Prelude.{◌≡◌, ◌⊎◌, ℕ, ℤ, pos, ◌+ℤ◌, ◌-ℤ◌, ◌*ℤ◌, ◌≤ℤ◌, ◌<ℤ◌, true, Option, None, Some, List, [], slice_index_or}
use Rattle.pooma_domain.specs.Cells.{Interval}
use Rattle.pooma_domain.specs.declared.strides.Strided.{Strided}
use Rattle.pooma_layout.specs.Axes.{CutAxis, part_of}
use Rattle.pooma_layout.specs.Patches.{borders_of}
use Rattle.pooma_model.specs.Parts.{changes_part}

-- the number that stands at a place, where the numbers go on at both ends
abbrev pub number_on : Strided → ℤ → ℤ
number_on s k = s.first +ℤ s.stride *ℤ k

-- of two numbers one lies below the border and the other does not
abbrev pub LiesBetween : ℤ → ℤ → ℤ → Type 0
LiesBetween border x y = ((x <ℤ border) × (border ≤ℤ y)) ⊎ ((y <ℤ border) × (border ≤ℤ x))

-- from the place before this one to it the numbers come past the border
abbrev pub IsCrossing : Strided → ℤ → ℤ → Type 0
IsCrossing s border k = LiesBetween border (number_on s (k -ℤ pos 1)) (number_on s k)

-- a place of the axis that has one before it
abbrev pub IsInner : Interval → ℤ → Type 0
IsInner axis k = (axis.first <ℤ k) × (k ≤ℤ axis.last)

-- the place lies on the axis, with one before it, and from that one to it the part changes, where there is one
abbrev pub ChangesAt : Option (ℤ → ℕ) → Interval → ℤ → Type 0
ChangesAt None axis k = ⊥
ChangesAt (Some part) axis k = IsInner axis k × (changes_part k part ≡ true)

-- the borders of an axis of a layout
abbrev pub borders_at : List CutAxis → ℕ → List ℤ
borders_at layout axis = slice_index_or (borders_of layout) axis []

-- the part in which the number at a place lies
abbrev pub part_at : List ℤ → Strided → ℤ → ℕ
part_at borders s k = part_of borders (number_on s k)
