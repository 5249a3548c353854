-- Where the numbers of a slot begin and end, and whether slots stay in a box.
use Rattle.std.specs.Prelude.{ℤ, ◌≤ℤ◌, FitsSigned, List}
use Rattle.std.specs.Int.{w32}
use Rattle.pooma_domain.specs.Cells.{Interval, IsIn}
use Rattle.pooma_view.specs.Slots.{cell_named, first_named, last_named, positions_of}
use Rattle.pooma_view.specs.declared.slots.Slot.{Slot}
use Rattle.pooma_parse.specs.declared.form.RawSub.{RawSub}
use Rattle.pooma_parse.specs.declared.form.RawSub.TheVariants.{At, Range}

-- the number is one of the axis
abbrev pub IsOn : Interval → ℤ → Type 0
IsOn axis x = (axis.first ≤ℤ x) × (x ≤ℤ axis.last)

-- the first and the last number of a slot are numbers of the axis
abbrev pub EndsOn : Interval → Slot → Type 0
EndsOn axis slot = IsOn axis (first_named slot) × IsOn axis (last_named slot)

-- each cell of the slots lies in the box
abbrev pub IsWithin : List Interval → List Slot → Type 0
IsWithin box slots = (p : List ℤ) → IsIn (positions_of slots) p → IsIn box (cell_named slots p)

-- the numbers of a SUB are of 32 bits
abbrev pub IsShort : RawSub → Type 0
IsShort (At n) = FitsSigned w32 n
IsShort (Range first last stride) = FitsSigned w32 first × FitsSigned w32 last
