-- The views of a line: the cells that they name, and what reads them.
use Rattle.std.specs.Prelude.{◌⊎◌, ℕ, zero, suc, ◌/◌, ℤ, pos, negsuc, ◌+ℤ◌, ◌-ℤ◌, List, map, Option, None, Some}
use Rattle.std.specs.List.{filter_map}
use Rattle.std.proofs.Common.{inl, inr}
use Rattle.pooma_domain.specs.Cells.{Interval, interval, count_of}
use Rattle.pooma_view.specs.Restricted.{IsStrided, strided, strided_or_not}
use Rattle.pooma_view.specs.declared.slots.Slot.{Slot}
use Rattle.pooma_view.specs.declared.slots.Slot.TheVariants.{Fixed, Along}
use Rattle.pooma_view.specs.Views.{Viewed}
use Rattle.pooma_field.specs.Shapes.{Shaped}
use Rattle.pooma_parse.specs.declared.form.RawSub.{RawSub}
use Rattle.pooma_parse.specs.declared.form.RawSub.TheVariants.{At, Range}
use Rattle.pooma_parse.specs.declared.form.RawView.{RawView}
use Rattle.pooma_stencil.specs.Stencils.{Stenciled, result_positions}
use Rattle.pooma_model.specs.Declarations.{shape_at}
use Rattle.pooma_script.specs.Known.{Known, array_named, declared_in, named_at}

-- how many places there are at a step on a way, with the one at its beginning; none on a way back
abbrev pub places_on : ℤ → ℕ → ℕ
places_on way step = count_of (way +ℤ pos step) / step

-- how many numbers there are, from a first one on at a stride, that do not pass a last one; none where the stride is 0
abbrev pub count_to : ℤ → ℤ → ℤ → ℕ
count_to first last (pos zero) = 0
count_to first last (pos (suc n)) = places_on (last -ℤ first) (suc n)
count_to first last (negsuc n) = places_on (first -ℤ last) (suc n)

abbrev pub along_if : (first stride : ℤ) (count : ℕ) → IsStrided first stride count ⊎ (¬ (IsStrided first stride count)) → Slot
along_if first stride count (inl numbers) = Along (strided first stride count numbers)
along_if first stride count (inr none) = Fixed first

-- so many numbers from a first one on, at a stride; where there is none, the first
abbrev pub along : ℤ → ℤ → ℕ → Slot
along first stride count = along_if first stride count (strided_or_not first stride count)

-- what a SUB takes of an axis
abbrev pub slot_of : RawSub → Slot
slot_of (At n) = Fixed n
slot_of (Range first last stride) = along first stride (count_to first last stride)

-- A bare name takes each axis of the physical domain from its first number to its last.
abbrev pub subs_of : Shaped → Option (List RawSub) → List RawSub
subs_of shape None = map (λ axis. Range axis.first axis.last (pos 1)) shape.physical
subs_of shape (Some subs) = subs

-- so many places from 0 on; where there is none, an axis that has no number
abbrev pub places_to : ℕ → Interval
places_to count = interval (pos 0) (pos count -ℤ pos 1)

abbrev pub places_of : RawSub → Option Interval
places_of (At n) = None
places_of (Range first last stride) = Some (places_to (count_to first last stride))

-- the positions: one axis for each range
abbrev pub positions_in : List RawSub → List Interval
positions_in = filter_map places_of

-- what reads or writes an array: a view, or a stencil on a view; with the view's positions, of which an empty range leaves none
pub record Reading : Type 0 where
  pub stencil : Option Stenciled
  pub view : Viewed
  pub positions : List Interval

abbrev pub reading_by : ℕ → Option Stenciled → List RawSub → Reading
reading_by array stencil subs =
    record { stencil = stencil; view = record { array = array; slots = map slot_of subs }; positions = positions_in subs }

-- a view, with a stencil on it or without, of what the name names
abbrev pub reading_of : Known → List ℕ → Option Stenciled → RawView → Reading
reading_of known text stencil seen =
    let array = array_named (named_at known text seen.name) in
    reading_by array stencil (subs_of (shape_at (declared_in known) array) seen.subs)

abbrev pub view_of : Known → List ℕ → RawView → Viewed
view_of known text seen = (reading_of known text None seen).view

-- the positions that a stencil leaves of those of its view
abbrev pub positions_left : Option Stenciled → List Interval → List Interval
positions_left None positions = positions
positions_left (Some stencil) positions = result_positions stencil positions

abbrev pub positions_read : Reading → List Interval
positions_read reading = positions_left reading.stencil reading.positions
