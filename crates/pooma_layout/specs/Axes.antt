-- An axis of a layout: its numbers, its guard layers, and the parts into which it is cut.
use Rattle.std.specs.Prelude.{ℕ, ℤ, pos, neg_ℤ, ◌-ℤ◌, ◌≤ℤ◌, ◌<ℤ◌, int_le, List, [], ◌∷◌, All, AllPairs}
use Rattle.std.specs.List.{prefix_len}
use Rattle.pooma_domain.specs.Cells.{Interval, interval, axis_length}
use Rattle.pooma_domain.specs.Operations.{common, grown_axis, reach}

-- the numbers of the physical domain, the guard layers beyond each of its ends and those round each part, and the first number of each part but the first
pub record CutAxis : Type 0 where
  pub physical : Interval
  pub external : ℤ
  pub internal : ℤ
  pub borders : List ℤ

abbrev pub cut_axis : Interval → ℤ → ℤ → List ℤ → CutAxis
cut_axis physical external internal borders = record { physical = physical; external = external; internal = internal; borders = borders }

-- an interval with so many more numbers at each end
abbrev pub widened : ℤ → Interval → Interval
widened depth axis = grown_axis axis (reach depth depth)

-- the numbers of the axis with those of its external guards
abbrev pub total_axis : CutAxis → Interval
total_axis axis = widened axis.external axis.physical

-- the intervals that make up the numbers from a first to a last one, where each but the first begins at a border
abbrev pub cut_at : ℤ → List ℤ → ℤ → List Interval
cut_at first [] last = interval first last ∷ []
cut_at first (border ∷ later) last = interval first (border -ℤ pos 1) ∷ cut_at border later last

-- the parts of an axis: those at the edges reach through the external guards
abbrev pub parts : CutAxis → List Interval
parts axis = cut_at (total_axis axis).first axis.borders (total_axis axis).last

-- the number of the part that has a coordinate: so many borders do not lie above it
abbrev pub part_of : List ℤ → ℤ → ℕ
part_of borders x = prefix_len (λ border. int_le border x) borders

-- a part with its internal guards, as far as the axis goes
abbrev pub allocated_part : CutAxis → Interval → Interval
allocated_part axis part = common (widened axis.internal part) (total_axis axis)

-- an axis of a domain has a number, and all its numbers lie within plus and minus 1,000,000
pub record IsNear (axis : Interval) : Type 0 where
  pub ordered : axis.first ≤ℤ axis.last
  pub low : neg_ℤ (pos 1000000) ≤ℤ axis.first
  pub high : axis.last ≤ℤ pos 1000000

-- there may be 0 to 8 guard layers
pub record IsDepth (depth : ℤ) : Type 0 where
  pub low : pos 0 ≤ℤ depth
  pub high : depth ≤ℤ pos 8

-- an axis has at most so many external guard layers as it has numbers
abbrev pub IsCovering : Interval → ℤ → Type 0
IsCovering axis depth = depth ≤ℤ pos (axis_length axis)

-- each part begins above the one before it
abbrev pub IsAscending : List ℤ → Type 0
IsAscending borders = AllPairs (λ a b. a <ℤ b) borders

-- a border is a number of the axis, and not its first
abbrev pub IsBorder : Interval → ℤ → Type 0
IsBorder axis border = (axis.first <ℤ border) × (border ≤ℤ axis.last)

abbrev pub AreBorders : Interval → List ℤ → Type 0
AreBorders axis borders = All (IsBorder axis) borders

-- what holds of each axis of a layout
pub record IsCutAxis (axis : CutAxis) : Type 0 where
  pub near : IsNear axis.physical
  pub external_depth : IsDepth axis.external
  pub internal_depth : IsDepth axis.internal
  pub covering : IsCovering axis.physical axis.external
  pub ascending : IsAscending axis.borders
  pub inside : AreBorders axis.physical axis.borders
