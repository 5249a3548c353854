-- An axis of positions, and where it is cut.
use Rattle.std.specs.Prelude.{ℤ, List, map, All}
use Rattle.pooma_domain.specs.Cells.{Interval, IsAxis, IsBox}
use Rattle.pooma_layout.specs.Axes.{cut_at, IsAscending, AreBorders}

pub record CutLine : Type 0 where
  pub whole : Interval
  -- the first place of each part but the first
  pub borders : List ℤ

abbrev pub parts_in : CutLine → List Interval
parts_in line = cut_at line.whole.first line.borders line.whole.last

pub record IsCutLine (line : CutLine) : Type 0 where
  pub axis : IsAxis line.whole
  pub ascending : IsAscending line.borders
  pub inside : AreBorders line.whole line.borders

-- the lines are the axes of a box
pub record AreCutLines (lines : List CutLine) : Type 0 where
  pub each : All IsCutLine lines
  pub box : IsBox (map (λ line. line.whole) lines)
