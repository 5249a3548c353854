-- The layout that a line declares, and the shape of an array over a layout.
use Rattle.std.specs.Prelude.{ℕ, ℤ, pos, ◌+ℤ◌, List, [], ◌∷◌, map, replicate, length, Option}
use Rattle.pooma_domain.specs.Cells.{Interval, interval}
use Rattle.pooma_field.specs.Shapes.{Shaped}
use Rattle.pooma_field.specs.declared.faces.Ends.{Ends}
use Rattle.pooma_layout.specs.Axes.{CutAxis, cut_axis}
use Rattle.pooma_layout.specs.Blocks.{blocks_of}
use Rattle.pooma_layout.specs.Patches.{physical_of, total_of}
use Rattle.pooma_parse.specs.declared.form.RawCutting.{RawCutting}
use Rattle.pooma_parse.specs.declared.form.RawCutting.TheVariants.{Blocks, Cuts}

-- the axes that first and last numbers give
abbrev pub axes_of : List (ℤ × ℤ) → List Interval
axes_of domain = map (λ bounds. interval bounds.0 bounds.1) domain

-- the first number of each part but the first, where the parts have these lengths
abbrev pub borders_from : ℤ → List ℕ → List ℤ
borders_from first [] = []
borders_from first (n ∷ []) = []
borders_from first (n ∷ m ∷ lengths) = (first +ℤ pos n) ∷ borders_from (first +ℤ pos n) (m ∷ lengths)

-- so many blocks of an axis, or the parts that begin at these numbers
abbrev pub block_borders : List Interval → List ℤ → List (List ℤ)
block_borders [] blocks = []
block_borders (axis ∷ axes) [] = []
block_borders (axis ∷ axes) (n ∷ blocks) = borders_from axis.first (blocks_of axis n) ∷ block_borders axes blocks

abbrev pub borders_by : List Interval → RawCutting → List (List ℤ)
borders_by axes (Blocks blocks) = block_borders axes blocks
borders_by axes (Cuts cuts) = cuts

-- guard layers that are left out are 0
abbrev pub layers : List Interval → List ℤ → List ℤ
layers axes [] = replicate (length axes) (pos 0)
layers axes (n ∷ list) = n ∷ list

abbrev pub cut_axes : List Interval → List (List ℤ) → List ℤ → List ℤ → List CutAxis
cut_axes (axis ∷ axes) (borders ∷ cuts) (internal ∷ insides) (external ∷ outsides) =
    cut_axis axis external internal borders ∷ cut_axes axes cuts insides outsides
cut_axes axes cuts insides outsides = []

-- the layout of these axes, cut so, with these guard layers
abbrev pub layout_of : List Interval → RawCutting → List ℤ → List ℤ → List CutAxis
layout_of axes cutting internal external = cut_axes axes (borders_by axes cutting) (layers axes internal) (layers axes external)

-- the layout of a brick: one patch without guards
abbrev pub brick_of : List Interval → List CutAxis
brick_of axes = map (λ axis. cut_axis axis (pos 0) (pos 0) []) axes

-- an array over a layout; where there are faces, a field
abbrev pub shape_on : List CutAxis → Option (List Ends) → Shaped
shape_on layout faces = record { physical = physical_of layout; total = total_of layout; faces = faces }
