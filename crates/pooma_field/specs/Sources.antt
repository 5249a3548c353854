-- The cell from which an updater takes the value of a cell outside the physical domain.
use Rattle.std.specs.Prelude.{◌⊎◌, ℕ, zero, suc, ℤ, pos, ◌-ℤ◌, ◌≤ℤ◌, ◌<ℤ◌, Option, Some, None, option_map, option_and_then, List, [], ◌∷◌}
use Rattle.pooma_domain.specs.Cells.{Interval, axis_length}
use Rattle.pooma_field.specs.declared.faces.Ends.{Ends}
use Rattle.pooma_field.specs.declared.updaters.Updater.{Updater}
use Rattle.pooma_field.specs.declared.updaters.Updater.TheVariants.{Constant, Periodic, Reflect, Antireflect, Extrapolate}
use Rattle.pooma_field.specs.Faces.{facing}
use Rattle.pooma_field.specs.Shapes.{Shaped}
use Rattle.pooma_field.specs.Updaters.{face, mirrored, wrapped}

-- the number of the axis from which the value is taken: for `extrapolate` the face, and a constant is taken from none
abbrev pub source_number : Updater → Interval → ℤ → Option ℤ
source_number (Constant k) axis x = None
source_number Periodic axis x = Some (wrapped axis x)
source_number Reflect axis x = Some (mirrored axis x)
source_number Antireflect axis x = Some (mirrored axis x)
source_number Extrapolate axis x = Some (face axis x)

-- the cell with that number on one axis, and on the others the coordinates of the given cell
abbrev pub source_cell : List Interval → List Ends → ℕ → List ℤ → Option (List ℤ)
source_cell [] faces n c = None
source_cell (axis ∷ axes) [] n c = None
source_cell (axis ∷ axes) (ends ∷ faces) n [] = None
source_cell (axis ∷ axes) (ends ∷ faces) zero (x ∷ xs) = option_map (λ y. y ∷ xs) (source_number (facing ends axis x) axis x)
source_cell (axis ∷ axes) (ends ∷ faces) (suc n) (x ∷ xs) = option_map (λ ys. x ∷ ys) (source_cell axes faces n xs)

-- none where the array is plain or the face's updater is a constant
abbrev pub source_of : Shaped → ℕ → List ℤ → Option (List ℤ)
source_of shape axis c = option_and_then (λ faces. source_cell shape.physical faces axis c) shape.faces

-- the number lies beside the axis, at most as far away as the axis is long
abbrev pub IsNear : Interval → ℤ → Type 0
IsNear axis x =
    ((x <ℤ axis.first) × ((axis.first -ℤ x) ≤ℤ pos (axis_length axis)))
    ⊎ ((axis.last <ℤ x) × ((x -ℤ axis.last) ≤ℤ pos (axis_length axis)))
