use Rattle.std.proofs.Common.{◌≤◌, length, drop}
use Rattle.pooma_domain.specs.Cells.{IsIn}
use Rattle.pooma_field.proofs.shapes.Shape.outer_axis.Given as goal

-- the cell is inside on the axes that were seen
abbrev pub invariant-loop-axis : goal.invariant-loop-axis
invariant-loop-axis l = record { seen : IsIn (drop l.axis l.self.physical) (drop l.axis l.c); there : l.axis ≤ length l.self.physical }
