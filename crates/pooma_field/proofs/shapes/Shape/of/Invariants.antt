use Rattle.std.proofs.Common.{◌≡◌, ℕ, ◌<◌, Some, slice_get}
use Rattle.pooma_domain.specs.Cells.{Interval}
use Rattle.pooma_field.specs.Shapes.{IsAround}
use Rattle.pooma_field.proofs.shapes.Shape.of.Given as goal

-- the axes seen so far lie one around the other
abbrev pub invariant-loop-axis : goal.invariant-loop-axis
invariant-loop-axis l = (n : ℕ) (p t : Interval) → n < l.axis → slice_get l.physical n ≡ Some p → slice_get l.total n ≡ Some t → IsAround p t
