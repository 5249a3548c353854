-- What a reduction gives its scalar.
use Rattle.std.specs.Prelude.{ℕ, ℤ, Option, None, Some, Ok, Err, List}
use Rattle.std.specs.List.{filter_map}
use Rattle.pooma_domain.specs.Cells.{Interval, cells_of}
use Rattle.pooma_field.specs.Worlds.{World, with_scalar}
use Rattle.pooma_expr.specs.declared.tree.Expr.{Expr}
use Rattle.pooma_expr.specs.declared.reduction.Reduction.{Reduction}
use Rattle.pooma_expr.specs.Reductions.{result_over}
use Rattle.pooma_expr.specs.Values.{Checked}
use Rattle.pooma_model.specs.Assigning.{Effect, Becomes, Faults, Fault, Sum, first_of, fault_of, given_by}
use Rattle.pooma_model.specs.Declarations.{Declared, value_in}

abbrev pub number_in : Checked → Option ℤ
number_in (Ok n) = Some n
number_in (Err kind) = None

-- the values at all positions, in order
abbrev pub values_over : Declared → World → List Interval → Expr → List ℤ
values_over declared world positions value = filter_map (λ p. number_in (value_in declared world value p)) (cells_of positions)

-- the scalar's number, or the fault of the sum
abbrev pub scalar_given : World → ℕ → Checked → Effect
scalar_given world scalar (Ok n) = Becomes (with_scalar world scalar n)
scalar_given world scalar (Err kind) = Faults (record { place = Sum; kind = kind })

abbrev pub fault_before : Option Fault → Effect → Effect
fault_before (Some fault) effect = Faults fault
fault_before None effect = effect

-- the fault of the first position that has one, or what the reduction makes of the values at all positions
abbrev pub reduced : Declared → ℕ → Reduction → List Interval → Expr → World → Effect
reduced declared scalar reduction positions value world =
    fault_before
    (first_of (λ p. fault_of p (given_by (value_in declared world value p))) (cells_of positions))
    (scalar_given world scalar (result_over reduction (values_over declared world positions value)))
