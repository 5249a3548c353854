-- Numbers of 64 bits in actions.
use Rattle.std.specs.Prelude.{Bool, true}
use Rattle.pooma_expr.specs.Words.{literals_fit}
use Rattle.pooma_model.specs.declared.statement.Action.{Action}
use Rattle.pooma_model.specs.declared.statement.Action.TheVariants as action
use Rattle.pooma_model.specs.Assigning.{whole_value}

-- whether each literal of the action is one
abbrev pub literals_fit_in : Action → Bool
literals_fit_in (action.Assign target value mask) = literals_fit (whole_value target value mask)
literals_fit_in (action.Reduce scalar reduction positions value) = literals_fit value
literals_fit_in (action.PrintView view) = true
literals_fit_in (action.PrintScalar scalar) = true
literals_fit_in action.Block = true
