-- What is found of a line's limits, and of what it does.
use Rattle.std.specs.Prelude.{Option}
use Rattle.pooma_domain.specs.Cells.{IsBox}
use Rattle.pooma_view.specs.Slots.{positions_of}
use Rattle.pooma_model.specs.declared.statement.Action.{Action}
use Rattle.pooma_model.specs.declared.statement.Action.TheVariants as action
use Rattle.pooma_script.specs.declared.cause.LimitName.{LimitName}
use Rattle.pooma_check.specs.declared.limit.Verdict.{Verdict}
use Rattle.pooma_check.specs.declared.limit.Verdict.TheVariants as verdict

-- where a limit is passed, what holds of it
abbrev pub StopsAt : Verdict → (LimitName → Type 0) → Type 0
StopsAt (verdict.Stops passed) Holds = Holds passed
StopsAt (verdict.Goes does) Holds = Unit {0}

-- where none is, what holds of what the line does
abbrev pub GoesWith : Verdict → (Option Action → Type 0) → Type 0
GoesWith (verdict.Stops _) Holds = Unit {0}
GoesWith (verdict.Goes does) Holds = Holds does

-- where an action prints a view, its positions make a box
abbrev pub IsPrintable : Action → Type 0
IsPrintable (action.PrintView view) = IsBox (positions_of view.slots)
IsPrintable other = Unit {0}
