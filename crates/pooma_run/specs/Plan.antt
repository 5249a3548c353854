-- The windows of a program: a function of what it declares and executes.
use Rattle.std.specs.Prelude.{◌≡◌, ℕ, suc, ℤ, Bool, true, false, Option, None, Some, List, [], ◌∷◌, ◌++◌, map}
use Rattle.pooma_field.specs.Worlds.{World, opening_world}
use Rattle.pooma_machine.specs.declared.journal.Entry.{Entry}
use Rattle.pooma_machine.specs.Journal.{entry_of}
use Rattle.pooma_model.specs.declared.statement.Action.{Action}
use Rattle.pooma_model.specs.declared.statement.Action.TheVariants as action
use Rattle.pooma_model.specs.declared.statement.Statement.{Statement}
use Rattle.pooma_model.specs.Assigning.{Becomes, Effect, Faults}
use Rattle.pooma_model.specs.Declarations.{Declared}
use Rattle.pooma_model.specs.Order.{Programmed}
use Rattle.pooma_model.specs.Serial.{effect_of}
use Rattle.pooma_piece.specs.Meaning.{pieces}
use Rattle.pooma_piece.specs.Pieces.{Pieced}
use Rattle.pooma_split.specs.Splits.{pieces_of}
use Rattle.pooma_fill.specs.Marks.{Staled, declared_of, fills_before, first_mark, marks_after}
use Rattle.pooma_run.specs.Steps.{Step, windows_of, windows_run}

-- whether a window ends behind the action: it gives a scalar a number, it prints, or it is a block
abbrev pub ends_window : Action → Bool
ends_window (action.Assign target value mask) = false
ends_window (action.Reduce scalar reduction positions value) = true
ends_window (action.PrintView view) = true
ends_window (action.PrintScalar scalar) = true
ends_window action.Block = true

-- the works of the executed statement of this number: its fills and then its pieces, where the scalars have these numbers
abbrev pub works_of : Staled → List ℤ → ℕ → Action → List Pieced
works_of stale scalars number does = fills_before stale.layouts stale number does ++ pieces_of (declared_of stale) scalars number does

-- What it adds to a window. No request depends on a scalar's number, so none need be known.
abbrev pub step_of : Staled → ℕ → Action → Step
step_of stale number does = record { entries = map (entry_of pieces) (works_of stale [] number does); ends = ends_window does }

-- what is stale after it
abbrev pub stale_after : Staled → Action → Staled
stale_after stale does = record stale { marks = marks_after does 0 stale.shapes stale.marks }

-- what the executed statements from this number on add
abbrev pub steps_of : Staled → ℕ → List Statement → List Step
steps_of stale number [] = []
steps_of stale number (s ∷ statements) = step_of stale number s.action ∷ steps_of (stale_after stale s.action) (suc number) statements

-- the number of the first executed statement that faults
abbrev pub fault_or_later : Effect → ℕ → (World → Option ℕ) → Option ℕ
fault_or_later (Faults fault) number later = Some number
fault_or_later (Becomes world) number later = later world

abbrev pub first_to_fault : Declared → ℕ → List Statement → World → Option ℕ
first_to_fault declared number [] world = None
first_to_fault declared number (s ∷ statements) world =
    fault_or_later (effect_of declared s.action world) number (first_to_fault declared (suc number) statements)

-- the arrays of the program, of which each field is stale
pub record IsOpening (program : Programmed) (stale : Staled) : Type 0 where
  pub declared : declared_of stale ≡ program.declared
  pub marks : stale.marks ≡ map first_mark stale.shapes

-- the number of the first statement of the program that faults
abbrev pub fault_of_run : Programmed → Option ℕ
fault_of_run program = first_to_fault program.declared 0 program.order (opening_world program.declared.shapes program.declared.scalars)

-- of all windows of the program those that are run: up to and with the one that holds the first fault
abbrev pub plan_from : Staled → Programmed → List (List Entry)
plan_from stale program = windows_run (fault_of_run program) (windows_of [] (steps_of stale 0 program.order))

abbrev pub IsPlan : Programmed → List (List Entry) → Type 0
IsPlan program windows = (stale : Staled) × IsOpening program stale × (windows ≡ plan_from stale program)
