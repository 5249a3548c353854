-- What statements do and print, one after another.
use Rattle.std.specs.Prelude.{ℕ, Bool, true, false, List, [], ◌∷◌, ◌++◌}
use Rattle.pooma_view.specs.Slots.{cell_named, positions_of}
use Rattle.pooma_field.specs.Worlds.{World, opening_world, scalar_of}
use Rattle.pooma_model.specs.declared.statement.Action.{Action}
use Rattle.pooma_model.specs.declared.statement.Action.TheVariants as action
use Rattle.pooma_model.specs.declared.statement.Statement.{Statement}
use Rattle.pooma_model.specs.Assigning.{Effect, Becomes, Faults, assigned}
use Rattle.pooma_model.specs.Declarations.{Declared, seen_in}
use Rattle.pooma_model.specs.Order.{Programmed}
use Rattle.pooma_model.specs.Reducing.{reduced}
use Rattle.pooma_model.specs.Texts.{fault_text, row_text, view_text}

-- what an action makes of a world
abbrev pub effect_of : Declared → Action → World → Effect
effect_of declared (action.Assign target value mask) world = assigned declared target value mask world
effect_of declared (action.Reduce scalar reduction positions value) world = reduced declared scalar reduction positions value world
effect_of declared (action.PrintView view) world = Becomes world
effect_of declared (action.PrintScalar scalar) world = Becomes world
effect_of declared action.Block world = Becomes world

-- what an action prints of a world
abbrev pub printed : Declared → Action → World → List ℕ
printed declared (action.PrintView view) world =
    view_text (λ p. seen_in declared world view (cell_named view.slots p)) (positions_of view.slots)
printed declared (action.PrintScalar scalar) world = row_text (scalar_of world scalar ∷ [])
printed declared (action.Assign target value mask) world = []
printed declared (action.Reduce scalar reduction positions value) world = []
printed declared action.Block world = []

-- what a run writes, and whether a fault ended it
pub record Run : Type 0 where
  pub bytes : List ℕ
  pub faulted : Bool

-- the run ends with the text of a fault, or goes on in the next world behind these bytes
abbrev pub go_on : ℕ → List ℕ → Effect → (World → Run) → Run
go_on line bytes (Faults fault) rest = record { bytes = fault_text line fault; faulted = true }
go_on line bytes (Becomes world) rest = record { bytes = bytes ++ (rest world).bytes; faulted = (rest world).faulted }

-- the statements, done one after another up to and with the first that faults
abbrev pub serial : Declared → List Statement → World → Run
serial declared [] world = record { bytes = []; faulted = false }
serial declared (s ∷ rest) world =
    go_on s.line (printed declared s.action world) (effect_of declared s.action world) (serial declared rest)

-- what a program's run is to be: its executed statements, from the world in which all numbers are 0
abbrev pub serial_of : Programmed → Run
serial_of program = serial program.declared program.order (opening_world program.declared.shapes program.declared.scalars)
