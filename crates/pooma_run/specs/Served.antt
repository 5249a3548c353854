-- The entries of windows, in the words of what a run promises of them.
use Rattle.std.specs.Prelude.{◌≡◌, Option, List, ◌++◌, map, flat_map}
use Rattle.pooma_machine.specs.declared.journal.Entry.{Entry}
use Rattle.pooma_machine.specs.Told.{Window}
use Rattle.pooma_model.specs.Fit.{AreFit}
use Rattle.pooma_model.specs.Order.{Programmed}
use Rattle.pooma_store.specs.Stored.{AreArrays}
use Rattle.pooma_run.specs.Plan.{IsPlan}
use Rattle.pooma_run.specs.Turns.{told_behind}

-- the program's arrays are cut, and its statements fit them
pub record IsSound (program : Programmed) : Type 0 where
  pub arrays : AreArrays program.declared.shapes program.declared.layouts
  pub fit : AreFit program.declared program.order

-- these are the first windows of the program, up to and with the one that holds its first fault
abbrev pub AreFirst : Programmed → List (List Entry) → Type 0
AreFirst program windows = (later : List (List Entry)) × IsPlan program (windows ++ later)

-- their entries, one window after another
abbrev pub entries_in : List (List Entry) → List Entry
entries_in windows = flat_map (λ window. window) windows

-- the windows that were told behind those that are known are the first of the program
abbrev pub ToldAreFirst : Programmed → Option (List Window) → Option (List Window) → Type 0
ToldAreFirst program known told = (windows : List Window) × (told ≡ told_behind known windows) × AreFirst program (map (λ (window : Window). window.entries) windows)
