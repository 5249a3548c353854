-- The windows of a program, as workers share them.
use Rattle.std.specs.Prelude.{ℕ, List, Option}
use Rattle.pooma_machine.specs.Told.{Window}
use Rattle.pooma_model.specs.Order.{Programmed}
use Rattle.pooma_piece.specs.Meaning.{pieces}
use Rattle.pooma_piece.specs.Pieces.{Pieced}
use Rattle.pooma_window.specs.Workers.{IsShared}
use Rattle.pooma_run.specs.Told.{HasTold, HasToldFirst}

-- windows told by workers, whatever else is known of them
abbrev pub SharedBy : ℕ → List Pieced → Window → Unit {0} → Unit {0} → Type 0
SharedBy workers works window old new = IsShared pieces workers works window

-- all windows of the program were told, each shared by so many workers
abbrev pub HasShared : ℕ → Programmed → Option (List Window) → Option (List Window) → Type 0
HasShared workers program known told = HasTold {S = Unit {0}} (SharedBy workers) program known told tt tt

-- the first of them were told
abbrev pub HasSharedFirst : ℕ → Programmed → Option (List Window) → Option (List Window) → Type 0
HasSharedFirst workers program known told = HasToldFirst {S = Unit {0}} (SharedBy workers) (λ works old new. Unit {0}) program known told tt tt
