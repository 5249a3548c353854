-- Which windows of its plan a run has told, and which are left.
use Rattle.std.specs.Prelude.{◌≡◌, ◌⊎◌, ◌++◌, ◌<◌, ℕ, Option, Some, List, [], All, drop, map}
use Rattle.pooma_fill.specs.Marks.{Staled}
use Rattle.pooma_machine.specs.declared.journal.Entry.{Entry}
use Rattle.pooma_machine.specs.Journal.{entry_of}
use Rattle.pooma_machine.specs.Told.{Window}
use Rattle.pooma_model.specs.Order.{Programmed}
use Rattle.pooma_piece.specs.Meaning.{pieces}
use Rattle.pooma_piece.specs.Pieces.{Pieced}
use Rattle.pooma_run.specs.Plan.{IsOpening, IsPlan, fault_of_run, steps_of}
use Rattle.pooma_window.specs.Questions.{Question}
use Rattle.pooma_run.specs.Steps.{window_with, windows_of}
use Rattle.pooma_run.specs.Turns.{AreTold, told_behind}
use Rattle.pooma_run.specs.Underway.{Kept}
use Rattle.pooma_window.specs.Windows.{IsPickedFrom}

abbrev pub entries_of : List Pieced → List Entry
entries_of works = map (entry_of pieces) works

-- the windows told are these works', each told as the completer tells one, and stand behind those that are known
pub record ToldAs {S : Type 0} (tells : List Pieced → Window → S → S → Type 0) (works : List (List Pieced)) (known told : Option (List Window)) (old new : S) : Type 0 where
  pub windows : List Window
  pub each : AreTold tells works windows old new
  pub behind : told ≡ told_behind known windows

-- all windows of the plan were told
pub record HasTold {S : Type 0} (tells : List Pieced → Window → S → S → Type 0) (program : Programmed) (known told : Option (List Window)) (old new : S) : Type 0 where
  pub works : List (List Pieced)
  pub plan : IsPlan program (map entries_of works)
  pub told_as : ToldAs tells works known told old new

-- the questions that were asked are those of all windows of the plan, one window after another
pub record HasAsked (program : Programmed) (old new : Option (List Question)) : Type 0 where
  pub works : List (List Pieced)
  pub plan : IsPlan program (map entries_of works)
  pub windows : List Window
  pub each : AreTold (IsPickedFrom pieces) works windows old new

-- the completer stopped in the first of these windows
pub record HasStopped {S : Type 0} (stops : List Pieced → S → S → Type 0) (windows : List (List Entry)) (old new : S) : Type 0 where
  pub works : List Pieced
  pub later : List (List Entry)
  pub next : windows ≡ window_with (entries_of works) ++ later
  pub stopped : stops works old new

-- The first windows of the plan were told. Behind the last of them the completer did no more, or it stopped in the next window.
pub record HasToldFirst {S : Type 0} (tells : List Pieced → Window → S → S → Type 0) (stops : List Pieced → S → S → Type 0) (program : Programmed) (known told : Option (List Window)) (old new : S) : Type 0 where
  pub works : List (List Pieced)
  pub later : List (List Entry)
  pub mid : S
  pub plan : IsPlan program (map entries_of works ++ later)
  pub told_as : ToldAs tells works known told old mid
  pub then : (new ≡ mid) ⊎ HasStopped stops later mid new

-- Memory ended in the window of these works: it was not told, and the completer did nothing or stopped in it; or behind it.
abbrev pub IsCutShort : {S : Type 0} → (List Pieced → Window → S → S → Type 0) → (List Pieced → S → S → Type 0) → List Pieced → Option (List Window) → Option (List Window) → S → S → Type 0
IsCutShort tells stops works known told old new =
    ((told ≡ known) × ((new ≡ old) ⊎ stops works old new)) ⊎ ToldAs tells (window_with works) known told old new

-- A statement stands before the first one that faults, if any does.
abbrev pub IsBeforeFault : Programmed → ℕ → Type 0
IsBeforeFault program number = (k : ℕ) → fault_of_run program ≡ Some k → number < k

abbrev pub AreBeforeFault : Programmed → List Pieced → Type 0
AreBeforeFault program works = All (λ (piece : Pieced). IsBeforeFault program piece.statement) works

-- These works were told, and what is still to be told is the rest of all windows. No contract of a public call cites this.
pub record TellsTo {S : Type 0} (tells : List Pieced → Window → S → S → Type 0) (program : Programmed) (rest : List (List Entry)) (known told : Option (List Window)) (old new : S) : Type 0 where
  pub first : Staled
  pub opening : IsOpening program first
  pub works : List (List Pieced)
  pub plan : windows_of [] (steps_of first 0 program.order) ≡ map entries_of works ++ rest
  pub told_as : ToldAs tells works known told old new
  pub before : All (AreBeforeFault program) works

-- Before the executed statement of this number: what is pending and what the statements from here on add is still to be told.
abbrev pub TellsUpTo : {S : Type 0} → (List Pieced → Window → S → S → Type 0) → Programmed → Kept → ℕ → Option (List Window) → Option (List Window) → S → S → Type 0
TellsUpTo tells program kept number known told old new =
    TellsTo tells program (windows_of (entries_of kept.pending) (steps_of kept.stale number (drop number program.order))) known told old new
