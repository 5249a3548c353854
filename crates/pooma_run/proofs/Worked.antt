-- Worked cases of windows.
use Rattle.std.proofs.Common.{◌≡◌, ℕ, List, [], ◌∷◌, true, false, Some, refl}
use Rattle.pooma_queue.specs.declared.queue.Mode.TheVariants.{Write}
use Rattle.pooma_machine.specs.declared.journal.Entry.{Entry}
use Rattle.pooma_run.specs.Steps.{Step, windows_of, windows_run}

abbrev writing : ℕ → ℕ → Entry
writing statement object = record { statement = statement; requests = record { object = object; mode = Write } ∷ [] }

abbrev step : List Entry → Step
step entries = record { entries = entries; ends = false }

abbrev last : List Entry → Step
last entries = record { entries = entries; ends = true }

-- two assignments over two patches each, and a print: one window of four entries
pub two_assignments : windows_of [] (step (writing 0 0 ∷ writing 0 1 ∷ []) ∷ step (writing 1 0 ∷ writing 1 1 ∷ []) ∷ last [] ∷ [])
    ≡ (writing 0 0 ∷ writing 0 1 ∷ writing 1 0 ∷ writing 1 1 ∷ []) ∷ []
two_assignments = refl

-- prints behind one another run no window; what is left at the end is one
pub left_at_the_end : windows_of [] (last [] ∷ step (writing 1 0 ∷ []) ∷ last [] ∷ last [] ∷ step (writing 4 0 ∷ []) ∷ [])
    ≡ (writing 1 0 ∷ []) ∷ (writing 4 0 ∷ []) ∷ []
left_at_the_end = refl

-- where statement 1 faults, the window that has it is run whole, and no later one
pub up_to_the_fault : windows_run (Some 1) ((writing 0 0 ∷ writing 1 0 ∷ writing 2 0 ∷ []) ∷ (writing 4 0 ∷ []) ∷ []) ≡ (writing 0 0 ∷ writing 1 0 ∷ writing 2 0 ∷ []) ∷ []
up_to_the_fault = refl
