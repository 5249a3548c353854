-- How the entries of statements, in their order, are put together into windows.
use Rattle.std.specs.Prelude.{ℕ, ◌==◌, nat_lt, Bool, ◌||◌, not, Option, None, Some, List, [], ◌∷◌, ◌++◌, length, if◌then◌else◌}
use Rattle.std.specs.List.{list_any}
use Rattle.pooma_machine.specs.declared.journal.Entry.{Entry}

-- what an executed statement adds: its entries, and whether a window ends behind it
pub record Step : Type 0 where
  pub entries : List Entry
  pub ends : Bool

-- so many pending entries end a window
abbrev pub ENOUGH : ℕ
ENOUGH = 4096

-- a window ends behind this step, with these entries
abbrev pub is_end : Step → List Entry → Bool
is_end step entries = step.ends || not (nat_lt (length entries) ENOUGH)

-- the window of these entries; where there are none, no window
abbrev pub window_with : {A : Type 0} → List A → List (List A)
window_with [] = []
window_with (entry ∷ entries) = (entry ∷ entries) ∷ []

-- The windows of these steps, where these entries are pending. What is pending behind the last step is a window too.
abbrev pub windows_of : List Entry → List Step → List (List Entry)
windows_of pending [] = window_with pending
windows_of pending (step ∷ steps) =
    let entries = pending ++ step.entries in
    if is_end step entries then window_with entries ++ windows_of [] steps else windows_of entries steps

-- whether some entry of the window is of the statement of this number
abbrev pub has_statement : ℕ → List Entry → Bool
has_statement number = list_any (λ entry. entry.statement == number)

-- the windows up to and with the first that has an entry of this statement
abbrev pub windows_up_to : ℕ → List (List Entry) → List (List Entry)
windows_up_to number [] = []
windows_up_to number (window ∷ windows) =
    if has_statement number window then window ∷ [] else window ∷ windows_up_to number windows

-- the windows that are run, where this statement is the first that faults, if any does
abbrev pub windows_run : Option ℕ → List (List Entry) → List (List Entry)
windows_run None windows = windows
windows_run (Some number) windows = windows_up_to number windows
