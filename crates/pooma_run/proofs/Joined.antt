-- What the windows of steps have.
use Rattle.std.proofs.Common.{◌≡◌, ◌≢◌, Bool, true, false, List, [], ◌∷◌, ◌++◌, flat_map, refl, sym, ap, ◌∙◌, append_assoc, append-nil, arith}
use Rattle.std.specs.Prelude.{All, if◌then◌else◌}
use Rattle.std.proofs.lemmas.Grind.{flat_map-append}
use Rattle.std.proofs.lemmas.List.Elements.{All-append, All-cons}
use Rattle.pooma_machine.specs.declared.journal.Entry.{Entry}
use Rattle.pooma_run.specs.Steps.{Step, is_end, window_with, windows_of}

abbrev joined_windows : List (List Entry) → List Entry
joined_windows windows = flat_map (λ (window : List Entry). window) windows

one_joined : (entries : List Entry) → joined_windows (window_with entries) ≡ entries
one_joined [] = refl
one_joined (entry ∷ entries) = append-nil (entry ∷ entries)

-- whether a window ends behind a step or not
joined_by_end : (entries later : List Entry) (after here : List (List Entry)) (ends : Bool) → joined_windows after ≡ later → joined_windows here ≡ entries ++ later
    → joined_windows (if ends then window_with entries ++ after else here) ≡ entries ++ later
joined_by_end entries later after here true is_after is_here =
    flat_map-append (λ (window : List Entry). window) (window_with entries) after
    ∙ ap (λ (xs : List Entry). xs ++ joined_windows after) (one_joined entries)
    ∙ ap (λ (xs : List Entry). entries ++ xs) is_after
joined_by_end entries later after here false is_after is_here = is_here

pub windows_joined : (steps : List Step) (pending : List Entry) → joined_windows (windows_of pending steps) ≡ pending ++ flat_map (λ (step : Step). step.entries) steps
windows_joined [] pending = one_joined pending ∙ sym (append-nil pending)
windows_joined (step ∷ steps) pending =
    joined_by_end (pending ++ step.entries) (flat_map (λ (s : Step). s.entries) steps) (windows_of [] steps) (windows_of (pending ++ step.entries) steps)
    (is_end step (pending ++ step.entries)) (windows_joined steps []) (windows_joined steps (pending ++ step.entries))
    ∙ append_assoc pending step.entries (flat_map (λ (s : Step). s.entries) steps)

none_left : (P : List Entry → Type 0) → All P []
none_left P k d within = absurd (omega arith)

one_some : (entries : List Entry) → All (λ (window : List Entry). window ≢ []) (window_with entries)
one_some [] = none_left (λ window. window ≢ [])
one_some (entry ∷ entries) = All-cons (λ (window : List Entry). window ≢ []) (entry ∷ entries) [] (λ is. cc) (none_left (λ window. window ≢ []))

some_by_end : (entries : List Entry) (after here : List (List Entry)) (ends : Bool) → All (λ (window : List Entry). window ≢ []) after → All (λ (window : List Entry). window ≢ []) here
    → All (λ (window : List Entry). window ≢ []) (if ends then window_with entries ++ after else here)
some_by_end entries after here true all_after all_here = All-append (λ (window : List Entry). window ≢ []) (window_with entries) after (one_some entries) all_after
some_by_end entries after here false all_after all_here = all_here

pub windows_some : (steps : List Step) (pending : List Entry) → All (λ (window : List Entry). window ≢ []) (windows_of pending steps)
windows_some [] pending = one_some pending
windows_some (step ∷ steps) pending =
    some_by_end (pending ++ step.entries) (windows_of [] steps) (windows_of (pending ++ step.entries) steps) (is_end step (pending ++ step.entries))
    (windows_some steps []) (windows_some steps (pending ++ step.entries))
