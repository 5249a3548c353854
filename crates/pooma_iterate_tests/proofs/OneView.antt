-- A code that reads one view.
use Rattle.std.proofs.Common.{◌≡◌, ◌∙◌, ℕ, List, [], ◌∷◌, Some, arith, ap, sym, subst}
use Rattle.std.proofs.lemmas.Option.{get_or_from_slice_get, slice_get_within}
use Rattle.std.specs.Prelude.{slice_get}
use Rattle.pooma_view.specs.Views.{Viewed}
use Rattle.pooma_piece.specs.Pieces.{AreOfTarget, AreReadAlike}
use Rattle.pooma_piece.specs.declared.task.Task.TheVariants.{Assign}

at_first : (view : Viewed) (k : ℕ) (found : Viewed) → slice_get (view ∷ []) k ≡ Some found → k ≡ 0
at_first view k found at = let within = slice_get_within (view ∷ []) k found at in omega (arith, within)

pub alike : (view : Viewed) (object : ℕ) → AreReadAlike (view ∷ []) (object ∷ [])
alike view object j k found a b = ap (λ n. slice_get (object ∷ []) n) (at_first view j found a ∙ sym (at_first view k found b))

pub of_target : (view target : Viewed) (object : ℕ) → (object ≡ 5 → view.array ≡ target.array)
    → AreOfTarget (Assign target) (Some 5) (view ∷ []) (object ∷ [])
of_target view target object own k found at same =
    let first = at_first view k found at in
    let is : view ≡ found = get_or_from_slice_get (view ∷ []) 0 found view (subst (λ n. slice_get (view ∷ []) n ≡ Some found) first at) in
    let written : Some object ≡ Some 5 = subst (λ n. slice_get (object ∷ []) n ≡ Some 5) first same in
    ap (λ (v : Viewed). v.array) (sym is) ∙ own (cc written)
