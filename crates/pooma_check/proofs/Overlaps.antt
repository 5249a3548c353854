-- When no view that is read overlaps a target.
use Rattle.std.proofs.Common.{◌≡◌, ◌⊎◌, ℕ, ℤ, Bool, true, false, List, [], ◌∷◌, inl, inr, refl, sym, subst}
use Rattle.std.proofs.lemmas.List.Elements.{All-cons, All-head, All-nil, All-tail}
use Rattle.std.specs.Prelude.{◌↔◌, All, IsTrue, flat_map, not}
use Rattle.pooma_domain.specs.Cells.{IsIn}
use Rattle.pooma_view.specs.Overlap.{IsOverlap}
use Rattle.pooma_view.specs.Slots.{cell_named, positions_of}
use Rattle.pooma_view.specs.Views.{Viewed}
use Rattle.pooma_view.specs.declared.slots.Slot.{Slot}
use Rattle.pooma_expr.specs.Trees.{views_of}
use Rattle.pooma_parse.specs.declared.form.RawAssign.{RawAssign}
use Rattle.pooma_parse.specs.declared.form.RawExpr.{RawExpr}
use Rattle.pooma_model.specs.Fit.{ReadsApart}
use Rattle.pooma_script.specs.Known.{Known}
use Rattle.pooma_script.specs.Statements.{joined}
use Rattle.pooma_script.specs.Trees.{readings_in, tree_of}
use Rattle.pooma_script.proofs.Heads.{not_true}
use Rattle.pooma_check.specs.Readings.{views_of_reading}
use Rattle.pooma_check.proofs.TreeViews.{views_of_joined, views_of_tree}

-- no cell of the target is read at another position by these views
abbrev pub AreApart : Viewed → List Viewed → Type 0
AreApart target views = All (λ view. IsOverlap view target → ⊥) views

-- two different positions of a view name different cells
abbrev pub NamesOnce : Type 0
NamesOnce = (slots : List Slot) (p q : List ℤ) → IsIn (positions_of slots) p → IsIn (positions_of slots) q
    → cell_named slots p ≡ cell_named slots q → p ≡ q

-- one view that is read
pub apart_single : (target view : Viewed) (overlaps : Bool) → (IsTrue overlaps ↔ IsOverlap view target) → IsTrue (not overlaps) ↔ AreApart target (view ∷ [])
apart_single target view true is =
    (λ t. absurd (not_true t), λ h. absurd (All-head (λ v. IsOverlap v target → ⊥) view [] h (is.0 refl)))
apart_single target view false is =
    (λ t. All-cons (λ v. IsOverlap v target → ⊥) view [] (λ o. not_true (is.1 o)) (All-nil (λ v. IsOverlap v target → ⊥)), λ h. refl)

apart_itself : NamesOnce → (view : Viewed) → IsOverlap view view → ⊥
apart_itself once view h = h.1.4 (once view.slots h.1.0 h.1.1 h.1.2 h.1.3 h.1.5)

apart_with_old : NamesOnce → (target : Viewed) (views all : List Viewed) → (all ≡ views) ⊎ (all ≡ target ∷ views)
    → AreApart target views ↔ AreApart target all
apart_with_old once target views all (inl is) = (λ h. subst (AreApart target) (sym is) h, λ h. subst (AreApart target) is h)
apart_with_old once target views all (inr is) = (
  λ h. subst (AreApart target) (sym is) (All-cons (λ view. IsOverlap view target → ⊥) target views (apart_itself once target) h),
  λ h. All-tail (λ view. IsOverlap view target → ⊥) target views (subst (AreApart target) is h),
)

-- An assignment reads at its positions where what stands behind the equal sign does: the old values that it is joined with are its own.
pub assignment_apart : NamesOnce → (known : Known) (text : List ℕ) (how : RawAssign) (target : Viewed) (value : RawExpr) (answer : Bool)
    → (IsTrue answer ↔ AreApart target (flat_map views_of_reading (readings_in known text value)))
    → IsTrue answer ↔ ReadsApart target (joined how target (tree_of known text value))
assignment_apart once known text how target value answer is =
    let tree = tree_of known text value in
    let views = flat_map views_of_reading (readings_in known text value) in
    let same : views_of tree ≡ views = views_of_tree known text value in
    let both = apart_with_old once target (views_of tree) (views_of (joined how target tree)) (views_of_joined how target tree) in (
      λ t. both.0 (subst (AreApart target) (sym same) (is.0 t)),
      λ h. is.1 (subst (AreApart target) same (both.1 h)),
    )
