-- Along which axis of its array a view goes on an axis of positions.
use Rattle.std.proofs.Common.{refl, sym, ap, ◌∙◌, subst, inl, inr, ⊎_elim, arith, drop, add-one, ◌-◌}
use Rattle.std.specs.Prelude.{◌≡◌, ◌↔◌, ◌⊎◌, ℕ, zero, suc, ◌+◌, ◌<◌, ◌≤◌, ℤ, Option, Some, None, List, [], ◌∷◌, length, slice_get, slice_index_or, Any, Contains}
use Rattle.pooma_domain.specs.Cells.{Interval}
use Rattle.pooma_domain.specs.declared.strides.Strided.{Strided}
use Rattle.pooma_view.specs.declared.slots.Slot.{Slot}
use Rattle.pooma_view.specs.declared.slots.Slot.TheVariants.{Fixed, Along}
use Rattle.pooma_layout.specs.Axes.{CutAxis, IsAscending}
use Rattle.pooma_layout.specs.Patches.{borders_of, IsLayout}
use Rattle.pooma_model.specs.Parts.{parts_along}
use Rattle.pooma_part.specs.Crossing.{ChangesAt, IsCrossing, IsInner, borders_at, part_at}
use Rattle.pooma_part.proofs.Changing.{crossed}

pub no_slots : (layout : List CutAxis) → parts_along layout [] ≡ []
no_slots [] = refl
no_slots (axis ∷ axes) = refl

none_left : {A : Type 0} (xs : List A) (k : ℕ) → length xs ≤ k → drop k xs ≡ []
none_left [] zero h = refl
none_left [] (suc k) h = refl
none_left (x ∷ xs) zero h = absurd (omega arith)
none_left (x ∷ xs) (suc k) h = none_left xs k (omega arith)

get_none : {A : Type 0} (n : ℕ) → slice_get {X = A} [] n ≡ None
get_none n = refl

pub past_slots : (layout : List CutAxis) (slots : List Slot) (k n : ℕ) → length slots ≤ k → slice_get (parts_along (drop k layout) (drop k slots)) n ≡ None
past_slots layout slots k n h =
    ap (λ rest. slice_get (parts_along (drop k layout) rest) n) (none_left slots k h) ∙ ap (λ fs. slice_get fs n) (no_slots (drop k layout))

pub past_axes : (layout : List CutAxis) (slots : List Slot) (k n : ℕ) → length layout ≤ k → slice_get (parts_along (drop k layout) (drop k slots)) n ≡ None
past_axes layout slots k n h = ap (λ rest. slice_get (parts_along rest (drop k slots)) n) (none_left layout k h)

-- a fixed slot has no axis of positions
at_fixed : (layout : List CutAxis) (slots : List Slot) (k : ℕ) (x : ℤ) → k < length layout → slice_get slots k ≡ Some (Fixed x) → parts_along (drop k layout) (drop k slots) ≡ parts_along (drop (suc k) layout) (drop (suc k) slots)
at_fixed [] slots k x h at = absurd (omega arith)
at_fixed (axis ∷ axes) [] k x h at = cc
at_fixed (axis ∷ axes) (slot ∷ slots) zero x h at = let same : slot ≡ Fixed x = cc in ap (λ s. parts_along (axis ∷ axes) (s ∷ slots)) same
at_fixed (axis ∷ axes) (slot ∷ slots) (suc k) x h at = at_fixed axes slots k x (omega arith) at

pub over_fixed : (layout : List CutAxis) (slots : List Slot) (k : ℕ) (x : ℤ) → k < length layout → slice_get slots k ≡ Some (Fixed x) → parts_along (drop k layout) (drop k slots) ≡ parts_along (drop (k + 1) layout) (drop (k + 1) slots)
over_fixed layout slots k x h at = rw add-one (at_fixed layout slots k x h at)

at_along : (layout : List CutAxis) (slots : List Slot) (k : ℕ) (s : Strided) → k < length layout → slice_get slots k ≡ Some (Along s)
    → parts_along (drop k layout) (drop k slots) ≡ part_at (borders_at layout k) s ∷ parts_along (drop (suc k) layout) (drop (suc k) slots)
at_along [] slots k s h at = absurd (omega arith)
at_along (axis ∷ axes) [] k s h at = cc
at_along (axis ∷ axes) (slot ∷ slots) zero s h at = let same : slot ≡ Along s = cc in ap (λ t. parts_along (axis ∷ axes) (t ∷ slots)) same
at_along (axis ∷ axes) (slot ∷ slots) (suc k) s h at = at_along axes slots k s (omega arith) at

pub first_along : (layout : List CutAxis) (slots : List Slot) (k : ℕ) (s : Strided) → k < length layout → slice_get slots k ≡ Some (Along s)
    → slice_get (parts_along (drop k layout) (drop k slots)) 0 ≡ Some (part_at (borders_at layout k) s)
first_along layout slots k s h at = ap (λ fs. slice_get fs 0) (at_along layout slots k s h at)

pub later_along : (layout : List CutAxis) (slots : List Slot) (k n : ℕ) (s : Strided) → k < length layout → slice_get slots k ≡ Some (Along s) → 0 < n
    → slice_get (parts_along (drop k layout) (drop k slots)) n ≡ slice_get (parts_along (drop (k + 1) layout) (drop (k + 1) slots)) (n - 1)
later_along layout slots k zero s h at some = absurd (omega arith)
later_along layout slots k (suc n) s h at some =
    let less : suc n - 1 ≡ n = omega arith in
    rw (less, add-one) (ap (λ fs. slice_get fs (suc n)) (at_along layout slots k s h at))

-- ---- what a layout's borders say of a view

borders_ascend : (layout : List CutAxis) (k : ℕ) (bs : List ℤ) → IsLayout layout → slice_get (borders_of layout) k ≡ Some bs → IsAscending bs
borders_ascend layout k bs valid at = by layout k (λ j d h. (valid.axes j d h).ascending) at
  where
    by : (axes : List CutAxis) (k : ℕ) → ((j : ℕ) (d : CutAxis) → j < length axes → IsAscending (slice_index_or axes j d).borders) → slice_get (borders_of axes) k ≡ Some bs → IsAscending bs
    by [] k all at = cc
    by (axis ∷ axes) zero all at = let same : axis.borders ≡ bs = cc in subst IsAscending same (all zero axis (omega arith))
    by (axis ∷ axes) (suc k) all at = by axes k (λ j d h. all (suc j) d (omega arith)) at

borders_there : (layout : List CutAxis) (k : ℕ) (bs : List ℤ) → slice_get (borders_of layout) k ≡ Some bs → borders_at layout k ≡ bs
borders_there [] k bs at = cc
borders_there (axis ∷ axes) zero bs at = cc
borders_there (axis ∷ axes) (suc k) bs at = borders_there axes k bs at

-- the places at which the view comes past a border are those at which it comes to another part
pub view_changes : (layout : List CutAxis) (k : ℕ) (bs : List ℤ) (s : Strided) (part : Option (ℤ → ℕ)) (axis : Interval) (old new : List ℤ) → IsLayout layout
    → slice_get (borders_of layout) k ≡ Some bs → part ≡ Some (part_at (borders_at layout k) s)
    → ((j : ℤ) → Contains new j ↔ (Contains old j ⊎ (IsInner axis j × Any (λ b. IsCrossing s b j) bs)))
    → (j : ℤ) → Contains new j ↔ (Contains old j ⊎ ChangesAt part axis j)
view_changes layout k bs s part axis old new valid at is step j =
    subst (λ p. Contains new j ↔ (Contains old j ⊎ ChangesAt p axis j)) (sym (is ∙ ap (λ borders. Some (part_at borders s)) (borders_there layout k bs at)))
    (let changes = crossed s bs j (borders_ascend layout k bs valid at) in (
      λ m. ⊎_elim (λ o. inl o) (λ some. inr (some.0, changes.0 some.1)) ((step j).0 m),
      λ m. (step j).1 (⊎_elim (λ o. inl o) (λ some. inr (some.0, changes.1 some.1)) m),
    ))
