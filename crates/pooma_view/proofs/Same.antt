-- When two slots, and two views, are the same.
use Rattle.std.proofs.Common.{refl, sym, ap, ap₂, ◌∙◌, subst, arith}
use Rattle.std.proofs.Props.{props}
use Rattle.std.specs.Prelude.{◌≡◌, ◌↔◌, ℕ, List, [], ◌∷◌, take, slice_index_or, Bool, nat_eq, ◌&&◌, IsTrue, ℤ}
use Rattle.std.specs.Cmp.Lexicographic.{pointwise, pointwise_decides}
use Rattle.std.specs.Bool.{Decides}
use Rattle.std.proofs.lemmas.Slice.Eq.{slice_eq-Decides}
use Rattle.std.proofs.lemmas.Bool.Decides.{same_from_decides, Decides-and, Decides-like, Decides-int_eq, Decides-eqb}
use Rattle.pooma_domain.specs.declared.strides.Strided.{Strided}
use Rattle.pooma_domain.specs.Padding.{first-padded, second-padded, third-padded}
use Rattle.pooma_view.specs.Restricted.{IsStrided, strided}
use Rattle.pooma_view.specs.contracts.slots.SlotPartialEq.TheImpl as slot
use Rattle.pooma_view.specs.Views.{Viewed, IsPaddedView, no_slot}
use Rattle.pooma_view.specs.declared.slots.Slot.{Slot}
use Rattle.pooma_view.specs.declared.slots.Slot.TheVariants.{Fixed, Along}

only_one : (first stride : ℤ) (count : ℕ) → IsProp (IsStrided first stride count)
only_one first stride count = hlevel props

same_numbers : (a b c d : ℤ) (n m : ℕ) (h : IsStrided a c n) → a ≡ b → c ≡ d → n ≡ m → (k : IsStrided b d m) → strided a c n h ≡ strided b d m k
same_numbers a b c d n m h e f g =
    subst (λ (b' : ℤ). (k : IsStrided b' d m) → strided a c n h ≡ strided b' d m k) e
    (subst (λ (d' : ℤ). (k : IsStrided a d' m) → strided a c n h ≡ strided a d' m k) f
    (subst (λ (m' : ℕ). (k : IsStrided a c m') → strided a c n h ≡ strided a c m' k) g
    (λ k. ap (strided a c n) (only_one a c n h k))))

pub same_strided : (s t : Strided) → s.first ≡ t.first → s.stride ≡ t.stride → s.count ≡ t.count → s ≡ t
same_strided s t e f g =
    same_numbers s.first t.first s.stride t.stride s.count t.count (s.moves, s.some, s.fits) e f g (t.moves, t.some, t.fits)

abbrev slot_eq : Slot → Slot → Bool
slot_eq = slot.eq-value.it

Decides-slot_eq : (a b : Slot) → Decides (slot_eq a b) (a ≡ b)
Decides-slot_eq (Fixed x) (Fixed y) = Decides-like _ (λ e. ap Fixed e) (λ e. cc) (Decides-int_eq x y)
Decides-slot_eq (Fixed x) (Along t) = (λ e. cc, λ e. cc)
Decides-slot_eq (Along s) (Fixed y) = (λ e. cc, λ e. cc)
Decides-slot_eq (Along s) (Along t) =
    let fields : Decides (slot_eq (Along s) (Along t)) ((s.first ≡ t.first) × ((s.stride ≡ t.stride) × (s.count ≡ t.count))) =
    Decides-and _ _ (Decides-int_eq s.first t.first) (Decides-and _ _ (Decides-int_eq s.stride t.stride) (Decides-eqb s.count t.count)) in (
      λ t'. let h = fields.0 t' in ap Along (same_strided s t h.0 h.1.0 h.1.1),
      λ e.
          let same : s ≡ t = cc in
          fields.1 (ap (λ (n : Strided). n.first) same, (ap (λ (n : Strided). n.stride) same, ap (λ (n : Strided). n.count) same)),
    )

-- a test that tells whether two views are the same one answers what the tests of the arrays and of the slots do
pub same_view : (r : Bool) (a b : Viewed) → (IsTrue r ↔ (a ≡ b)) → r ≡ (nat_eq a.array b.array && pointwise slot_eq a.slots b.slots)
same_view r a b h =
    same_from_decides r _ h
    (Decides-like _ (λ k. ap₂ (λ (n : ℕ) (s : List Slot). record { array = n; slots = s }) k.0 k.1) (λ e. (ap (λ (v : Viewed). v.array) e, ap (λ (v : Viewed). v.slots) e))
    (Decides-and _ _ (Decides-eqb a.array b.array) (pointwise_decides Decides-slot_eq a.slots b.slots)))

-- the three slots that are kept, from those that the view has
three_of : List Slot → List Slot
three_of slots = slice_index_or slots 0 no_slot ∷ slice_index_or slots 1 no_slot ∷ slice_index_or slots 2 no_slot ∷ []

three_are : (d : ℕ) (x y z : Slot) → IsPaddedView d x y z → three_of (take d (x ∷ y ∷ z ∷ [])) ≡ x ∷ y ∷ z ∷ []
unfolding three_of
three_are d x y z v =
    rw (first-padded d x y z no_slot v.few (λ k. absurd (omega (arith, v.some, k))), second-padded d x y z no_slot v.few v.no_y, third-padded d x y z no_slot v.few v.no_z) refl

-- two views of one array with as many slots are the same where the three slots that are kept are
pub same_kept : (a b d d' : ℕ) (x y z x' y' z' : Slot) (v v' : Viewed) → IsPaddedView d x y z → IsPaddedView d' x' y' z' → record { array = a; slots = take d (x ∷ y ∷ z ∷ []) } ≡ v → record { array = b; slots = take d' (x' ∷ y' ∷ z' ∷ []) } ≡ v' → a ≡ b → d ≡ d' → (r : Bool) → r ≡ pointwise slot_eq (x ∷ y ∷ z ∷ []) (x' ∷ y' ∷ z' ∷ []) → IsTrue r ↔ (v ≡ v')
same_kept a b d d' x y z x' y' z' v v' w w' e f arrays dims r is =
    let kept : ℕ → ℕ → List Slot → Viewed = λ n k s. record { array = n; slots = take k s } in
    let told : Decides r (x ∷ y ∷ z ∷ [] ≡ x' ∷ y' ∷ z' ∷ []) = slice_eq-Decides Decides-slot_eq (x ∷ y ∷ z ∷ []) (x' ∷ y' ∷ z' ∷ []) r is in (
      λ t. sym e ∙ ap₂ (λ n k. kept n k (x ∷ y ∷ z ∷ [])) arrays dims ∙ ap (kept b d') (told.0 t) ∙ f,
      λ same.
          let slots : take d (x ∷ y ∷ z ∷ []) ≡ take d' (x' ∷ y' ∷ z' ∷ []) = ap (λ (u : Viewed). u.slots) (e ∙ same ∙ sym f) in
          told.1 (sym (three_are d x y z w) ∙ ap three_of slots ∙ three_are d' x' y' z' w'),
    )
