-- What a slot and a list of slots are, restricted to a box of positions.
use Rattle.std.proofs.Common.{◌≡◌, ◌⊎◌, ℕ, zero, suc, ◌≤◌, ℤ, refl, sym, ap, subst, ◌∙◌, arith, inl, inr, List, [], ◌∷◌, take}
use Rattle.pooma_domain.specs.Cells.{Interval, count_of}
use Rattle.pooma_domain.specs.declared.strides.Strided.{Strided}
use Rattle.pooma_view.specs.Slots.{left_over, IsRestricted}
use Rattle.pooma_view.specs.Restricted.{IsStrided, strided_or_not, where_strided, strided_or, restricted_slot, restricted_slots}
use Rattle.pooma_view.specs.declared.slots.Slot.{Slot}
use Rattle.pooma_view.specs.declared.slots.Slot.TheVariants.{Fixed, Along}
use Rattle.pooma_view.proofs.Same.{same_strided}

where_strided-itself : (t other : Strided) (d : IsStrided t.first t.stride t.count ⊎ (¬ (IsStrided t.first t.stride t.count))) → where_strided t.first t.stride t.count d other ≡ t
where_strided-itself t other (inl h) = same_strided _ t refl refl refl
where_strided-itself t other (inr h) = absurd (h (t.moves, t.some, t.fits))

strided_or-itself : (t other : Strided) (first stride : ℤ) (count : ℕ) → t.first ≡ first → t.stride ≡ stride → t.count ≡ count → strided_or first stride count other ≡ t
strided_or-itself t other first stride count e f g =
    subst (λ (n : ℕ). strided_or first stride n other ≡ t) g
    (subst (λ (s : ℤ). strided_or first s t.count other ≡ t) f
    (subst (λ (a : ℤ). strided_or a t.stride t.count other ≡ t) e
    (where_strided-itself t other (strided_or_not t.first t.stride t.count))))

pub restricted_slot-is : (s t : Slot) (axes : List Interval) → IsRestricted s t axes → t ≡ restricted_slot s axes
restricted_slot-is (Fixed x) (Fixed y) axes r = ap Fixed (sym r)
restricted_slot-is (Fixed x) (Along t) axes r = absurd r
restricted_slot-is (Along s) (Fixed y) axes r = absurd r
restricted_slot-is (Along s) (Along t) [] r = absurd r
restricted_slot-is (Along s) (Along t) (axis ∷ axes) r =
    ap Along (sym (strided_or-itself t s _ _ _ r.0 r.1 (ap count_of r.2)))

-- three slots, of which a view has the first d
pub restricted_slots-are : (d : ℕ) (x y z x' y' z' : Slot) (slots : List Slot) (axes after_x after_y : List Interval) → d ≤ 3 → take d (x ∷ y ∷ z ∷ []) ≡ slots → after_x ≡ left_over x axes → after_y ≡ left_over y after_x → IsRestricted x x' axes → IsRestricted y y' after_x → IsRestricted z z' after_y → take d (x' ∷ y' ∷ z' ∷ []) ≡ restricted_slots slots axes
restricted_slots-are d x y z x' y' z' slots axes after_x after_y few e ex ey rx ry rz =
    first_of_three d few ∙ ap (λ (s : List Slot). restricted_slots s axes) e
  where
    on_y : y' ≡ restricted_slot y (left_over x axes)
    on_y = restricted_slot-is y y' after_x ry ∙ ap (restricted_slot y) ex

    on_z : z' ≡ restricted_slot z (left_over y (left_over x axes))
    on_z = restricted_slot-is z z' after_y rz ∙ ap (restricted_slot z) (ey ∙ ap (left_over y) ex)

    first_of_three : (n : ℕ) → n ≤ 3 → take n (x' ∷ y' ∷ z' ∷ []) ≡ restricted_slots (take n (x ∷ y ∷ z ∷ [])) axes
    first_of_three zero h = refl
    first_of_three (suc zero) h = rw (restricted_slot-is x x' axes rx) refl
    first_of_three (suc (suc zero)) h = rw (restricted_slot-is x x' axes rx, on_y) refl
    first_of_three (suc (suc (suc zero))) h = rw (restricted_slot-is x x' axes rx, on_y, on_z) refl
    first_of_three (suc (suc (suc (suc n)))) h = absurd (omega arith)
