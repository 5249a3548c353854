-- The view of those positions of a view that lie in a box, counted from 0 again.
use Rattle.std.specs.Prelude.{◌≢◌, ◌⊎◌, ℕ, ◌-◌, ◌^◌, ◌<◌, ℤ, pos, ◌+ℤ◌, ◌*ℤ◌, FitsSigned, Bool, true, false, List, [], ◌∷◌}
use Rattle.std.specs.Bool.{Decides}
use Rattle.std.specs.Int.{w32}
use Rattle.std.proofs.Common.{refl, inl, inr}
use Rattle.std.proofs.lemmas.Bool.Decides.{Decides-and, Decides-int_eq, Decides-like, Decides-ltb, Decides-not}
use Rattle.pooma_domain.specs.Cells.{Interval, axis_length}
use Rattle.pooma_domain.specs.declared.strides.Strided.{Strided}
use Rattle.pooma_view.specs.Slots.{left_over}
use Rattle.pooma_view.specs.Views.{Viewed}
use Rattle.pooma_view.specs.declared.slots.Slot.{Slot}
use Rattle.pooma_view.specs.declared.slots.Slot.TheVariants.{Fixed, Along}
use lib.Signed.{mag}

-- what strided numbers promise
abbrev pub IsStrided : ℤ → ℤ → ℕ → Type 0
IsStrided first stride count = (stride ≢ pos 0) × (0 < count) × FitsSigned w32 (first +ℤ stride *ℤ pos (count - 1))

abbrev pub strided : (first stride : ℤ) (count : ℕ) → IsStrided first stride count → Strided
strided first stride count h = record { first = first; stride = stride; count = count; moves = h.0; some = h.1; fits = h.2 }

told : {P : Type 0} (b : Bool) → Decides b P → P ⊎ (¬ P)
told true d = inl (d.0 refl)
told false d = inr (λ p. cc (d.1 p))

-- numbers are strided ones, or are not
pub strided_or_not : (first stride : ℤ) (count : ℕ) → IsStrided first stride count ⊎ (¬ (IsStrided first stride count))
strided_or_not first stride count =
    let last = first +ℤ stride *ℤ pos (count - 1) in
    told _ (Decides-like _ (λ h. (h.0, h.1.0, h.1.1)) (λ h. (h.0, (h.1, h.2)))
    (Decides-and _ _ (Decides-not _ (Decides-int_eq stride (pos 0)))
    (Decides-and _ _ (Decides-ltb 0 count) (Decides-like _ (λ h. record { sfits = h }) (λ h. h.sfits) (Decides-ltb (mag last) (2 ^ 31))))))

abbrev pub where_strided : (first stride : ℤ) (count : ℕ) → IsStrided first stride count ⊎ (¬ (IsStrided first stride count)) → Strided → Strided
where_strided first stride count (inl h) other = strided first stride count h
where_strided first stride count (inr h) other = other

-- these numbers, where they are strided ones, and else the others
abbrev pub strided_or : ℤ → ℤ → ℕ → Strided → Strided
strided_or first stride count other = where_strided first stride count (strided_or_not first stride count) other

-- the slot at the places of the first of these axes, counted from 0 again
abbrev pub restricted_slot : Slot → List Interval → Slot
restricted_slot (Fixed x) axes = Fixed x
restricted_slot (Along s) [] = Along s
restricted_slot (Along s) (axis ∷ axes) = Along (strided_or (s.first +ℤ s.stride *ℤ axis.first) s.stride (axis_length axis) s)

abbrev pub restricted_slots : List Slot → List Interval → List Slot
restricted_slots [] axes = []
restricted_slots (slot ∷ slots) axes = restricted_slot slot axes ∷ restricted_slots slots (left_over slot axes)

-- the view of the positions that lie in the box, counted from 0 again
abbrev pub restricted : Viewed → List Interval → Viewed
restricted v axes = record { array = v.array; slots = restricted_slots v.slots axes }
