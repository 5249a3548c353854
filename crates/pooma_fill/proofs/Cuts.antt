-- Parts of boxes by one coordinate.
use Rattle.std.proofs.Common.{refl, subst, ⊎_elim, arith}
use Rattle.std.proofs.lemmas.Int.{ints}
use Rattle.std.proofs.lemmas.Option.{get_or_from_slice_get, slice_get-get_or}
use Rattle.std.specs.Prelude.{◌≡◌, ◌↔◌, ◌⊎◌, ℕ, zero, suc, ◌<◌, ℤ, pos, ◌+ℤ◌, ◌≤ℤ◌, ◌<ℤ◌, Option, Some, None, IfSome, List, [], ◌∷◌, length, slice_get, slice_set}
use Rattle.pooma_domain.specs.Cells.{Interval, IsIn}
use Rattle.pooma_field.specs.Slabs.{axis_at, coordinate_at}
use Rattle.pooma_fill.specs.Boxes.{IsWithin}
use Rattle.pooma_fill.proofs.Taken.{length_cell, of_box}
use Rattle.std.proofs.lemmas.Option.{slice_get_within}

if_some : (o : Option ℤ) (x : ℤ) (P : ℤ → Type 0) → o ≡ Some x → IfSome o P ↔ P x
if_some o x P e = rw e (λ h. h, λ h. h)

-- the coordinate of a box's cell is there
pub part_by_coordinate : (box part : List Interval) (n : ℕ) (P : ℤ → Type 0) → n < length box → ((c : List ℤ) → IsIn part c ↔ (IsIn box c × IfSome (slice_get c n) P)) → (c : List ℤ) → IsIn part c ↔ (IsIn box c × P (coordinate_at c n))
part_by_coordinate box part n P there is c = (
  λ h. let both = (is c).0 h in (both.0, (if_some (slice_get c n) (coordinate_at c n) P (at both.0)).0 both.1),
  λ h. (is c).1 (h.0, (if_some (slice_get c n) (coordinate_at c n) P (at h.0)).1 h.1),
)
  where
    at : IsIn box c → slice_get c n ≡ Some (coordinate_at c n)
    at h = slice_get-get_or c n _ (let same = length_cell box c h in omega (arith, same, there))

below_if : (o : Option ℤ) (at last : ℤ) → at ≡ last +ℤ pos 1 → IfSome o (λ x. x <ℤ at) ↔ IfSome o (λ x. x ≤ℤ last)
below_if None at last e = (λ h. h, λ h. h)
below_if (Some x) at last e = (λ h. omega (arith, ints, e, h), λ h. omega (arith, ints, e, h))

pub below_more : (box part : List Interval) (c : List ℤ) (n : ℕ) (at last : ℤ) → at ≡ last +ℤ pos 1 → IsIn part c ↔ (IsIn box c × IfSome (slice_get c n) (λ x. x <ℤ at)) → IsIn part c ↔ (IsIn box c × IfSome (slice_get c n) (λ x. x ≤ℤ last))
below_more box part c n at last e is = (
  λ h. let both = is.0 h in (both.0, (below_if (slice_get c n) at last e).0 both.1),
  λ h. is.1 (h.0, (below_if (slice_get c n) at last e).1 h.1),
)

pub at_own : (box : List Interval) (n : ℕ) (axis : Interval) (c : List ℤ) → slice_get box n ≡ Some axis → IsIn box c → IsWithin axis.first axis.last (coordinate_at c n)
at_own box n axis c at h =
    subst (λ (a : Interval). IsWithin a.first a.last (coordinate_at c n)) (get_or_from_slice_get box n axis _ at) (of_box box c n h (slice_get_within box n axis at))

pub axis_set : (box : List Interval) (n : ℕ) (axis : Interval) → n < length box → axis_at (slice_set box n axis) n ≡ axis
axis_set [] n axis there = absurd (omega (arith, there))
axis_set (a ∷ box) zero axis there = refl
axis_set (a ∷ box) (suc n) axis there = axis_set box n axis (omega (arith, there))

pub low_within : (low last : ℤ) (box above : List Interval) (n : ℕ) → (((axis_at above n).first ≡ low) ⊎ ((axis_at above n).first ≡ (axis_at box n).first)) → low ≤ℤ last → (axis_at box n).first ≤ℤ last → (axis_at above n).first ≤ℤ last
low_within low last box above n by h k = ⊎_elim (λ e. omega (arith, ints, e, h)) (λ e. omega (arith, ints, e, k)) by
