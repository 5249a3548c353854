-- The cells of a view at positions that differ on the first axis.
use Rattle.std.proofs.Common.{refl, ap, ◌∙◌, arith}
use Rattle.std.proofs.lemmas.Int.{ints}
use Rattle.std.proofs.Math.IntN.{*ℤ_comm, *ℤ-zero, suc_ℤ, suc_ℤ-*ℤ}
use Rattle.std.specs.Prelude.{◌≡◌, ℕ, zero, suc, ◌<◌, ℤ, pos, negsuc, ◌+ℤ◌, ◌*ℤ◌, List, [], ◌∷◌, length}
use Rattle.pooma_domain.specs.Cells.{Interval, IsIn}
use Rattle.pooma_domain.specs.Neighbours.{moved_along}
use Rattle.pooma_view.specs.Rows.{IsFirstAlong}
use Rattle.pooma_view.specs.Slots.{positions_of, cell_named}
use Rattle.pooma_view.specs.declared.slots.Slot.{Slot}
use Rattle.pooma_view.specs.declared.slots.Slot.TheVariants.{Fixed, Along}

one_more : (z : ℤ) → z +ℤ pos 1 ≡ suc_ℤ z
one_more (pos n) = omega (arith, ints)
one_more (negsuc zero) = refl
one_more (negsuc (suc n)) = omega (arith, ints)

-- one place more is a stride more
next_number : (stride z : ℤ) → stride *ℤ (z +ℤ pos 1) ≡ stride *ℤ z +ℤ stride
next_number stride z = *ℤ_comm stride (z +ℤ pos 1) ∙ ap (λ (m : ℤ). m *ℤ stride) (one_more z) ∙ suc_ℤ-*ℤ z stride ∙ ap (λ (m : ℤ). m +ℤ stride) (*ℤ_comm z stride)

-- so many places further on the number is so many strides further
numbers_on : (first stride z : ℤ) (k : ℕ) → first +ℤ stride *ℤ (z +ℤ pos k) ≡ (first +ℤ stride *ℤ z) +ℤ stride *ℤ pos k
numbers_on first stride z zero =
    let same : z +ℤ pos 0 ≡ z = omega (arith, ints) in
    let none : stride *ℤ pos 0 ≡ pos 0 = *ℤ-zero stride in
    rw (same, none) (let e : first +ℤ stride *ℤ z ≡ (first +ℤ stride *ℤ z) +ℤ pos 0 = omega (arith, ints) in e)
numbers_on first stride z (suc k) =
    let one : z +ℤ pos (suc k) ≡ (z +ℤ pos k) +ℤ pos 1 = omega (arith, ints) in
    let count : pos (suc k) ≡ pos k +ℤ pos 1 = omega (arith, ints) in
    let far : stride *ℤ (z +ℤ pos (suc k)) ≡ stride *ℤ (z +ℤ pos k) +ℤ stride = ap (λ (m : ℤ). stride *ℤ m) one ∙ next_number stride (z +ℤ pos k) in
    let more : stride *ℤ pos (suc k) ≡ stride *ℤ pos k +ℤ stride = ap (λ (m : ℤ). stride *ℤ m) count ∙ next_number stride (pos k) in
    omega (arith, ints, numbers_on first stride z k, far, more)

nothing_in_none : (axes : List Interval) (p : List ℤ) → axes ≡ [] → IsIn axes p → 0 < length p → ⊥
nothing_in_none [] [] none inside some = omega (arith, some)
nothing_in_none [] (x ∷ p) none inside some = inside
nothing_in_none (axis ∷ axes) p none inside some = cc

pub cells_in_line : (slots : List Slot) (axis : ℕ) (stride : ℤ) (p : List ℤ) (k : ℕ) → IsFirstAlong slots axis stride → IsIn (positions_of slots) p → 0 < length p → cell_named slots (moved_along 0 (pos k) p) ≡ moved_along axis (stride *ℤ pos k) (cell_named slots p)
cells_in_line [] axis stride p k along inside some = absurd along
cells_in_line (Fixed x ∷ slots) zero stride p k along inside some = absurd (nothing_in_none (positions_of slots) p along inside some)
cells_in_line (Fixed x ∷ slots) (suc axis) stride p k along inside some = ap (λ (c : List ℤ). x ∷ c) (cells_in_line slots axis stride p k along inside some)
cells_in_line (Along s ∷ slots) zero stride [] k along inside some = absurd inside
cells_in_line (Along s ∷ slots) zero stride (x ∷ p) k along inside some = rw (← along) (ap (λ (y : ℤ). y ∷ cell_named slots p) (numbers_on s.first s.stride x k))
cells_in_line (Along s ∷ slots) (suc axis) stride p k along inside some = absurd along
