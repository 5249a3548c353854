-- A view at the places of a box, for any list of slots: its positions, and the cells that it names.
use Rattle.std.proofs.Common.{◌≡◌, ◌⊎◌, inl, inr, ℕ, ◌+◌, ◌-◌, ◌<◌, ◌≤◌, ℤ, pos, negsuc, ◌+ℤ◌, ◌-ℤ◌, ◌*ℤ◌, ◌≤ℤ◌, FitsSigned, w32, refl, sym, ap, ap₂, ◌∙◌, arith, List, [], ◌∷◌}
use Rattle.std.specs.Prelude.{map, All}
use Rattle.std.proofs.lemmas.Int.{ints}
use Rattle.std.proofs.lemmas.List.Elements.{All-nil, All-cons, All-head, All-tail}
use Rattle.pooma_domain.specs.Cells.{Interval, count_of, IsAxis, IsIn, IsOrdered}
use Rattle.pooma_domain.specs.Operations.{moved}
use Rattle.pooma_domain.specs.declared.strides.Strided.{Strided}
use Rattle.pooma_domain.proofs.Striding.{fits_between, part_fits}
use Rattle.pooma_view.specs.Slots.{positions_of, cell_named, left_over, first_named, from_zero, IsRestricted, IsWithinPlaces}
use Rattle.pooma_view.specs.Restricted.{IsStrided, restricted_slot, restricted_slots, strided_or_not, where_strided}
use Rattle.pooma_view.specs.declared.slots.Slot.{Slot}
use Rattle.pooma_view.specs.declared.slots.Slot.TheVariants.{Fixed, Along}
use Rattle.pooma_view.proofs.Parts.{within_places, restricted_places, restricted_cell}
use Rattle.pooma_stencil.proofs.Axes.{firsts, lasts}

count_of-is : (z : ℤ) → pos 0 ≤ℤ z → pos (count_of z) ≡ z
count_of-is (pos n) h = refl
count_of-is (negsuc n) h = absurd (omega (arith, ints, h))

-- the numbers at some places of strided numbers are strided ones
part_is_strided : (s : Strided) (first last : ℤ) → FitsSigned w32 s.first → first ≤ℤ last → pos 0 ≤ℤ first → last ≤ℤ (pos s.count -ℤ pos 1)
    → IsStrided (s.first +ℤ s.stride *ℤ first) s.stride (count_of ((last -ℤ first) +ℤ pos 1))
part_is_strided s (negsuc from) last f ordered low high = absurd (omega (arith, ints, low))
part_is_strided s (pos from) last f ordered low high =
    let count = count_of ((last -ℤ pos from) +ℤ pos 1) in
    let is : pos count ≡ (last -ℤ pos from) +ℤ pos 1 = count_of-is ((last -ℤ pos from) +ℤ pos 1) (omega (arith, ints, ordered)) in
    let some : 0 < count = omega (arith, ints, is, ordered) in
    let within : from + count ≤ s.count = omega (arith, ints, is, high) in
    let all : 0 < s.count = s.some in
    let at : FitsSigned w32 (s.first +ℤ s.stride *ℤ pos from) = fits_between s.first s.stride from (s.count - 1) (omega arith) f s.fits in
    (s.moves, some, part_fits s.first s.stride (s.first +ℤ s.stride *ℤ pos from) from count s.count some within at s.fits refl)

where_strided-is : (first stride : ℤ) (count : ℕ) (d : IsStrided first stride count ⊎ (¬ (IsStrided first stride count))) (other : Strided) → IsStrided first stride count
    → ((where_strided first stride count d other).first ≡ first) × ((where_strided first stride count d other).stride ≡ stride) × ((where_strided first stride count d other).count ≡ count)
where_strided-is first stride count (inl h) other is = (refl, refl, refl)
where_strided-is first stride count (inr none) other is = absurd (none is)

-- a slot at places of its own has its numbers there
slot_is_restricted : (slot : Slot) (axes : List Interval) → FitsSigned w32 (first_named slot) → All IsOrdered axes → IsWithinPlaces slot axes
    → IsRestricted slot (restricted_slot slot axes) axes
slot_is_restricted (Fixed x) axes f ordered w = refl
slot_is_restricted (Along s) [] f ordered w = absurd w
slot_is_restricted (Along s) (axis ∷ axes) f ordered w =
    let here : axis.first ≤ℤ axis.last = All-head IsOrdered axis axes ordered in
    let first = s.first +ℤ s.stride *ℤ axis.first in
    let count = count_of ((axis.last -ℤ axis.first) +ℤ pos 1) in
    let numbers : IsStrided first s.stride count = part_is_strided s axis.first axis.last f here w.0 w.1 in
    let is = where_strided-is first s.stride count (strided_or_not first s.stride count) s numbers in
    (is.0, is.1, ap (λ n. pos n) is.2 ∙ count_of-is ((axis.last -ℤ axis.first) +ℤ pos 1) (omega (arith, ints, here)))

left_ordered : (slot : Slot) (axes : List Interval) → All IsOrdered axes → All IsOrdered (left_over slot axes)
left_ordered (Fixed x) axes h = h
left_ordered (Along s) [] h = All-nil IsOrdered
left_ordered (Along s) (axis ∷ axes) h = All-tail IsOrdered axis axes h

-- the first number of a slot is one of the code
abbrev pub FirstFits : Slot → Type 0
FirstFits slot = FitsSigned w32 (first_named slot)

-- slots at the positions of a box have its positions, counted from 0, and name there what they named
pub record AreRestricted (slots : List Slot) (axes : List Interval) : Type 0 where
  pub positions : positions_of (restricted_slots slots axes) ≡ from_zero axes
  pub cells : (p : List ℤ) → IsIn (from_zero axes) p → cell_named (restricted_slots slots axes) p ≡ cell_named slots (moved p (firsts axes))

pub slots_are_restricted : (slots : List Slot) (axes : List Interval) → All FirstFits slots → All IsOrdered axes → IsIn (positions_of slots) (firsts axes) → IsIn (positions_of slots) (lasts axes)
    → AreRestricted slots axes
slots_are_restricted [] [] fit ordered h k = record { positions = refl; cells = λ p q. refl }
slots_are_restricted [] (axis ∷ axes) fit ordered h k = absurd h
slots_are_restricted (slot ∷ slots) axes fit ordered h k =
    let w = within_places slot (positions_of slots) axes h k in
    let is = slot_is_restricted slot axes (All-head FirstFits slot slots fit) ordered w.0 in
    let later = slots_are_restricted slots (left_over slot axes) (All-tail FirstFits slot slots fit) (left_ordered slot axes ordered) w.1 w.2 in
    record {
      positions = restricted_places slot (restricted_slot slot axes) axes (positions_of (restricted_slots slots (left_over slot axes))) w.0 is later.positions;
      cells = λ p q.
          let c = restricted_cell slot (restricted_slot slot axes) axes p w.0 is q in
          ap₂ (λ (x : ℤ) (xs : List ℤ). x ∷ xs) c.0 (later.cells (left_over (restricted_slot slot axes) p) c.2 ∙ ap (cell_named slots) (sym c.1));
    }

-- the first numbers of slots that name cells of a box are ones of the code
pub firsts_fit : (slots : List Slot) (area : List Interval) → All IsAxis area → IsIn area (map first_named slots) → All FirstFits slots
firsts_fit [] area valid h = All-nil FirstFits
firsts_fit (slot ∷ slots) [] valid h = absurd h
firsts_fit (slot ∷ slots) (axis ∷ area) valid h =
    let is : IsAxis axis = All-head IsAxis axis area valid in
    All-cons FirstFits slot slots (omega (arith, ints, is.low, is.high, h.0, h.1)) (firsts_fit slots area (All-tail IsAxis axis area valid) h.2)
