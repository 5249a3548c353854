-- The slots and positions of ranges that have a number.
use Rattle.std.proofs.Common.{◌≡◌, ◌≢◌, ◌⊎◌, inl, inr, ℕ, zero, suc, ◌-◌, ◌*◌, ◌<◌, ◌≤◌, ℤ, pos, negsuc, ◌+ℤ◌, ◌-ℤ◌, ◌*ℤ◌, ◌≤ℤ◌, FitsSigned, List, [], ◌∷◌, refl, sym, ap, subst, ◌∙◌, arith}
use Rattle.std.proofs.Math.IntN.{*ℤ-zero, +ℤ_idr}
use Rattle.std.proofs.Math.Nat.{le-mul_of_pos_right}
use Rattle.std.proofs.Props.{props}
use Rattle.std.proofs.lemmas.Int.{ints}
use Rattle.std.proofs.lemmas.List.Elements.{All-head, All-tail}
use Rattle.std.specs.Int.{w32, w64}
use Rattle.std.specs.List.{filter_map}
use Rattle.std.specs.Prelude.{◌↔◌, All, map}
use Rattle.pooma_domain.specs.Cells.{Interval, IsIn, IsOrdered}
use Rattle.pooma_domain.specs.declared.strides.Strided.{Strided}
use Rattle.pooma_view.specs.Slots.{cell_named, coordinate, first_named, last_named, positions_of, with_places}
use Rattle.pooma_view.specs.declared.slots.Slot.{Slot}
use Rattle.pooma_view.specs.declared.slots.Slot.TheVariants.{Fixed, Along}
use Rattle.pooma_parse.specs.declared.form.RawSub.{RawSub}
use Rattle.pooma_parse.specs.declared.form.RawSub.TheVariants.{At, Range}
use Rattle.pooma_view.specs.Restricted.{IsStrided, strided, strided_or_not}
use Rattle.pooma_script.specs.Ends.{EndsOn, IsOn, IsShort}
use Rattle.pooma_script.specs.Views.{along, along_if, count_to, places_of, places_to, slot_of}
use Rattle.pooma_script.proofs.Ranges.{down_by, numbers_of_range, steps_within, up_by}

only_one : (first stride : ℤ) (count : ℕ) → IsProp (IsStrided first stride count)
only_one first stride count = hlevel props

along_by : (first stride : ℤ) (count : ℕ) (h : IsStrided first stride count) (d : IsStrided first stride count ⊎ (¬ (IsStrided first stride count)))
    → along_if first stride count d ≡ Along (strided first stride count h)
along_by first stride count h (inl k) = ap (λ q. Along (strided first stride count q)) (only_one first stride count k h)
along_by first stride count h (inr never) = absurd (never h)

-- numbers at a stride are a slot that goes along them
pub along_is : (first stride : ℤ) (count : ℕ) (h : IsStrided first stride count) → along first stride count ≡ Along (strided first stride count h)
along_is first stride count h = along_by first stride count h (strided_or_not first stride count)

-- what a range takes are numbers at a stride
pub range_is_strided : (first last stride : ℤ) → FitsSigned w32 first → FitsSigned w32 last → 0 < count_to first last stride
    → IsStrided first stride (count_to first last stride)
range_is_strided first last (pos zero) f g some = absurd (omega arith)
range_is_strided first last (pos (suc m)) f g some =
    let n = count_to first last (pos (suc m)) in
    let h = (numbers_of_range first last (pos (suc m)) (n - 1)).0 (omega arith) in
    let up : (first +ℤ pos (suc m) *ℤ pos (n - 1)) ≤ℤ last = h.1.0 (omega (arith, ints)) in
    (h.0, some, omega (arith, ints, f, g, up, up_by (suc m) (n - 1)))
range_is_strided first last (negsuc m) f g some =
    let n = count_to first last (negsuc m) in
    let h = (numbers_of_range first last (negsuc m) (n - 1)).0 (omega arith) in
    let down : last ≤ℤ (first +ℤ negsuc m *ℤ pos (n - 1)) = h.1.1 (omega (arith, ints)) in
    (h.0, some, omega (arith, ints, f, g, down, down_by m (n - 1)))

-- the number at a place of what a range takes
pub number_taken : (first last stride : ℤ) (k : ℕ) → FitsSigned w32 first → FitsSigned w32 last → k < count_to first last stride
    → coordinate (slot_of (Range first last stride)) (pos k ∷ []) ≡ first +ℤ stride *ℤ pos k
number_taken first last stride k f g below =
    ap (λ slot. coordinate slot (pos k ∷ []))
    (along_is first stride (count_to first last stride) (range_is_strided first last stride f g (omega (arith, below))))

-- where each range has a number, the places of the slots are those of the ranges
pub positions_of_subs : (subs : List RawSub) → All IsShort subs → All IsOrdered (filter_map places_of subs)
    → positions_of (map slot_of subs) ≡ filter_map places_of subs
positions_of_subs [] short some = refl
positions_of_subs (At n ∷ subs) short some = positions_of_subs subs (All-tail IsShort (At n) subs short) some
positions_of_subs (Range first last stride ∷ subs) short some =
    let n = count_to first last stride in
    let here : IsOrdered (places_to n) = All-head IsOrdered (places_to n) (filter_map places_of subs) some in
    let fit : FitsSigned w32 first × FitsSigned w32 last = All-head IsShort (Range first last stride) subs short in
    let numbers : IsStrided first stride n = range_is_strided first last stride fit.0 fit.1 (omega (arith, ints, here)) in
    ap (λ slot. with_places slot (positions_of (map slot_of subs))) (along_is first stride n numbers)
    ∙ ap (λ axes. places_to n ∷ axes) (positions_of_subs subs (All-tail IsShort (Range first last stride) subs short)
    (All-tail IsOrdered (places_to n) (filter_map places_of subs) some))

-- the first position of all, and the last
abbrev pub first_corner : List Interval → List ℤ
first_corner axes = map (λ axis. axis.first) axes

abbrev pub last_corner : List Interval → List ℤ
last_corner axes = map (λ axis. axis.last) axes

pub corners_in : (slots : List Slot) → IsIn (positions_of slots) (first_corner (positions_of slots)) × IsIn (positions_of slots) (last_corner (positions_of slots))
corners_in [] = (tt, tt)
corners_in (Fixed x ∷ slots) = corners_in slots
corners_in (Along s ∷ slots) =
    let some : 0 < s.count = s.some in
    let later = corners_in slots in
    ((omega (arith, ints), omega (arith, ints, some), later.0), (omega (arith, ints, some), omega (arith, ints), later.1))

first_place : (first stride : ℤ) → first +ℤ stride *ℤ pos 0 ≡ first
first_place first stride = ap (λ x. first +ℤ x) (*ℤ-zero stride) ∙ +ℤ_idr first

last_place : (n : ℕ) → 0 < n → pos n -ℤ pos 1 ≡ pos (n - 1)
last_place n some = omega (arith, ints)

pub first_cell : (slots : List Slot) → cell_named slots (first_corner (positions_of slots)) ≡ map first_named slots
first_cell [] = refl
first_cell (Fixed x ∷ slots) = ap (λ c. x ∷ c) (first_cell slots)
first_cell (Along s ∷ slots) =
    ap (λ x. x ∷ cell_named slots (first_corner (positions_of slots))) (first_place s.first s.stride) ∙ ap (λ c. s.first ∷ c) (first_cell slots)

pub last_cell : (slots : List Slot) → cell_named slots (last_corner (positions_of slots)) ≡ map last_named slots
last_cell [] = refl
last_cell (Fixed x ∷ slots) = ap (λ c. x ∷ c) (last_cell slots)
last_cell (Along s ∷ slots) =
    ap (λ k. (s.first +ℤ s.stride *ℤ k) ∷ cell_named slots (last_corner (positions_of slots))) (last_place s.count s.some)
    ∙ ap (λ c. last_named (Along s) ∷ c) (last_cell slots)

-- where each cell of the slots lies in a box, so do the first and the last
pub ends_inside : (slots : List Slot) (box : List Interval) → ((p : List ℤ) → IsIn (positions_of slots) p → IsIn box (cell_named slots p))
    → IsIn box (map first_named slots) × IsIn box (map last_named slots)
ends_inside slots box h = (
  subst (IsIn box) (first_cell slots) (h (first_corner (positions_of slots)) (corners_in slots).0),
  subst (IsIn box) (last_cell slots) (h (last_corner (positions_of slots)) (corners_in slots).1),
)

-- the last number of a range lies so far from the first
pub range_way_fits : (first last stride : ℤ) → FitsSigned w32 first → FitsSigned w32 last → 0 < count_to first last stride
    → FitsSigned w64 (stride *ℤ pos (count_to first last stride - 1))
range_way_fits first last (pos zero) f g some = absurd (omega arith)
range_way_fits first last (pos (suc m)) f g some =
    let n = count_to first last (pos (suc m)) in
    let far : pos ((n - 1) * suc m) ≤ℤ (last -ℤ first) = steps_within (last -ℤ first) (suc m) (n - 1) (omega arith) (omega arith) in
    omega (arith, ints, f, g, far, up_by (suc m) (n - 1))
range_way_fits first last (negsuc m) f g some =
    let n = count_to first last (negsuc m) in
    let far : pos ((n - 1) * suc m) ≤ℤ (first -ℤ last) = steps_within (first -ℤ last) (suc m) (n - 1) (omega arith) (omega arith) in
    omega (arith, ints, f, g, far, down_by m (n - 1))

-- a range of more numbers than an axis can have goes beyond it
pub too_many : (low high first last stride : ℤ) (n : ℕ) → (high -ℤ low) ≤ℤ pos 8000000 → 8000001 < n → n ≡ count_to first last stride → stride ≢ pos 0
    → low ≤ℤ first → first ≤ℤ high → low ≤ℤ (first +ℤ stride *ℤ pos (n - 1)) → (first +ℤ stride *ℤ pos (n - 1)) ≤ℤ high → ⊥
too_many low high first last (pos zero) n near many is moves a b c d = moves refl
too_many low high first last (pos (suc m)) n near many is moves a b c d =
    let more : n - 1 ≤ (n - 1) * suc m = le-mul_of_pos_right (n - 1) (omega arith) in
    omega (arith, ints, near, many, a, b, c, d, more, up_by (suc m) (n - 1))
too_many low high first last (negsuc m) n near many is moves a b c d =
    let more : n - 1 ≤ (n - 1) * suc m = le-mul_of_pos_right (n - 1) (omega arith) in
    omega (arith, ints, near, many, a, b, c, d, more, down_by m (n - 1))

-- the first and the last number of what a range takes
pub ends_of_range : (first last stride : ℤ) → FitsSigned w32 first → FitsSigned w32 last → 0 < count_to first last stride
    → (first_named (slot_of (Range first last stride)) ≡ first)
    × (last_named (slot_of (Range first last stride)) ≡ first +ℤ stride *ℤ pos (count_to first last stride - 1))
ends_of_range first last stride f g some =
    let n = count_to first last stride in
    let is : slot_of (Range first last stride) ≡ Along (strided first stride n (range_is_strided first last stride f g some)) =
    along_is first stride n (range_is_strided first last stride f g some) in
    (ap first_named is, ap last_named is)

-- the same slot by any proof that its numbers are strided
pub taken_slot : (first last stride : ℤ) (n : ℕ) (h : IsStrided first stride n) → n ≡ count_to first last stride
    → Along (strided first stride n h) ≡ slot_of (Range first last stride)
taken_slot first last stride n h is = sym (along_is first stride n h) ∙ ap (along first stride) is

-- strided numbers are the slot along them
pub along_same : (t : Strided) (first stride : ℤ) → t.first ≡ first → t.stride ≡ stride → Along t ≡ along first stride t.count
along_same t first stride e f =
    sym (along_is t.first t.stride t.count (t.moves, t.some, t.fits)) ∙ ap (λ x. along x t.stride t.count) e ∙ ap (λ y. along first y t.count) f

-- a range has its ends on an axis where its first and its last number are on it
pub ends_on_range : (axis : Interval) (first last stride : ℤ) → FitsSigned w32 first → FitsSigned w32 last → 0 < count_to first last stride
    → EndsOn axis (slot_of (Range first last stride)) ↔ (IsOn axis first × IsOn axis (first +ℤ stride *ℤ pos (count_to first last stride - 1)))
ends_on_range axis first last stride f g some =
    let e = ends_of_range first last stride f g some in (
      λ h. (subst (IsOn axis) e.0 h.0, subst (IsOn axis) e.1 h.1),
      λ h. (subst (IsOn axis) (sym e.0) h.0, subst (IsOn axis) (sym e.1) h.1),
    )

-- and not where it has more numbers than an axis
pub too_many_on : (axis : Interval) (first last stride : ℤ) → FitsSigned w32 first → FitsSigned w32 last → (axis.last -ℤ axis.first) ≤ℤ pos 8000000
    → 8000001 < count_to first last stride → EndsOn axis (slot_of (Range first last stride)) → ⊥
too_many_on axis first last stride f g near many ends =
    let some : 0 < count_to first last stride = omega (arith, many) in
    let h = (ends_on_range axis first last stride f g some).0 ends in
    too_many axis.first axis.last first last stride (count_to first last stride) near many refl (range_is_strided first last stride f g some).0 h.0.0 h.0.1 h.1.0 h.1.1
