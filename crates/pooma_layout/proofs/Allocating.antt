-- What patches allocate.
use Rattle.std.proofs.Common.{sym, ap, ◌∙◌, subst, arith, get_or, take}
use Rattle.std.proofs.lemmas.Int.{ints, clamps}
use Rattle.std.proofs.lemmas.List.Elements.{All-head, All-tail}
use Rattle.std.proofs.lemmas.List.Sums.{sum_by-cons, sum_by_more, sum_by-take-le}
use Rattle.std.proofs.lemmas.Option.{slice_get_within, get_or_from_slice_get}
use Rattle.std.specs.Prelude.{◌≡◌, ◌^◌, sum_by, ℕ, zero, suc, ◌+◌, ◌*◌, ◌/◌, ◌%◌, ◌<◌, ◌≤◌, ℤ, pos, ◌-ℤ◌, ◌+ℤ◌, ◌≤ℤ◌, ◌<ℤ◌, Some, List, [], ◌∷◌, length, map, slice_get, All}
use Rattle.pooma_domain.specs.Cells.{Interval, interval, axis_length, IsIn}
use Rattle.pooma_layout.specs.Axes.{CutAxis, total_axis, cut_at, parts, allocated_part, IsCutAxis}
use Rattle.pooma_layout.specs.Patches.{owned_boxes, allocated_of, total_of}
use Rattle.pooma_layout.proofs.Counting.{length_of_interval}
use Rattle.pooma_layout.proofs.Cutting.{Cut, cut_is_ordered, interval_within, length-cut_at}
use Rattle.pooma_layout.proofs.Choices.{box_at_place}
use Rattle.pooma_layout.proofs.Owning.{total_cut}

-- a part of an axis lies within what it allocates, and that within the axis
pub allocated_holds : (axis : CutAxis) (part : Interval) → IsCutAxis axis → (total_axis axis).first ≤ℤ part.first → part.last ≤ℤ (total_axis axis).last → ((allocated_part axis part).first ≤ℤ part.first) × (part.last ≤ℤ (allocated_part axis part).last)
allocated_holds axis part valid low high =
    let depth : pos 0 ≤ℤ axis.internal = valid.internal_depth.low in
    (omega (arith, ints, clamps, depth, low), omega (arith, ints, clamps, depth, high))

pub allocated_within : (axis : CutAxis) (part : Interval) → ((total_axis axis).first ≤ℤ (allocated_part axis part).first) × ((allocated_part axis part).last ≤ℤ (total_axis axis).last)
allocated_within axis part = (omega (arith, ints, clamps), omega (arith, ints, clamps))

pub part_within : (axis : CutAxis) (k : ℕ) (part : Interval) → IsCutAxis axis → slice_get (parts axis) k ≡ Some part → ((total_axis axis).first ≤ℤ part.first) × (part.first ≤ℤ part.last) × (part.last ≤ℤ (total_axis axis).last)
part_within axis k part valid at = interval_within (total_axis axis).first axis.borders (total_axis axis).last k part (total_cut axis valid) at

-- so an owned cell is allocated, and an allocated cell total
allocated_step : (axis : CutAxis) (axes : List CutAxis) (part : Interval) (rest : List Interval) (c : List ℤ) → IsCutAxis axis → (total_axis axis).first ≤ℤ part.first → part.last ≤ℤ (total_axis axis).last → ((xs : List ℤ) → (IsIn rest xs → IsIn (allocated_of axes rest) xs) × (IsIn (allocated_of axes rest) xs → IsIn (total_of axes) xs)) → (IsIn (part ∷ rest) c → IsIn (allocated_of (axis ∷ axes) (part ∷ rest)) c) × (IsIn (allocated_of (axis ∷ axes) (part ∷ rest)) c → IsIn (total_of (axis ∷ axes)) c)
allocated_step axis axes part rest [] valid low high later = (λ h. absurd h, λ h. absurd h)
allocated_step axis axes part rest (x ∷ xs) valid low high later =
    let holds : ((allocated_part axis part).first ≤ℤ part.first) × (part.last ≤ℤ (allocated_part axis part).last) = allocated_holds axis part valid low high in
    let within : ((total_axis axis).first ≤ℤ (allocated_part axis part).first) × ((allocated_part axis part).last ≤ℤ (total_axis axis).last) = allocated_within axis part in (
      λ h. (omega (arith, ints, holds.0, h.0), omega (arith, ints, holds.1, h.1), (later xs).0 h.2),
      λ h. (omega (arith, ints, within.0, h.0), omega (arith, ints, within.1, h.1), (later xs).1 h.2),
    )

pub allocated_cells : (layout : List CutAxis) (p : ℕ) (owned : List Interval) (c : List ℤ) → All IsCutAxis layout → slice_get (owned_boxes layout) p ≡ Some owned → (IsIn owned c → IsIn (allocated_of layout owned) c) × (IsIn (allocated_of layout owned) c → IsIn (total_of layout) c)
allocated_cells [] zero owned c valid at =
    let same : owned ≡ [] = cc in
    subst (λ (b : List Interval). (IsIn b c → IsIn (allocated_of [] b) c) × (IsIn (allocated_of [] b) c → IsIn (total_of []) c)) (sym same) (λ h. h, λ h. h)
allocated_cells [] (suc p) owned c valid at = cc
allocated_cells (axis ∷ axes) p owned c valid at =
    let split : (part : Interval) × (rest : List Interval) × (slice_get (parts axis) (p % length (parts axis)) ≡ Some part) × (slice_get (owned_boxes axes) (p / length (parts axis)) ≡ Some rest) × (owned ≡ part ∷ rest) =
    box_at_place (parts axis) (map parts axes) p owned at in
    let here : IsCutAxis axis = All-head IsCutAxis axis axes valid in
    let inside : ((total_axis axis).first ≤ℤ split.0.first) × (split.0.first ≤ℤ split.0.last) × (split.0.last ≤ℤ (total_axis axis).last) =
    part_within axis (p % length (parts axis)) split.0 here split.2 in
    subst (λ (b : List Interval). (IsIn b c → IsIn (allocated_of (axis ∷ axes) b) c) × (IsIn (allocated_of (axis ∷ axes) b) c → IsIn (total_of (axis ∷ axes)) c)) (sym split.4)
    (allocated_step axis axes split.0 split.1 c here inside.0 inside.2
    (λ xs. allocated_cells axes (p / length (parts axis)) split.1 xs (All-tail IsCutAxis axis axes valid) split.3))

-- what a part allocates has a number, and at most 16 more than the part
part_allocates : (axis : CutAxis) (part : Interval) → IsCutAxis axis → (total_axis axis).first ≤ℤ part.first → part.first ≤ℤ part.last → part.last ≤ℤ (total_axis axis).last → axis_length (allocated_part axis part) ≤ axis_length part + 16
part_allocates axis part valid low some high =
    let holds : ((allocated_part axis part).first ≤ℤ part.first) × (part.last ≤ℤ (allocated_part axis part).last) = allocated_holds axis part valid low high in
    let begins : part.first ≤ℤ ((allocated_part axis part).first +ℤ axis.internal) = omega (arith, ints, clamps) in
    let ends : (allocated_part axis part).last ≤ℤ (part.last +ℤ axis.internal) = omega (arith, ints, clamps) in
    let ordered : (allocated_part axis part).first ≤ℤ (allocated_part axis part).last = omega (arith, ints, holds.0, holds.1, some) in
    at_most (allocated_part axis part) part axis.internal ordered some begins ends valid.internal_depth.high
  where
    at_most : (all part : Interval) (depth : ℤ) → all.first ≤ℤ all.last → part.first ≤ℤ part.last → part.first ≤ℤ (all.first +ℤ depth) → all.last ≤ℤ (part.last +ℤ depth) → depth ≤ℤ pos 8 → axis_length all ≤ axis_length part + 16
    at_most all part depth some_all some_part begins ends high =
        omega (arith, ints, length_of_interval all some_all, length_of_interval part some_part)

-- all parts together allocate at most 16 numbers a part more than there are
parts_allocate : (axis : CutAxis) (first : ℤ) (borders : List ℤ) (last : ℤ) → IsCutAxis axis → (total_axis axis).first ≤ℤ first → last ≤ℤ (total_axis axis).last → Cut first borders last → sum_by axis_length (map (allocated_part axis) (cut_at first borders last)) ≤ axis_length (interval first last) + 16 * (length borders + 1)
parts_allocate axis first [] last valid low high cut =
    omega (arith, sum_by-cons axis_length (allocated_part axis (interval first last)) [], part_allocates axis (interval first last) valid low cut high)
parts_allocate axis first (border ∷ later) last valid low high cut =
    let above : first <ℤ border = cut.0 in
    let rest : border ≤ℤ last = cut_is_ordered border later last cut.1 in
    let here : axis_length (allocated_part axis (interval first (border -ℤ pos 1))) ≤ axis_length (interval first (border -ℤ pos 1)) + 16 =
    part_allocates axis (interval first (border -ℤ pos 1)) valid low (omega (arith, ints)) (omega (arith, ints)) in
    let others : sum_by axis_length (map (allocated_part axis) (cut_at border later last)) ≤ axis_length (interval border last) + 16 * (length later + 1) =
    parts_allocate axis border later last valid (omega (arith, ints)) high cut.1 in
    let whole : axis_length (interval first (border -ℤ pos 1)) + axis_length (interval border last) ≡ axis_length (interval first last) =
    joined first border last above rest in
    omega (arith, sum_by-cons axis_length (allocated_part axis (interval first (border -ℤ pos 1))) (map (allocated_part axis) (cut_at border later last)), here, others, whole)
  where
    joined : (first border last : ℤ) → first <ℤ border → border ≤ℤ last → axis_length (interval first (border -ℤ pos 1)) + axis_length (interval border last) ≡ axis_length (interval first last)
    joined first border last above rest =
        omega (arith, ints, length_of_interval (interval first (border -ℤ pos 1)) (omega (arith, ints)), length_of_interval (interval border last) rest, length_of_interval (interval first last) (omega (arith, ints)))

pub few_allocated : (axis : CutAxis) → IsCutAxis axis → length (parts axis) ≤ 256 → sum_by axis_length (map (allocated_part axis) (parts axis)) < 2 ^ 21
few_allocated axis valid few =
    let same_first : (total_axis axis).first ≤ℤ (total_axis axis).first = omega (arith, ints) in
    let same_last : (total_axis axis).last ≤ℤ (total_axis axis).last = omega (arith, ints) in
    let all : sum_by axis_length (map (allocated_part axis) (parts axis)) ≤ axis_length (total_axis axis) + 16 * (length axis.borders + 1) =
    parts_allocate axis (total_axis axis).first axis.borders (total_axis axis).last valid same_first same_last (total_cut axis valid) in
    let some : (total_axis axis).first ≤ℤ (total_axis axis).last = cut_is_ordered (total_axis axis).first axis.borders (total_axis axis).last (total_cut axis valid) in
    let whole : axis_length (total_axis axis) ≤ 2000017 =
    omega (arith, ints, length_of_interval (total_axis axis) some, valid.near.low, valid.near.high, valid.external_depth.high) in
    omega (arith, length-cut_at (total_axis axis).first axis.borders (total_axis axis).last, all, whole, few)

-- one more part
pub allocated_more : (axis : CutAxis) (k n : ℕ) (all : Interval) → IsCutAxis axis → length (parts axis) ≤ 256 → n ≡ sum_by axis_length (take k (map (allocated_part axis) (parts axis))) → slice_get (map (allocated_part axis) (parts axis)) k ≡ Some all → (n + axis_length all ≡ sum_by axis_length (take (k + 1) (map (allocated_part axis) (parts axis)))) × (n + axis_length all < 2 ^ 21)
allocated_more axis k n all valid few is at =
    let within : k < length (map (allocated_part axis) (parts axis)) = slice_get_within (map (allocated_part axis) (parts axis)) k all at in
    let here : get_or (map (allocated_part axis) (parts axis)) k all ≡ all = get_or_from_slice_get (map (allocated_part axis) (parts axis)) k all all at in
    let more : sum_by axis_length (take (k + 1) (map (allocated_part axis) (parts axis))) ≡ sum_by axis_length (take k (map (allocated_part axis) (parts axis))) + axis_length all =
    sum_by_more axis_length (map (allocated_part axis) (parts axis)) k all within ∙ ap (λ a. sum_by axis_length (take k (map (allocated_part axis) (parts axis))) + axis_length a) here in
    let most : sum_by axis_length (take (k + 1) (map (allocated_part axis) (parts axis))) ≤ sum_by axis_length (map (allocated_part axis) (parts axis)) =
    sum_by-take-le axis_length (map (allocated_part axis) (parts axis)) (k + 1) in
    (omega (arith, is, more), omega (arith, is, more, most, few_allocated axis valid few))
