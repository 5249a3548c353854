-- The part of an axis at a place, as its ends are found.
use Rattle.std.proofs.Common.{sym, ap, ◌∙◌, subst, ⊎_elim, arith, get_or, take}
use Rattle.std.proofs.lemmas.Bool.{cases_eq}
use Rattle.std.proofs.lemmas.Int.{ints, by_lt_z}
use Rattle.std.proofs.lemmas.List.{get_or_default, get_or-take}
use Rattle.std.proofs.lemmas.List.Sums.{prefix_len_is}
use Rattle.std.specs.Prelude.{◌≡◌, ℕ, ◌+◌, ◌-◌, ◌<◌, ◌≤◌, ℤ, pos, ◌-ℤ◌, ◌≤ℤ◌, ◌<ℤ◌, int_le, true, false, Option, Some, None, List, length, slice_get, IsSomeAnd}
use Rattle.std.specs.List.Sorted.{IsPartitionedBy, IsPartitionPoint}
use Rattle.pooma_domain.specs.Cells.{Interval, interval}
use Rattle.pooma_layout.specs.Axes.{CutAxis, total_axis, parts, part_of, IsAscending, IsCutAxis}
use Rattle.pooma_layout.proofs.Allocating.{part_within}
use Rattle.pooma_layout.proofs.Cutting.{begin_at, end_at, begin_after_first, end_at_border, end_at_last, length-cut_at, slice_get-cut_at}

pub length-parts : (axis : CutAxis) → length axis.borders + 1 ≡ length (parts axis)
length-parts axis = sym (length-cut_at (total_axis axis).first axis.borders (total_axis axis).last)

part_at : (axis : CutAxis) (k : ℕ) → k < length (parts axis) → slice_get (parts axis) k ≡ Some (interval (begin_at (total_axis axis).first axis.borders k) (end_at axis.borders (total_axis axis).last k))
part_at axis k h =
    slice_get-cut_at (total_axis axis).first axis.borders (total_axis axis).last k (omega (arith, length-parts axis))

holds_at : (P : Interval → Type 0) (o : Option Interval) (part : Interval) → o ≡ Some part → P part → IsSomeAnd o P
holds_at P o part at h = subst (λ (v : Option Interval). IsSomeAnd v P) (sym at) h

-- the first part begins with the axis, and a later one at its border
pub first_begins : (axis : CutAxis) (k : ℕ) (x : ℤ) → k ≡ 0 → (total_axis axis).first ≡ x → IsSomeAnd (slice_get (parts axis) k) (λ part. part.first ≡ x)
first_begins axis k x e is =
    let within : k < length (parts axis) = omega (arith, length-parts axis) in
    let begins : begin_at (total_axis axis).first axis.borders k ≡ (total_axis axis).first = ap (begin_at (total_axis axis).first axis.borders) e in
    holds_at (λ part. part.first ≡ x) (slice_get (parts axis) k) _ (part_at axis k within) (begins ∙ is)

pub later_begins : (axis : CutAxis) (k : ℕ) (x d : ℤ) → 0 < k → k < length (parts axis) → get_or axis.borders (k - 1) d ≡ x → IsSomeAnd (slice_get (parts axis) k) (λ part. part.first ≡ x)
later_begins axis k x d some within is =
    let here : k - 1 < length axis.borders = omega (arith, length-parts axis) in
    holds_at (λ part. part.first ≡ x) (slice_get (parts axis) k) _ (part_at axis k within)
    (begin_after_first (total_axis axis).first axis.borders k some ∙ get_or_default axis.borders (k - 1) (total_axis axis).first d here ∙ is)

-- the last part ends with the axis, and an earlier one below the next border
pub last_ends : (axis : CutAxis) (k : ℕ) (x : ℤ) → length axis.borders ≤ k → k < length (parts axis) → (total_axis axis).last ≡ x → IsSomeAnd (slice_get (parts axis) k) (λ part. part.last ≡ x)
last_ends axis k x above within is =
    holds_at (λ part. part.last ≡ x) (slice_get (parts axis) k) _ (part_at axis k within)
    (end_at_last axis.borders (total_axis axis).last k above ∙ is)

pub earlier_ends : (axis : CutAxis) (k : ℕ) (x d : ℤ) → k < length axis.borders → get_or axis.borders k d -ℤ pos 1 ≡ x → IsSomeAnd (slice_get (parts axis) k) (λ part. part.last ≡ x)
earlier_ends axis k x d below is =
    let within : k < length (parts axis) = omega (arith, length-parts axis) in
    holds_at (λ part. part.last ≡ x) (slice_get (parts axis) k) _ (part_at axis k within)
    (end_at_border axis.borders (total_axis axis).last k d below ∙ is)

-- both ends make the part
both_ends : (o : Option Interval) (a b : ℤ) → IsSomeAnd o (λ part. part.first ≡ a) → IsSomeAnd o (λ part. part.last ≡ b) → o ≡ Some (interval a b)
both_ends None a b first last = absurd first
both_ends (Some part) a b first last = ap (λ x. Some (interval x part.last)) first ∙ ap (λ x. Some (interval a x)) last

pub part_by_ends : (axis : CutAxis) (k : ℕ) (a b : ℤ) → IsSomeAnd (slice_get (parts axis) k) (λ part. part.first ≡ a) → IsSomeAnd (slice_get (parts axis) k) (λ part. part.last ≡ b) → slice_get (parts axis) k ≡ Some (interval a b)
part_by_ends axis k a b first last = both_ends (slice_get (parts axis) k) a b first last

pub ends_within : (axis : CutAxis) (k : ℕ) (a b : ℤ) → IsCutAxis axis → IsSomeAnd (slice_get (parts axis) k) (λ part. part.first ≡ a) → IsSomeAnd (slice_get (parts axis) k) (λ part. part.last ≡ b) → ((total_axis axis).first ≤ℤ a) × (a ≤ℤ b) × (b ≤ℤ (total_axis axis).last)
ends_within axis k a b valid first last = part_within axis k (interval a b) valid (part_by_ends axis k a b first last)

-- borders up to a number come before the others, and where they end they are counted
pub borders_part : (borders : List ℤ) (x : ℤ) → IsAscending borders → IsPartitionedBy (λ border. int_le border x) borders
borders_part borders x ascending = λ i j d le within h.
    ⊎_elim
    (λ same. rw same h)
    (λ other.
    let below : get_or borders i d <ℤ get_or borders j d = ascending i j d (omega (arith, other)) within in
    by_lt_z x (get_or borders i d)
    (λ above. grind (arith, ints))
    (λ up. grind (arith, ints)))
    (cases_eq i j)

pub counted_borders : (borders : List ℤ) (x : ℤ) (n : ℕ) → n ≤ length borders → IsPartitionPoint (λ border. int_le border x ≡ true) (λ border. int_le border x ≡ false) borders n → n ≡ part_of borders x
counted_borders borders x n within point =
    sym (prefix_len_is (λ border. int_le border x) borders n (pos 0) within (λ k below. point.0 k (pos 0) (omega arith) below) (λ more. point.1 n (pos 0) (omega arith) more))

-- the last of so many borders
pub last_of_front : (borders : List ℤ) (k : ℕ) (x : ℤ) → k ≡ length (take k borders) → 0 < length (take k borders) → x ≡ get_or (take k borders) (length (take k borders) - 1) x → get_or borders (k - 1) x ≡ x
last_of_front borders k x whole some is =
    let here : k - 1 ≡ length (take k borders) - 1 = omega (arith, whole) in
    let below : k - 1 < k = omega (arith, whole, some) in
    sym (get_or-take k borders (k - 1) x below) ∙ ap (λ j. get_or (take k borders) j x) here ∙ sym is
