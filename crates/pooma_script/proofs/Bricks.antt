-- What a line that was looked at says of its axes, guards and blocks.
use Rattle.std.proofs.Common.{◌≡◌, ℕ, zero, suc, ◌%◌, ◌≤◌, ℤ, pos, negsuc, ◌+ℤ◌, ◌≤ℤ◌, List, [], ◌∷◌, length, take, refl, ap, ◌∙◌, arith}
use Rattle.std.proofs.Math.IntN.{+ℤ_idr}
use Rattle.std.proofs.lemmas.Int.{ints}
use Rattle.std.proofs.lemmas.List.Elements.{All-cons, All-head, All-nil, All-replicate, All-tail, All-weaker}
use Rattle.std.specs.List.{AllZip}
use Rattle.std.specs.Prelude.{All, map, replicate, unsigned_abs}
use Rattle.pooma_domain.specs.Cells.{Interval, IsOrdered, axis_length, count_of, interval}
use Rattle.pooma_layout.specs.Axes.{IsDepth, IsNear, cut_axis, total_axis}
use Rattle.pooma_layout.specs.Blocks.{IsPartCount, block_lengths, product}
use Rattle.pooma_layout.specs.Patches.{total_of}
use Rattle.pooma_script.specs.declared.cause.LimitName.TheVariants as limit
use Rattle.pooma_script.specs.Layouts.{axes_of, block_borders, borders_from, brick_of, cut_axes}
use Rattle.pooma_script.specs.Tests.{AreFew, IsNearZero}
use Rattle.pooma_script.proofs.Lengths.{length_of_some}

near_low : (z : ℤ) → unsigned_abs z ≤ 1000000 → negsuc 999999 ≤ℤ z
near_low (pos n) h = omega (arith, ints)
near_low (negsuc n) h = omega (arith, ints, h)

near_high : (z : ℤ) → unsigned_abs z ≤ 1000000 → z ≤ℤ pos 1000000
near_high (pos n) h = omega (arith, ints, h)
near_high (negsuc n) h = omega (arith, ints)

near_one : (bounds : ℤ × ℤ) → IsNearZero bounds → IsOrdered (interval bounds.0 bounds.1) → IsNear (interval bounds.0 bounds.1)
near_one bounds near ordered = record {
  ordered = ordered;
  low = let l = near_low bounds.0 near.0 in omega (arith, ints, l);
  high = near_high bounds.1 near.1;
}

-- axes with numbers, whose bounds lie near 0
pub near_axes : (domain : List (ℤ × ℤ)) → All IsNearZero domain → All IsOrdered (axes_of domain) → All IsNear (axes_of domain)
near_axes [] near ordered = All-nil IsNear
near_axes (bounds ∷ domain) near ordered =
    All-cons IsNear (interval bounds.0 bounds.1) (axes_of domain)
    (near_one bounds (All-head IsNearZero bounds domain near) (All-head IsOrdered (interval bounds.0 bounds.1) (axes_of domain) ordered))
    (near_axes domain (All-tail IsNearZero bounds domain near) (All-tail IsOrdered (interval bounds.0 bounds.1) (axes_of domain) ordered))

-- few guards are depths
pub few_depths : (list : List ℤ) → AreFew limit.Guards list → All IsDepth list
few_depths list few = All-weaker (λ n. (pos 0 ≤ℤ n) × (n ≤ℤ pos 8)) IsDepth (λ n h. record { low = h.0; high = h.1 }) list few

pub no_depths : (axes : List Interval) → All IsDepth (replicate (length axes) (pos 0))
no_depths axes = All-replicate IsDepth (length axes) (pos 0) (record { low = omega (arith, ints); high = omega (arith, ints) })

-- one block on each axis
pub ones : (n : ℕ) → n ≤ 3 → take n (pos 1 ∷ pos 1 ∷ pos 1 ∷ []) ≡ replicate n (pos 1)
ones zero h = refl
ones (suc zero) h = refl
ones (suc (suc zero)) h = refl
ones (suc (suc (suc zero))) h = refl
ones (suc (suc (suc (suc n)))) h = absurd (omega arith)

pub one_patch : (n : ℕ) → product (map count_of (replicate n (pos 1))) ≡ 1
one_patch zero = refl
one_patch (suc n) = let later = one_patch n in omega (arith, later)

pub one_part : (axes : List Interval) → All IsOrdered axes → AllZip IsPartCount axes (replicate (length axes) (pos 1))
one_part [] ordered = tt
one_part (axis ∷ axes) ordered =
    let here = All-head IsOrdered axis axes ordered in
    ((omega (arith, ints), omega (arith, ints, length_of_some axis.first axis.last here)), one_part axes (All-tail IsOrdered axis axes ordered))

-- one block is not cut
no_border : (first : ℤ) (cells : ℕ) → borders_from first (block_lengths cells 1) ≡ []
no_border first cells =
    let whole : cells % 1 ≡ 0 = omega arith in
    rw whole refl

pub brick_made : (axes : List Interval)
    → cut_axes axes (block_borders axes (replicate (length axes) (pos 1))) (replicate (length axes) (pos 0)) (replicate (length axes) (pos 0)) ≡ brick_of axes
brick_made [] = refl
brick_made (axis ∷ axes) =
    ap (λ borders. cut_axis axis (pos 0) (pos 0) borders ∷ cut_axes axes (block_borders axes (replicate (length axes) (pos 1))) (replicate (length axes) (pos 0)) (replicate (length axes) (pos 0)))
    (no_border axis.first (axis_length axis))
    ∙ ap (λ l. cut_axis axis (pos 0) (pos 0) [] ∷ l) (brick_made axes)

-- a brick has no guards
no_wider : (axis : Interval) → total_axis (cut_axis axis (pos 0) (pos 0) []) ≡ axis
no_wider axis = ap (λ x. interval x (axis.last +ℤ pos 0)) (+ℤ_idr axis.first) ∙ ap (λ y. interval axis.first y) (+ℤ_idr axis.last)

pub total_of_brick : (axes : List Interval) → total_of (brick_of axes) ≡ axes
total_of_brick [] = refl
total_of_brick (axis ∷ axes) = ap (λ x. x ∷ total_of (brick_of axes)) (no_wider axis) ∙ ap (λ l. axis ∷ l) (total_of_brick axes)
