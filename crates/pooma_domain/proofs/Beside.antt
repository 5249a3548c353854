-- The places of cells beside a cell.
use Rattle.std.proofs.Common.{sym, ap, ◌∙◌, arith}
use Rattle.std.proofs.lemmas.Int.{ints}
use Rattle.std.proofs.Math.IntN.{pos-*ℤ-pos, negsuc-*ℤ-pos}
use Rattle.std.specs.Prelude.{◌≡◌, ℕ, zero, suc, ◌+◌, ◌*◌, ◌<◌, ℤ, pos, negsuc, neg_ℤ, ◌+ℤ◌, ◌-ℤ◌, ◌*ℤ◌, Some, List, [], ◌∷◌, length, slice_get}
use Rattle.pooma_domain.specs.Cells.{Interval, count_of, axis_length, cells_of, IsIn}
use Rattle.pooma_domain.specs.Neighbours.{axis_stride, moved_along}
use Rattle.pooma_domain.proofs.CellOrder.{place, count_of_from_zero, place_of_standing, standing_is_in, stands_at_place}

-- the same number of places before both of a round, and so many rounds of it apart
rounds_apart : (before round p q stride : ℕ) (by : ℤ) → pos q ≡ pos p +ℤ by *ℤ pos stride → pos (before + round * q) ≡ pos (before + round * p) +ℤ by *ℤ pos (round * stride)
rounds_apart before round p q stride (pos b) apart =
    let near : pos b *ℤ pos stride ≡ pos (b * stride) = pos-*ℤ-pos b stride in
    let far : pos b *ℤ pos (round * stride) ≡ pos (b * (round * stride)) = pos-*ℤ-pos b (round * stride) in
    let is : q ≡ p + b * stride = omega (arith, ints, apart, near) in
    let product : round * q ≡ round * (p + b * stride) = ap (λ n. round * n) is in
    omega (arith, ints, far, product)
rounds_apart before round p q stride (negsuc b) apart =
    let near : negsuc b *ℤ pos stride ≡ neg_ℤ (pos (suc b * stride)) = negsuc-*ℤ-pos b stride in
    let far : negsuc b *ℤ pos (round * stride) ≡ neg_ℤ (pos (suc b * (round * stride))) = negsuc-*ℤ-pos b (round * stride) in
    let is : q + suc b * stride ≡ p = omega (arith, ints, apart, near) in
    let product : round * (q + suc b * stride) ≡ round * p = ap (λ n. round * n) is in
    omega (arith, ints, far, product)

place_beside : (axes : List Interval) (n : ℕ) (by : ℤ) (cell : List ℤ) → n < length axes → IsIn axes cell → IsIn axes (moved_along n by cell) → pos (place axes (moved_along n by cell)) ≡ pos (place axes cell) +ℤ by *ℤ pos (axis_stride axes n)
place_beside [] n by cell there inside beside = absurd (omega arith)
place_beside (axis ∷ axes) n by [] there inside beside = absurd inside
place_beside (axis ∷ axes) zero by (x ∷ xs) there inside beside =
    let from : pos (count_of (x -ℤ axis.first)) ≡ x -ℤ axis.first = count_of_from_zero (x -ℤ axis.first) (omega (arith, ints, inside.0)) in
    let to : pos (count_of ((x +ℤ by) -ℤ axis.first)) ≡ (x +ℤ by) -ℤ axis.first = count_of_from_zero ((x +ℤ by) -ℤ axis.first) (omega (arith, ints, beside.0)) in
    omega (arith, ints, from, to)
place_beside (axis ∷ axes) (suc n) by (x ∷ xs) there inside beside =
    rounds_apart (count_of (x -ℤ axis.first)) (axis_length axis) (place axes xs) (place axes (moved_along n by xs)) (axis_stride axes n) by
    (place_beside axes n by xs (omega arith) inside.2 beside.2)

pub places_beside : (axes : List Interval) (n : ℕ) (by : ℤ) (cell : List ℤ) (j : ℕ) → n < length axes → slice_get (cells_of axes) j ≡ Some cell → IsIn axes (moved_along n by cell) → pos (place axes (moved_along n by cell)) ≡ pos j +ℤ by *ℤ pos (axis_stride axes n)
places_beside axes n by cell j there at beside =
    place_beside axes n by cell there (standing_is_in axes j cell at) beside
    ∙ ap (λ (p : ℕ). pos p +ℤ by *ℤ pos (axis_stride axes n)) (place_of_standing axes j cell at)

pub steps_apart : (axes : List Interval) (n : ℕ) (by : ℤ) (cell : List ℤ) (j k : ℕ) → n < length axes → slice_get (cells_of axes) j ≡ Some cell → slice_get (cells_of axes) k ≡ Some (moved_along n by cell) → pos k ≡ pos j +ℤ by *ℤ pos (axis_stride axes n)
steps_apart axes n by cell j k there at_j at_k =
    ap pos (sym (place_of_standing axes k (moved_along n by cell) at_k))
    ∙ places_beside axes n by cell j there at_j (standing_is_in axes k (moved_along n by cell) at_k)

pub stands_beside : (axes : List Interval) (n : ℕ) (by : ℤ) (cell : List ℤ) (j k : ℕ) → n < length axes → slice_get (cells_of axes) j ≡ Some cell → IsIn axes (moved_along n by cell) → pos k ≡ pos j +ℤ by *ℤ pos (axis_stride axes n) → slice_get (cells_of axes) k ≡ Some (moved_along n by cell)
stands_beside axes n by cell j k there at beside far =
    let same : pos k ≡ pos (place axes (moved_along n by cell)) = far ∙ sym (places_beside axes n by cell j there at beside) in
    let here : k ≡ place axes (moved_along n by cell) = omega (arith, ints, same) in
    ap (slice_get (cells_of axes)) here ∙ stands_at_place axes (moved_along n by cell) beside
