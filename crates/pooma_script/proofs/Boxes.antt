-- Boxes of axes near 0.
use Rattle.std.proofs.Common.{◌≡◌, ℕ, ◌*◌, ◌<◌, ◌≤◌, ◌^◌, List, [], ◌∷◌, length, arith}
use Rattle.std.proofs.Math.Nat.{mul-le-mul_left, mul-le-mul_right}
use Rattle.std.proofs.lemmas.Int.{ints}
use Rattle.std.proofs.lemmas.List.Elements.{All-head, All-tail, All-weaker}
use Rattle.std.specs.Prelude.{All}
use Rattle.pooma_domain.specs.Cells.{Interval, axis_length, cells_of, IsAxis, IsBox}
use Rattle.pooma_layout.specs.Axes.{IsNear}
use Rattle.pooma_script.proofs.Lengths.{length_of_some}

near_axis : (axis : Interval) → IsNear axis → IsAxis axis
near_axis axis h = record { ordered = h.ordered; low = omega (arith, ints, h.low); high = omega (arith, ints, h.high) }

near_length : (axis : Interval) → IsNear axis → axis_length axis ≤ 2000001
near_length axis h = omega (arith, ints, length_of_some axis.first axis.last h.ordered, h.low, h.high)

pub product_le : (a b m n : ℕ) → a ≤ m → b ≤ n → a * b ≤ m * n
product_le a b m n h k = omega (arith, mul-le-mul_right b h, mul-le-mul_left m k)

module _ (counted : (axis : Interval) (axes : List Interval) → length (cells_of (axis ∷ axes)) ≡ axis_length axis * length (cells_of axes)) where
  few_more : (axis : Interval) (axes : List Interval) (most : ℕ) → IsNear axis → length (cells_of axes) ≤ most → length (cells_of (axis ∷ axes)) ≤ 2000001 * most
  few_more axis axes most h k = omega (arith, counted axis axes, product_le (axis_length axis) (length (cells_of axes)) 2000001 most (near_length axis h) k)

  few_cells : (axes : List Interval) → length axes ≤ 3 → All IsNear axes → length (cells_of axes) < 2 ^ 63
  few_cells [] few near = omega arith
  few_cells (a ∷ []) few near =
      let one = few_more a [] 1 (All-head IsNear a [] near) (omega arith) in omega (arith, one)
  few_cells (a ∷ b ∷ []) few near =
      let later = All-tail IsNear a (b ∷ []) near in
      let one = few_more b [] 1 (All-head IsNear b [] later) (omega arith) in
      let two = few_more a (b ∷ []) 2000001 (All-head IsNear a (b ∷ []) near) (omega (arith, one)) in omega (arith, two)
  few_cells (a ∷ b ∷ c ∷ []) few near =
      let later = All-tail IsNear a (b ∷ c ∷ []) near in
      let last = All-tail IsNear b (c ∷ []) later in
      let one = few_more c [] 1 (All-head IsNear c [] last) (omega arith) in
      let two = few_more b (c ∷ []) 2000001 (All-head IsNear b (c ∷ []) later) (omega (arith, one)) in
      let three = few_more a (b ∷ c ∷ []) 4000004000001 (All-head IsNear a (b ∷ c ∷ []) near) (omega (arith, two)) in omega (arith, three)
  few_cells (a ∷ b ∷ c ∷ d ∷ axes) few near = absurd (omega arith)

  -- at most three axes near 0 make a box
  pub near_box : (axes : List Interval) → length axes ≤ 3 → All IsNear axes → IsBox axes
  near_box axes few near = record { few = few; whole = All-weaker IsNear IsAxis near_axis axes near; countable = few_cells axes few near }
