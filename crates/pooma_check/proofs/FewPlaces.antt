-- Slots that stay in a box near 0 have no more positions than it has cells.
use Rattle.std.proofs.Common.{◌≡◌, ◌≢◌, ℕ, zero, suc, ◌-◌, ◌*◌, ◌<◌, ◌≤◌, ℤ, pos, negsuc, ◌+ℤ◌, ◌-ℤ◌, ◌*ℤ◌, ◌≤ℤ◌, List, [], ◌∷◌, length, refl, arith}
use Rattle.std.proofs.Math.Nat.{le-mul_of_pos_right, mul-le-mul_right}
use Rattle.std.proofs.lemmas.Int.{ints}
use Rattle.std.proofs.lemmas.List.Elements.{All-cons, All-head, All-nil, All-tail}
use Rattle.std.specs.Prelude.{All, map}
use Rattle.pooma_domain.specs.Cells.{Interval, IsAxis, IsIn, axis_length, cells_of}
use Rattle.pooma_domain.specs.declared.strides.Strided.{Strided}
use Rattle.pooma_view.specs.Slots.{first_named, last_named, places, positions_of}
use Rattle.pooma_view.specs.declared.slots.Slot.{Slot}
use Rattle.pooma_view.specs.declared.slots.Slot.TheVariants.{Fixed, Along}
use Rattle.pooma_model.specs.Declarations.{MOST_CELLS}
use Rattle.pooma_model.specs.Fit.{AreFew}
use Rattle.pooma_script.specs.Ends.{IsWithin}
use Rattle.pooma_script.proofs.Boxes.{product_le}
use Rattle.pooma_script.proofs.Lengths.{length_of_some}
use Rattle.pooma_script.proofs.Ranges.{down_by, up_by}
use Rattle.pooma_script.proofs.Taken.{ends_inside}
use Rattle.pooma_check.specs.Readings.{IsNearby}

-- so many strides from a number to another one of an axis are no more than the axis is long
steps_on_axis : (low high first stride : ℤ) (n : ℕ) → stride ≢ pos 0 → low ≤ℤ first → first ≤ℤ high
    → low ≤ℤ (first +ℤ stride *ℤ pos n) → (first +ℤ stride *ℤ pos n) ≤ℤ high → pos n ≤ℤ (high -ℤ low)
steps_on_axis low high first (pos zero) n moves a b c d = absurd (moves refl)
steps_on_axis low high first (pos (suc m)) n moves a b c d =
    let more : n ≤ n * suc m = le-mul_of_pos_right n (omega arith) in omega (arith, ints, a, b, c, d, more, up_by (suc m) n)
steps_on_axis low high first (negsuc m) n moves a b c d =
    let more : n ≤ n * suc m = le-mul_of_pos_right n (omega arith) in omega (arith, ints, a, b, c, d, more, down_by m n)

record IsShortOn (axis : Interval) (s : Strided) : Type 0 where
  fewer : axis_length (places s) ≤ axis_length axis
  near : IsAxis (places s)

short_on : (axis : Interval) (s : Strided) → IsNearby axis → axis.first ≤ℤ s.first → s.first ≤ℤ axis.last
    → axis.first ≤ℤ last_named (Along s) → last_named (Along s) ≤ℤ axis.last → IsShortOn axis s
short_on axis s near a b c d =
    let some : 0 < s.count = s.some in
    let far : pos (s.count - 1) ≤ℤ (axis.last -ℤ axis.first) = steps_on_axis axis.first axis.last s.first s.stride (s.count - 1) s.moves a b c d in
    let whole = length_of_some axis.first axis.last (omega (arith, ints, a, b)) in
    let own = length_of_some (pos 0) (pos s.count -ℤ pos 1) (omega (arith, ints, some)) in record {
      fewer = omega (arith, ints, far, whole, own, some);
      near = record {
        ordered = omega (arith, ints, some);
        low = omega (arith, ints);
        high = omega (arith, ints, far, some, near.low, near.high);
      };
    }

-- the positions of slots in a box: no more than its cells, and no more axes
record AreFewer (box positions : List Interval) : Type 0 where
  cells : length (cells_of positions) ≤ length (cells_of box)
  axes : All IsAxis positions
  dims : length positions ≤ length box

module _ (counted : (axis : Interval) (axes : List Interval) → length (cells_of (axis ∷ axes)) ≡ axis_length axis * length (cells_of axes)) where
  fewer_in : (slots : List Slot) (box : List Interval) → All IsNearby box → IsIn box (map first_named slots) → IsIn box (map last_named slots)
      → AreFewer box (positions_of slots)
  fewer_in [] [] near low high = record { cells = omega arith; axes = All-nil IsAxis; dims = omega arith }
  fewer_in [] (axis ∷ box) near low high = absurd low
  fewer_in (slot ∷ slots) [] near low high = absurd low
  fewer_in (Fixed x ∷ slots) (axis ∷ box) near low high =
      let later = fewer_in slots box (All-tail IsNearby axis box near) low.2 high.2 in
      let whole = length_of_some axis.first axis.last (omega (arith, ints, low.0, low.1)) in
      let more : 1 * length (cells_of box) ≤ axis_length axis * length (cells_of box) = mul-le-mul_right (length (cells_of box)) (omega (arith, ints, whole, low.0, low.1)) in record {
        cells = omega (arith, later.cells, counted axis box, more);
        axes = later.axes;
        dims = omega (arith, later.dims);
      }
  fewer_in (Along s ∷ slots) (axis ∷ box) near low high =
      let later = fewer_in slots box (All-tail IsNearby axis box near) low.2 high.2 in
      let here = short_on axis s (All-head IsNearby axis box near) low.0 low.1 high.0 high.1 in
      let more = product_le (axis_length (places s)) (length (cells_of (positions_of slots))) (axis_length axis) (length (cells_of box)) here.fewer later.cells in record {
        cells = omega (arith, counted axis box, counted (places s) (positions_of slots), more);
        axes = All-cons IsAxis (places s) (positions_of slots) here.near later.axes;
        dims = omega (arith, later.dims);
      }

  -- a view of an array that a program can have has few positions
  pub few_positions : (slots : List Slot) (box : List Interval) → All IsNearby box → length box ≤ 3 → length (cells_of box) ≤ MOST_CELLS
      → IsWithin box slots → AreFew (positions_of slots)
  few_positions slots box near dims cells within =
      let ends = ends_inside slots box within in
      let fewer = fewer_in slots box near ends.0 ends.1 in record {
        box = record { few = omega (arith, fewer.dims, dims); whole = fewer.axes; countable = omega (arith, fewer.cells, cells) };
        few = omega (arith, fewer.cells, cells);
      }
