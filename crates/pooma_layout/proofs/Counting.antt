-- How many numbers an interval has, and how many cells a box.
use Rattle.std.proofs.Common.{refl, ap, ◌∙◌, arith, lit≤}
use Rattle.std.proofs.lemmas.Int.{ints}
use Rattle.std.proofs.lemmas.List.{length-map}
use Rattle.std.proofs.lemmas.List.Elements.{All-head, All-tail, All-weaker}
use Rattle.std.proofs.lemmas.Nat.{mul-le}
use Rattle.std.proofs.Math.Nat.{pow-suc, pow-le-pow_right, mul_comm}
use Rattle.std.specs.Prelude.{◌≡◌, ℕ, zero, suc, ◌*◌, ◌^◌, ◌<◌, ◌≤◌, ℤ, pos, negsuc, ◌+ℤ◌, ◌-ℤ◌, ◌≤ℤ◌, List, [], ◌∷◌, length, map, All}
use Rattle.pooma_domain.specs.Cells.{Interval, interval, count_of, counting, axis_length, coordinates, cells_of, IsAxis, IsBox}
use Rattle.pooma_layout.proofs.Choices.{length-even_pieces}

count_of_from_zero : (z : ℤ) → pos 0 ≤ℤ z → pos (count_of z) ≡ z
count_of_from_zero (pos n) h = refl
count_of_from_zero (negsuc n) h = absurd (omega (arith, ints))

pub length_of_interval : (i : Interval) → i.first ≤ℤ i.last → pos (axis_length i) ≡ (i.last -ℤ i.first) +ℤ pos 1
length_of_interval i h = count_of_from_zero ((i.last -ℤ i.first) +ℤ pos 1) (omega (arith, ints))

length-counting : (first : ℤ) (n : ℕ) → length (counting first n) ≡ n
length-counting first zero = refl
length-counting first (suc n) = ap suc (length-counting (first +ℤ pos 1) n)

length-round : (axis : Interval) (rest : List ℤ) → length (map (λ x. x ∷ rest) (coordinates axis)) ≡ axis_length axis
length-round axis rest =
    length-map (coordinates axis) (λ x. x ∷ rest) ∙ length-counting axis.first (axis_length axis)

pub length-cells_of : (axis : Interval) (axes : List Interval) → length (cells_of (axis ∷ axes)) ≡ axis_length axis * length (cells_of axes)
length-cells_of axis axes =
    length-even_pieces (λ rest. map (λ x. x ∷ rest) (coordinates axis)) (axis_length axis) (length-round axis) (cells_of axes)

-- an axis of which three have no more cells than a signed number of 64 bits counts
pub record IsShort (axis : Interval) : Type 0 where
  pub whole : IsAxis axis
  pub short : axis_length axis ≤ 2097151

few_cells : (box : List Interval) → All IsShort box → length (cells_of box) ≤ 2097151 ^ length box
few_cells [] h = lit≤ tt
few_cells (axis ∷ axes) h =
    let here : axis_length axis ≤ 2097151 = (All-head IsShort axis axes h).short in
    let both : axis_length axis * length (cells_of axes) ≤ 2097151 * 2097151 ^ length axes =
    mul-le (axis_length axis) (length (cells_of axes)) 2097151 (2097151 ^ length axes) here (few_cells axes (All-tail IsShort axis axes h)) in
    omega (arith, length-cells_of axis axes, both, pow-suc 2097151 (length axes), mul_comm (2097151 ^ length axes) 2097151)

pub short_is_box : (box : List Interval) → length box ≤ 3 → All IsShort box → IsBox box
short_is_box box few h = record {
  few = few;
  whole = All-weaker IsShort IsAxis (λ axis short. short.whole) box h;
  countable =
      let most : 2097151 ^ length box ≤ 2097151 ^ 3 = pow-le-pow_right (lit≤ tt) few in
      omega (arith, few_cells box h, most);
}

pub same_interval : (a b : Interval) → a.first ≡ b.first → a.last ≡ b.last → a ≡ b
same_interval a b first last = ap (λ x. interval x a.last) first ∙ ap (λ x. interval b.first x) last

-- a product of at most three factors that are below 2 ^ 21
pub power_step : (a b n : ℕ) → a < 2 ^ 21 → b ≤ 2097151 ^ n → a * b ≤ 2097151 ^ suc n
power_step a b n here rest =
    let both : a * b ≤ 2097151 * 2097151 ^ n = mul-le a b 2097151 (2097151 ^ n) (omega (arith, here)) rest in
    omega (arith, both, pow-suc 2097151 n, mul_comm (2097151 ^ n) 2097151)

pub power_fits : (x n : ℕ) → n ≤ 3 → x ≤ 2097151 ^ n → x < 2 ^ 63
power_fits x n few h =
    let most : 2097151 ^ n ≤ 2097151 ^ 3 = pow-le-pow_right (lit≤ tt) few in
    omega (arith, h, most)
