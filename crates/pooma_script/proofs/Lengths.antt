-- How many numbers lie between bounds.
use Rattle.std.proofs.Common.{◌≡◌, ℤ, pos, negsuc, ◌+ℤ◌, ◌-ℤ◌, ◌≤ℤ◌, ◌<ℤ◌, refl, arith}
use Rattle.std.proofs.lemmas.Int.{ints}
use Rattle.pooma_domain.specs.Cells.{axis_length, count_of, interval}

pub count_of_from_zero : (z : ℤ) → pos 0 ≤ℤ z → pos (count_of z) ≡ z
count_of_from_zero (pos n) h = refl
count_of_from_zero (negsuc n) h = absurd (omega (arith, ints))

pub count_of_below_zero : (z : ℤ) → z ≤ℤ pos 0 → count_of z ≡ 0
count_of_below_zero (pos n) h = omega (arith, ints)
count_of_below_zero (negsuc n) h = refl

pub length_of_none : (a b : ℤ) → b <ℤ a → axis_length (interval a b) ≡ 0
length_of_none a b h = count_of_below_zero ((b -ℤ a) +ℤ pos 1) (omega (arith, ints))

pub length_of_some : (a b : ℤ) → a ≤ℤ b → pos (axis_length (interval a b)) ≡ (b -ℤ a) +ℤ pos 1
length_of_some a b h = count_of_from_zero ((b -ℤ a) +ℤ pos 1) (omega (arith, ints))
