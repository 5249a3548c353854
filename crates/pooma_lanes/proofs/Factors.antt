-- That a product with a factor, and a shift, give the quotient.
use Rattle.std.proofs.Common.{◌≡◌, ℕ, ◌+◌, ◌-◌, ◌*◌, ◌/◌, ◌%◌, ◌^◌, ◌<◌, ◌≤◌, refl, ap, sym, ◌∙◌, arith, ℤ, pos, negsuc, neg_ℤ, true, false, le-ltb}
use Rattle.std.specs.Prelude.{unsigned_abs, int_rem}
use lib.Signed.{lt_z}
use native.Mathlib.Nat.{div-add-mod', mod-lt, div-eq_of_lt-le, div-div-eq-div-mul, le_of_mul-le-mul_right, lt_of_mul-lt-mul_right, mul-le-mul_right, lt-div-mul-add, mod-eq_of_lt, div-mul-le_self, mod-eq-sub-div-mul}

-- The factor is 1 / d in parts of p, too large by e / d of a part; where a * e is below p that is less than one unit.
pub by_factor : (a d m e p : ℕ) → 0 < d → m * d ≡ p + e → a * e < p → a * m / p ≡ a / d
by_factor a d m e p some is small =
    let q = a / d in
    let times : (a * m) * d ≡ a * p + a * e = reordered a m d ∙ ap (λ z. a * z) is ∙ spread a p e in
    let under : q * d ≤ a = omega (arith, div-add-mod' a d) in
    let below_next : a + 1 ≤ (q + 1) * d = omega (arith, lt-div-mul-add {a = a} some) in
    let low : (q * p) * d ≤ (a * m) * d = omega (arith, times, mul-le-mul_right p under) in
    let high : (a * m) * d < ((q + 1) * p) * d = omega (arith, times, small, mul-le-mul_right p below_next) in
    div-eq_of_lt-le p (le_of_mul-le-mul_right low some) (lt_of_mul-lt-mul_right d high)
  where
    reordered : (a m d : ℕ) → (a * m) * d ≡ a * (m * d)
    reordered a m d = omega arith

    spread : (a p e : ℕ) → a * (p + e) ≡ a * p + a * e
    spread a p e = omega arith

-- the factor is the next number above p / d
pub next_above : (p d : ℕ) → 0 < d → (p / d + 1) * d ≡ p + (d - p % d)
next_above p d some = omega (arith, div-add-mod' p d, mod-lt p some)

-- the same in the two steps in which it is done, for numbers up to 2^63 and a divisor that is below twice the power
pub by_product : (a d power : ℕ) → 0 < d → d < 2 * power → a ≤ 2 ^ 63 → a * (power * 2 ^ 64 / d + 1) / 2 ^ 64 / power ≡ a / d
by_product a d power some below le =
    let p = power * 2 ^ 64 in
    let e = d - p % d in
    let m = p / d + 1 in
    let small : a * e < p = omega (arith, mul-le-mul_right e le, below) in
    div-div-eq-div-mul (a * m) (2 ^ 64) power ∙ ap (λ z. a * m / z) swapped ∙ by_factor a d m e p some (next_above p d some) small
  where
    swapped : 2 ^ 64 * power ≡ power * 2 ^ 64
    swapped = omega arith

-- the same as the machine does it, with a power that it shifts
pub by_machine : (a d d' power p : ℕ) → p ≡ 1 * power % 2 ^ 64 → d' ≡ d → 0 < d → power ≤ d → d ≤ 2 ^ 63 → d < 2 * power → a ≤ 2 ^ 63
    → a * (p * 2 ^ 64 % 2 ^ 128 / d' + 1) / 2 ^ 64 / power ≡ a / d
by_machine a d d' power p is same some low top below le =
    let small : 1 * power < 2 ^ 64 = omega (arith, low, top) in
    let power_is : p ≡ power = is ∙ mod-eq_of_lt small ∙ omega arith in
    let wide : p * 2 ^ 64 < 2 ^ 128 = omega (arith, power_is, low, top) in
    let numerator : p * 2 ^ 64 % 2 ^ 128 ≡ power * 2 ^ 64 = mod-eq_of_lt wide ∙ ap (λ z. z * 2 ^ 64) power_is in
    (λ i. a * (numerator i / same i + 1) / 2 ^ 64 / power) ∙ by_product a d power some below le

pub times_back : (n s q : ℕ) → q ≡ n / s → q * s ≤ n
times_back n s q is = omega (arith, ap (λ z. z * s) is, div-mul-le_self n s)

pub left_is : (n s q : ℕ) → q ≡ n / s → n - q * s ≡ n % s
left_is n s q is = ap (λ z. n - z * s) is ∙ sym (mod-eq-sub-div-mul n s)

-- what is left, with the sign of the number
pub rem_of : (a d : ℤ) (left : ℕ) (r : ℤ) → left ≡ unsigned_abs a % unsigned_abs d → (lt_z a (pos 0) ≡ true → r ≡ neg_ℤ (pos left)) → (lt_z a (pos 0) ≡ false → left < 2 ^ 63 → r ≡ pos left)
    → left < 2 ^ 63 → r ≡ int_rem a d
rem_of (pos n) d left r is below above small = above (le-ltb n 0 (omega arith)) small ∙ ap pos is
rem_of (negsuc n) d left r is below above small = below refl ∙ ap (λ k. neg_ℤ (pos k)) is
