-- A sum or a difference of 64 bits is right where the signs say so.
use Rattle.std.proofs.Common.{◌≡◌, ℕ, ◌+◌, ◌-◌, suc, ap, sym, ◌<◌, ◌≤◌, ◌∙◌, ◌%◌, ◌^◌, ℤ, pos, negsuc, ◌+ℤ◌, ◌-ℤ◌, Bool, true, false, cond, ◌⊎◌, inl, inr, refl, FitsSigned, w64, to_z, of_z, arith}
use Rattle.std.proofs.lemmas.Int.{ints}
use Rattle.std.specs.Int.{is_negative}
use mir.Val.{sel}
use native.Mathlib.Nat.{mod-lt}
use Rattle.std.proofs.lemmas.Bool.{cases_lt, le-ltb}
use Rattle.std.proofs.lemmas.Int.{to_z_pos}
use lib.Bits.{bit_and, bit_xor}
use lib.Lanes.{top}

-- all ones where a test holds, as a comparison of lanes gives it
abbrev pub ones : Bool → ℕ
ones b = cond b 18446744073709551615 0

-- where the top bit is not set, the first test is as the second or as the third
pub as_one_of : (p q r : Bool) → top 63 (bit_and (bit_xor (ones p) (ones q)) (bit_xor (ones p) (ones r))) ≡ false → (p ≡ q) ⊎ (p ≡ r)
as_one_of true true r clear = inl refl
as_one_of true false true clear = inr refl
as_one_of true false false clear = absurd (cc clear)
as_one_of false true true clear = absurd (cc clear)
as_one_of false true false clear = inr refl
as_one_of false false r clear = inl refl

-- the bits of a number of 64 bits
abbrev pub AreBits : ℤ → ℕ → Type 0
AreBits z n = ((n < 2 ^ 63) × (z ≡ pos n)) ⊎ ((2 ^ 63 ≤ n) × (n < 2 ^ 64) × (z ≡ pos n -ℤ pos (2 ^ 64)))

pub bits_of : (z : ℤ) → FitsSigned w64 z → AreBits z (of_z w64 z)
bits_of (pos n) f = inl (omega (arith, f.sfits), refl)
bits_of (negsuc n) f = inr (omega (arith, f.sfits), omega (arith, f.sfits), omega (arith, ints, f.sfits))

high : (n : ℕ) → 2 ^ 63 ≤ n → n < 2 ^ 64 → negsuc (2 ^ 64 - suc n) ≡ pos n -ℤ pos (2 ^ 64)
high n m lt = omega (arith, ints)

pub number_of_bits : (n : ℕ) → n < 2 ^ 64 → AreBits (to_z w64 n) n
number_of_bits n lt = elim (cases_lt n (2 ^ 63)) [
  | inl l ↦ inl (l, to_z_pos w64 n l)
  | inr m ↦ inr (m, lt, ap (λ b. sel b (pos n) (negsuc (2 ^ 64 - suc n))) (le-ltb n (2 ^ 63) m) ∙ high n m lt)
]

-- two numbers of one sign
abbrev Alike : ℤ → ℤ → Type 0
Alike y z = is_negative y ≡ is_negative z

-- the same by their bits
abbrev AlikeBits : ℕ → ℕ → Type 0
AlikeBits m n = ((m < 2 ^ 63) × (n < 2 ^ 63)) ⊎ ((2 ^ 63 ≤ m) × (2 ^ 63 ≤ n))

not_below : (z : ℤ) (n : ℕ) → AreBits z n → is_negative z ≡ false → n < 2 ^ 63
not_below z n bits e = grind (arith, ints)

below : (z : ℤ) (n : ℕ) → AreBits z n → is_negative z ≡ true → 2 ^ 63 ≤ n
below z n bits e = grind (arith, ints)

alike : (y z : ℤ) (m n : ℕ) → AreBits y m → AreBits z n → Alike y z → AlikeBits m n
alike y z m n by bz e = go (is_negative z) refl
  where
    go : (b : Bool) → is_negative z ≡ b → AlikeBits m n
    go true is = inr (below y m by (e ∙ is), below z n bz is)
    go false is = inl (not_below y m by (e ∙ is), not_below z n bz is)

total_of_bits : (x y z : ℤ) (n m t : ℕ) → AreBits x n → AreBits y m → AreBits z t → (t ≡ n + m) ⊎ (t + 2 ^ 64 ≡ n + m) → AlikeBits t n ⊎ AlikeBits t m → z ≡ x +ℤ y
total_of_bits x y z n m t bx by bz wraps signs = omega (arith, ints, bx, by, bz, wraps, signs)

-- a total that has the sign of one of its parts is exact
total_is : (x y z : ℤ) (n m t : ℕ) → AreBits x n → AreBits y m → AreBits z t → (t ≡ n + m) ⊎ (t + 2 ^ 64 ≡ n + m) → Alike z x ⊎ Alike z y → z ≡ x +ℤ y
total_is x y z n m t bx by bz wraps signs =
    total_of_bits x y z n m t bx by bz wraps (elim signs [ inl e ↦ inl (alike z x t n bz bx e) | inr e ↦ inr (alike z y t m bz by e) ])

-- bits are below 2^64
bits_fit : (z : ℤ) (n : ℕ) → AreBits z n → n < 2 ^ 64
bits_fit z n b = omega (arith, b)

wraps_once : (n m : ℕ) → n < 2 ^ 64 → m < 2 ^ 64 → ((n + m) % 2 ^ 64 ≡ n + m) ⊎ ((n + m) % 2 ^ 64 + 2 ^ 64 ≡ n + m)
wraps_once n m a b = grind arith

pub sum_is : (x y : ℤ) → FitsSigned w64 x → FitsSigned w64 y
    → Alike (to_z w64 ((of_z w64 x + of_z w64 y) % 2 ^ 64)) x ⊎ Alike (to_z w64 ((of_z w64 x + of_z w64 y) % 2 ^ 64)) y
    → to_z w64 ((of_z w64 x + of_z w64 y) % 2 ^ 64) ≡ x +ℤ y
sum_is x y f g signs =
    let n = of_z w64 x in
    let m = of_z w64 y in
    total_is x y _ n m ((n + m) % 2 ^ 64) (bits_of x f) (bits_of y g) (number_of_bits ((n + m) % 2 ^ 64) (mod-lt (n + m) lit))
    (wraps_once n m (bits_fit x n (bits_of x f)) (bits_fit y m (bits_of y g))) signs
  where
    lit : 0 < 2 ^ 64
    lit = omega arith

-- a difference is exact where the first number, its total with the second, has the sign of one of them
wraps_back : (n m : ℕ) → n < 2 ^ 64 → m < 2 ^ 64 → (n ≡ (n + (2 ^ 64 - m)) % 2 ^ 64 + m) ⊎ (n + 2 ^ 64 ≡ (n + (2 ^ 64 - m)) % 2 ^ 64 + m)
wraps_back n m a b = grind arith

difference_of : (x y d : ℤ) → x ≡ d +ℤ y → d ≡ x -ℤ y
difference_of x y d e = omega (arith, ints, e)

pub difference_is : (x y : ℤ) → FitsSigned w64 x → FitsSigned w64 y
    → Alike x (to_z w64 ((of_z w64 x + (2 ^ 64 - of_z w64 y)) % 2 ^ 64)) ⊎ Alike x y
    → to_z w64 ((of_z w64 x + (2 ^ 64 - of_z w64 y)) % 2 ^ 64) ≡ x -ℤ y
difference_is x y f g signs =
    let n = of_z w64 x in
    let m = of_z w64 y in
    let d = (n + (2 ^ 64 - m)) % 2 ^ 64 in
    difference_of x y _ (total_is _ y x d m n (number_of_bits d (mod-lt (n + (2 ^ 64 - m)) lit)) (bits_of y g) (bits_of x f)
    (wraps_back n m (bits_fit x n (bits_of x f)) (bits_fit y m (bits_of y g))) signs)
  where
    lit : 0 < 2 ^ 64
    lit = omega arith

-- the same of equal numbers
pub carried : (t t' x x' y y' : ℤ) → t ≡ t' → x ≡ x' → y ≡ y' → Alike t x ⊎ Alike t y → Alike t' x' ⊎ Alike t' y'
carried t t' x x' y y' et ex ey signs =
    elim signs [ inl e ↦ inl (ap is_negative (sym et) ∙ e ∙ ap is_negative ex) | inr e ↦ inr (ap is_negative (sym et) ∙ e ∙ ap is_negative ey) ]
