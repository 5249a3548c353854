-- The least numbers p and q for which a * p is b * q + rest, by Euclid's steps.
use Rattle.std.proofs.Common.{sym, ap, ◌∙◌, ⊎_elim, arith, Fits}
use Rattle.std.proofs.lemmas.Nat.{mul-le, mod_below}
use Rattle.std.specs.Int.{w64}
use Rattle.std.proofs.lemmas.Bool.{cases_lt}
use Rattle.std.proofs.Math.Nat.{div-add-mod, div-le_self, mul-le-mul_left, mul_comm}
use Rattle.std.specs.Prelude.{◌≡◌, ◌≢◌, ℕ, ◌+◌, ◌-◌, ◌*◌, ◌/◌, ◌%◌, ◌^◌, ◌<◌, ◌≤◌}

-- a solution of the later equation gives one of the earlier
pub solution_up : (a b rest v turn missing u w q p : ℕ) → b ≡ a * v + turn → rest + missing ≡ a → missing ≡ turn * u + w → turn * q ≡ a * p + w → a * (v * (q + u) + p + 1) ≡ b * (q + u) + rest
solution_up a b rest v turn missing u w q p eb er em e = rw eb (omega (arith, er, em, e))

-- and each solution of the earlier equation comes from one of the later
pub solution_down : (a b rest v turn missing u w p q : ℕ) → 0 < rest → 0 < turn → b ≡ a * v + turn → rest + missing ≡ a → missing ≡ turn * u + w → a * p ≡ b * q + rest → (x : ℕ) × (y : ℕ) × (p ≡ v * q + x + 1) × (q ≡ y + u) × (turn * y ≡ a * x + w)
solution_down a b rest v turn missing u w p q some_rest some_turn eb er em e =
    let spread : a * p ≡ a * (v * q) + turn * q + rest = e ∙ rw eb (omega arith) in
    let above : v * q < p =
    ⊎_elim (λ h. h)
    (λ below. let small : a * p ≤ a * (v * q) = mul-le-mul_left a below in absurd (omega (arith, small, spread)))
    (cases_lt (v * q) p) in
    let x : ℕ = p - v * q - 1 in
    let p_is : p ≡ v * q + (p - v * q - 1) + 1 = omega (arith, above) in
    let product : a * p ≡ a * (v * q) + a * (p - v * q - 1) + a = ap (λ n. a * n) p_is ∙ omega arith in
    let turned : turn * q ≡ a * (p - v * q - 1) + missing = omega (arith, product, spread, er) in
    let enough : u ≤ q =
    ⊎_elim
    (λ short. let small : turn * (q + 1) ≤ turn * u = mul-le-mul_left turn (let h : q + 1 ≤ u = omega (arith, short) in h) in absurd (omega (arith, small, turned, em, some_turn)))
    (λ h. h)
    (cases_lt q u) in
    let q_is : q ≡ (q - u) + u = omega (arith, enough) in
    let rounds : turn * q ≡ turn * (q - u) + turn * u = ap (λ n. turn * n) q_is ∙ omega arith in
    (p - v * q - 1, q - u, p_is, q_is, omega (arith, rounds, turned, em))

-- the second number stays below the first factor
pub second_below : (a rest turn q p : ℕ) → 0 < rest → p < turn → turn * q + rest ≡ a * (p + 1) → q < a
second_below a rest turn q p some below e =
    ⊎_elim (λ h. h)
    (λ above.
    let large : turn * a ≤ turn * q = mul-le-mul_left turn above in
    let small : a * (p + 1) ≤ a * turn = mul-le-mul_left a (let h : p + 1 ≤ turn = omega (arith, below) in h) in
    absurd (omega (arith, large, small, mul_comm a turn, e, some)))
    (cases_lt q a)

-- where the first factor goes into the second, there is no solution with a rest
pub no_turn : (a b rest p q : ℕ) → rest ≢ 0 → rest < a → b % a ≡ 0 → a * p ≡ b * q + rest → ⊥
no_turn a b rest p q rests small none e =
    let eb : b ≡ a * (b / a) = omega (arith, div-add-mod b a, none) in
    let spread : a * p ≡ a * (b / a * q) + rest = e ∙ ap (λ n. n * q + rest) eb ∙ omega arith in
    ⊎_elim
    (λ above.
    let large : a * (b / a * q + 1) ≤ a * p = mul-le-mul_left a (let h : b / a * q + 1 ≤ p = omega (arith, above) in h) in
    absurd (omega (arith, large, spread, small)))
    (λ below. let least : a * p ≤ a * (b / a * q) = mul-le-mul_left a below in absurd (omega (arith, least, spread, rests)))
    (cases_lt (b / a * q) p)

-- a solution with a larger rest, of which the first factor goes into a part
pub solution_on : (a b d skip rest p q : ℕ) → d ≡ a * skip + rest → a * p ≡ b * q + rest → a * (p + skip) ≡ b * q + d
solution_on a b d skip rest p q ed e = omega (arith, ed, e)

pub solution_off : (a b d skip rest p q : ℕ) → 0 < a → d ≡ a * skip + rest → a * p ≡ b * q + d → (x : ℕ) × (p ≡ x + skip) × (a * x ≡ b * q + rest)
solution_off a b d skip rest p q some ed e =
    let enough : skip ≤ p =
    ⊎_elim
    (λ short. let small : a * (p + 1) ≤ a * skip = mul-le-mul_left a (let h : p + 1 ≤ skip = omega (arith, short) in h) in absurd (omega (arith, small, ed, e, some)))
    (λ h. h)
    (cases_lt p skip) in
    let is : p ≡ (p - skip) + skip = omega (arith, enough) in
    let product : a * p ≡ a * (p - skip) + a * skip = ap (λ n. a * n) is ∙ omega arith in
    (p - skip, is, omega (arith, product, ed, e))

-- the two numbers that a solution of the turned equation gives
abbrev pub second_of : (a b rest later : ℕ) → ℕ
second_of a b rest later = later + (a - rest) / (b % a)

abbrev pub first_of : (a b rest later rounds : ℕ) → ℕ
first_of a b rest later rounds = b / a * second_of a b rest later + rounds + 1

-- they solve the equation, and the steps to them fit
pub record IsSolution (a b rest later rounds : ℕ) : Type 0 where
  pub solves : a * first_of a b rest later rounds ≡ b * second_of a b rest later + rest
  pub below : second_of a b rest later < a
  pub product : Fits w64 (b / a * second_of a b rest later)
  pub sum : Fits w64 (b / a * second_of a b rest later + rounds)
  pub whole : Fits w64 (first_of a b rest later rounds)

pub is_solution : (a b rest later rounds : ℕ) → (0 < a) × (a < 2 ^ 32) × (0 < b) × (b < 2 ^ 32) → rest < a → rest ≢ 0 → b % a ≢ 0 → (b % a * later ≡ a * rounds + (a - rest) % (b % a)) × (rounds < b % a) → IsSolution a b rest later rounds
is_solution a b rest later rounds sizes small rests turns e =
    let eb : b ≡ a * (b / a) + b % a = sym (div-add-mod b a) in
    let er : rest + (a - rest) ≡ a = omega arith in
    let em : a - rest ≡ b % a * ((a - rest) / (b % a)) + (a - rest) % (b % a) = sym (div-add-mod (a - rest) (b % a)) in
    let below : second_of a b rest later < a =
    second_below a rest (b % a) (second_of a b rest later) rounds (omega arith) e.1 (omega (arith, e.0, em, er)) in
    let quotient : b / a ≤ b = div-le_self b a in
    let large : b / a * second_of a b rest later ≤ 4294967295 * 4294967295 =
    mul-le (b / a) (second_of a b rest later) 4294967295 4294967295 (omega (arith, quotient, sizes.3)) (omega (arith, below, sizes.1)) in
    let few : rounds < a = omega (arith, e.1, mod_below b a sizes.0) in
    record {
      solves = solution_up a b rest (b / a) (b % a) (a - rest) ((a - rest) / (b % a)) ((a - rest) % (b % a)) later rounds eb er em e.0;
      below = below;
      product = omega (arith, large);
      sum = omega (arith, large, few, sizes.1);
      whole = omega (arith, large, few, sizes.1);
    }

-- each solution comes from one of the turned equation
pub turned : (a b rest p q : ℕ) → rest < a → rest ≢ 0 → b % a ≢ 0 → a * p ≡ b * q + rest → (x : ℕ) × (y : ℕ) × (p ≡ b / a * q + x + 1) × (q ≡ y + (a - rest) / (b % a)) × (b % a * y ≡ a * x + (a - rest) % (b % a))
turned a b rest p q small rests turns e =
    solution_down a b rest (b / a) (b % a) (a - rest) ((a - rest) / (b % a)) ((a - rest) % (b % a)) p q (omega arith) (omega arith) (sym (div-add-mod b a)) (omega arith) (sym (div-add-mod (a - rest) (b % a))) e

-- and the least comes from the least
pub least_of : (a b rest later rounds x y p q : ℕ) → p ≡ b / a * q + x + 1 → q ≡ y + (a - rest) / (b % a) → (later ≤ y) × (rounds ≤ x) → (first_of a b rest later rounds ≤ p) × (second_of a b rest later ≤ q)
least_of a b rest later rounds x y p q ep eq h =
    let second : second_of a b rest later ≤ q = omega (arith, h.0, eq) in
    let product : b / a * second_of a b rest later ≤ b / a * q = mul-le-mul_left (b / a) second in
    (omega (arith, product, h.1, ep), second)
