-- Products of a step and a place, and the quotients of whole numbers that round down.
use Rattle.std.proofs.Common.{subst, refl, sym, ap, ◌∙◌, arith, to_z, of_z, false}
use Rattle.std.proofs.lemmas.Int.{ints, by_lt_z, to_z-of_z}
use Rattle.std.proofs.lemmas.Nat.{div-add-mod'}
use Rattle.std.proofs.Math.IntN.{pos-*ℤ-pos, pos-*ℤ-negsuc, *ℤ_comm, suc_ℤ-*ℤ, suc_ℤ}
use Rattle.std.proofs.Math.Nat.{mod-lt, mul-suc, mul_comm}
use Rattle.std.specs.Int.{int_div_euclid, w64}
use Rattle.std.specs.Int.Signed.{lt_z}
use Rattle.std.specs.Prelude.{◌≡◌, ◌≢◌, ℕ, zero, suc, ◌+◌, ◌*◌, ◌/◌, ◌%◌, ◌<◌, ℤ, pos, negsuc, neg_ℤ, ◌+ℤ◌, ◌-ℤ◌, ◌*ℤ◌, ◌≤ℤ◌, ◌<ℤ◌, FitsSigned}

next_is_suc : (k : ℤ) → k +ℤ pos 1 ≡ suc_ℤ k
next_is_suc (pos n) = omega (arith, ints)
next_is_suc (negsuc zero) = refl
next_is_suc (negsuc (suc n)) = omega (arith, ints)

-- one step more
pub product_next : (s k : ℤ) → s *ℤ (k +ℤ pos 1) ≡ s *ℤ k +ℤ s
product_next s k =
    *ℤ_comm s (k +ℤ pos 1) ∙ ap (λ m. m *ℤ s) (next_is_suc k) ∙ suc_ℤ-*ℤ k s ∙ ap (λ v. v +ℤ s) (*ℤ_comm k s)

-- one step less
pub product_before : (s k : ℤ) → s *ℤ (k -ℤ pos 1) ≡ s *ℤ k -ℤ s
product_before s k =
    let back : (k -ℤ pos 1) +ℤ pos 1 ≡ k = omega (arith, ints) in
    let next : s *ℤ ((k -ℤ pos 1) +ℤ pos 1) ≡ s *ℤ (k -ℤ pos 1) +ℤ s = product_next s (k -ℤ pos 1) in
    let all : s *ℤ k ≡ s *ℤ (k -ℤ pos 1) +ℤ s = ap (λ m. s *ℤ m) (sym back) ∙ next in
    omega (arith, ints, all)

-- by steps up the products do not fall, by steps down they do not rise
up_by : (s j : ℤ) (d : ℕ) → pos 0 ≤ℤ s → (s *ℤ j) ≤ℤ (s *ℤ (j +ℤ pos d))
up_by s j zero up = let same : j +ℤ pos 0 ≡ j = omega (arith, ints) in rw same (omega (arith, ints))
up_by s j (suc d) up =
    let one : j +ℤ pos (suc d) ≡ (j +ℤ pos d) +ℤ pos 1 = omega (arith, ints) in
    let more : s *ℤ (j +ℤ pos (suc d)) ≡ s *ℤ (j +ℤ pos d) +ℤ s = ap (λ m. s *ℤ m) one ∙ product_next s (j +ℤ pos d) in
    let before : (s *ℤ j) ≤ℤ (s *ℤ (j +ℤ pos d)) = up_by s j d up in
    omega (arith, ints, more, before, up)

down_by : (s j : ℤ) (d : ℕ) → s ≤ℤ pos 0 → (s *ℤ (j +ℤ pos d)) ≤ℤ (s *ℤ j)
down_by s j zero down = let same : j +ℤ pos 0 ≡ j = omega (arith, ints) in rw same (omega (arith, ints))
down_by s j (suc d) down =
    let one : j +ℤ pos (suc d) ≡ (j +ℤ pos d) +ℤ pos 1 = omega (arith, ints) in
    let more : s *ℤ (j +ℤ pos (suc d)) ≡ s *ℤ (j +ℤ pos d) +ℤ s = ap (λ m. s *ℤ m) one ∙ product_next s (j +ℤ pos d) in
    let before : (s *ℤ (j +ℤ pos d)) ≤ℤ (s *ℤ j) = down_by s j d down in
    omega (arith, ints, more, before, down)

distance : (j k : ℤ) → j ≤ℤ k → (d : ℕ) × (j +ℤ pos d ≡ k)
distance j k h = by (k -ℤ j) refl
  where
    by : (z : ℤ) → z ≡ k -ℤ j → (d : ℕ) × (j +ℤ pos d ≡ k)
    by (pos d) e = (d, omega (arith, ints, e))
    by (negsuc d) e = absurd (omega (arith, ints, e, h))

pub products_up : (s j k : ℤ) → pos 0 ≤ℤ s → j ≤ℤ k → (s *ℤ j) ≤ℤ (s *ℤ k)
products_up s j k up h = let far = distance j k h in subst (λ m. (s *ℤ j) ≤ℤ (s *ℤ m)) far.1 (up_by s j far.0 up)

pub products_down : (s j k : ℤ) → s ≤ℤ pos 0 → j ≤ℤ k → (s *ℤ k) ≤ℤ (s *ℤ j)
products_down s j k down h = let far = distance j k h in subst (λ m. (s *ℤ m) ≤ℤ (s *ℤ j)) far.1 (down_by s j far.0 down)

-- the quotient that rounds down
pub euclid_is : (x : ℤ) (n : ℕ) → 0 < n → ((pos n *ℤ int_div_euclid x (pos n)) ≤ℤ x) × (x <ℤ (pos n *ℤ int_div_euclid x (pos n) +ℤ pos n))
euclid_is (pos a) n some =
    let whole : a / n * n + a % n ≡ a = div-add-mod' a n in
    let rest : a % n < n = mod-lt a some in
    let product : pos n *ℤ pos (a / n) ≡ pos (n * (a / n)) = pos-*ℤ-pos n (a / n) in
    let turned : n * (a / n) ≡ a / n * n = mul_comm n (a / n) in
    rw product (omega (arith, ints, whole, rest, turned), omega (arith, ints, whole, rest, turned))
euclid_is (negsuc a) n some =
    let whole : a / n * n + a % n ≡ a = div-add-mod' a n in
    let rest : a % n < n = mod-lt a some in
    let product : pos n *ℤ negsuc (a / n) ≡ neg_ℤ (pos (n * suc (a / n))) = pos-*ℤ-negsuc n (a / n) in
    let turned : n * suc (a / n) ≡ n + a / n * n = mul-suc n (a / n) ∙ omega (arith, mul_comm n (a / n)) in
    rw product (omega (arith, ints, whole, rest, turned), omega (arith, ints, whole, rest, turned))

pub quotient_is : (way step q : ℤ) → pos 0 <ℤ step → q ≡ int_div_euclid way step → ((step *ℤ q) ≤ℤ way) × (way <ℤ ((step *ℤ q) +ℤ step))
quotient_is way (pos n) q some e =
    subst (λ z. ((pos n *ℤ z) ≤ℤ way) × (way <ℤ ((pos n *ℤ z) +ℤ pos n))) (sym e) (euclid_is way n (omega (arith, ints, some)))
quotient_is way (negsuc n) q some e = absurd (omega (arith, ints, some))

-- a stride that is not above 0 and does not stand still goes down
pub goes_down : (x s : ℤ) → FitsSigned w64 x → lt_z (pos 0) (to_z w64 (of_z w64 x)) ≡ false → x ≡ s → s ≢ pos 0 → s <ℤ pos 0
goes_down x s f t e moves =
    let t' : lt_z (pos 0) x ≡ false = simp to_z-of_z at t in
    let low : x ≤ℤ pos 0 = grind (arith, ints) in
    by_lt_z s (pos 0) (λ h. h) (λ h. absurd (moves (omega (arith, ints, low, e, h))))

pub next_is : (q : ℤ) → (neg_ℤ (pos 4294967297) ≤ℤ q) × (q ≤ℤ pos 4294967296) → to_z w64 (of_z w64 (to_z w64 (of_z w64 q) +ℤ pos 1)) ≡ q +ℤ pos 1
next_is q h = omega (arith, ints, h.0, h.1)
