-- Products that are kept past a cap.
use Rattle.std.proofs.Common.{◌≡◌, ◌⊎◌, inl, inr, ℕ, zero, suc, ◌*◌, ◌≤◌, min, ap, ◌∙◌, arith}
use Rattle.std.proofs.Math.Nat.{suc-mul}

-- a number is below another one, or not
below_or_not : (p cap : ℕ) → (p ≤ cap) ⊎ (cap ≤ p)
below_or_not zero cap = inl (omega arith)
below_or_not (suc p) zero = inr (omega arith)
below_or_not (suc p) (suc cap) = elim (below_or_not p cap) [ inl h ↦ inl (omega arith) | inr h ↦ inr (omega arith) ]

-- a factor may be capped before the product is
pub capped_factor : (a p cap : ℕ) → min (a * min p cap) cap ≡ min (a * p) cap
capped_factor zero p cap = omega arith
capped_factor (suc a) p cap = elim (below_or_not p cap) [
  | inl h ↦ (let same : min p cap ≡ p = omega arith in ap (λ m. min (suc a * m) cap) same)
  | inr h ↦ (let same : min p cap ≡ cap = omega arith in ap (λ m. min (suc a * m) cap) same ∙ omega (arith, suc-mul a cap, suc-mul a p))
]
