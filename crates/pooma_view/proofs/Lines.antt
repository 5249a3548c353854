-- Two strided axes whose places agree at two numbers agree at all; and lists that agree at one place.
use Rattle.std.proofs.Common.{refl, sym, ap, ◌∙◌, subst, arith, ⊎_elim}
use Rattle.std.proofs.lemmas.Bool.{cases_order}
use Rattle.std.proofs.lemmas.Int.{ints}
use Rattle.std.proofs.Math.IntN.{pos-*ℤ-pos, negsuc-*ℤ-pos}
use Rattle.std.proofs.Math.Nat.{mul-le-mul_left, mul_comm}
use Rattle.std.specs.Prelude.{◌≡◌, ◌≢◌, ℕ, zero, suc, ◌+◌, ◌-◌, ◌*◌, ◌≤◌, ℤ, pos, negsuc, neg_ℤ, ◌+ℤ◌, ◌*ℤ◌, ◌≤ℤ◌, List, [], ◌∷◌, ◌++◌, length}
use Rattle.pooma_domain.proofs.Striding.{strides_add}

same_factor : (a k m : ℕ) → suc a * k ≡ suc a * m → k ≡ m
same_factor a k m e =
    ⊎_elim (λ h. h)
    (λ h. absurd (⊎_elim
    (λ below. let less : suc a * (k + 1) ≤ suc a * m = mul-le-mul_left (suc a) (let g : k + 1 ≤ m = omega (arith, below) in g) in omega (arith, less, e))
    (λ above. let less : suc a * (m + 1) ≤ suc a * k = mul-le-mul_left (suc a) (let g : m + 1 ≤ k = omega (arith, above) in g) in omega (arith, less, e))
    h))
    (cases_order k m)

-- a stride that is not 0 tells the places apart
pub same_place : (s : ℤ) (k m : ℕ) → s ≢ pos 0 → s *ℤ pos k ≡ s *ℤ pos m → k ≡ m
same_place (pos zero) k m moves e = absurd (moves refl)
same_place (pos (suc a)) k m moves e =
    let left : pos (suc a) *ℤ pos k ≡ pos (suc a * k) = pos-*ℤ-pos (suc a) k in
    let right : pos (suc a) *ℤ pos m ≡ pos (suc a * m) = pos-*ℤ-pos (suc a) m in
    let all : pos (suc a * k) ≡ pos (suc a * m) = sym left ∙ e ∙ right in
    same_factor a k m (omega (arith, ints, all))
same_place (negsuc a) k m moves e =
    let left : negsuc a *ℤ pos k ≡ neg_ℤ (pos (suc a * k)) = negsuc-*ℤ-pos a k in
    let right : negsuc a *ℤ pos m ≡ neg_ℤ (pos (suc a * m)) = negsuc-*ℤ-pos a m in
    let all : neg_ℤ (pos (suc a * k)) ≡ neg_ℤ (pos (suc a * m)) = sym left ∙ e ∙ right in
    same_factor a k m (omega (arith, ints, all))

-- one multiple of two strides tells that they are the same
pub same_stride : (s t : ℤ) (n : ℕ) → s *ℤ pos (suc n) ≡ t *ℤ pos (suc n) → s ≡ t
same_stride (pos a) (pos b) n e =
    let left : pos a *ℤ pos (suc n) ≡ pos (a * suc n) = pos-*ℤ-pos a (suc n) in
    let right : pos b *ℤ pos (suc n) ≡ pos (b * suc n) = pos-*ℤ-pos b (suc n) in
    let all : pos (a * suc n) ≡ pos (b * suc n) = sym left ∙ e ∙ right in
    ap pos (same_factor n a b (mul_comm (suc n) a ∙ (let f : a * suc n ≡ b * suc n = omega (arith, ints, all) in f) ∙ mul_comm b (suc n)))
same_stride (pos a) (negsuc b) n e =
    let left : pos a *ℤ pos (suc n) ≡ pos (a * suc n) = pos-*ℤ-pos a (suc n) in
    let right : negsuc b *ℤ pos (suc n) ≡ neg_ℤ (pos (suc b * suc n)) = negsuc-*ℤ-pos b (suc n) in
    let all : pos (a * suc n) ≡ neg_ℤ (pos (suc b * suc n)) = sym left ∙ e ∙ right in
    absurd (omega (arith, ints, all))
same_stride (negsuc a) (pos b) n e =
    let left : negsuc a *ℤ pos (suc n) ≡ neg_ℤ (pos (suc a * suc n)) = negsuc-*ℤ-pos a (suc n) in
    let right : pos b *ℤ pos (suc n) ≡ pos (b * suc n) = pos-*ℤ-pos b (suc n) in
    let all : neg_ℤ (pos (suc a * suc n)) ≡ pos (b * suc n) = sym left ∙ e ∙ right in
    absurd (omega (arith, ints, all))
same_stride (negsuc a) (negsuc b) n e =
    let left : negsuc a *ℤ pos (suc n) ≡ neg_ℤ (pos (suc a * suc n)) = negsuc-*ℤ-pos a (suc n) in
    let right : negsuc b *ℤ pos (suc n) ≡ neg_ℤ (pos (suc b * suc n)) = negsuc-*ℤ-pos b (suc n) in
    let all : neg_ℤ (pos (suc a * suc n)) ≡ neg_ℤ (pos (suc b * suc n)) = sym left ∙ e ∙ right in
    ap negsuc (let f : suc a ≡ suc b = same_factor n (suc a) (suc b) (mul_comm (suc n) (suc a) ∙ (let g : suc a * suc n ≡ suc b * suc n = omega (arith, ints, all) in g) ∙ mul_comm (suc b) (suc n)) in omega (arith, f))

-- lines that meet at two places are one
lines_meet : (f s g t : ℤ) (a n k m : ℕ) → s ≢ pos 0 → f +ℤ s *ℤ pos a ≡ g +ℤ t *ℤ pos a → f +ℤ s *ℤ pos (a + suc n) ≡ g +ℤ t *ℤ pos (a + suc n) → f +ℤ s *ℤ pos k ≡ g +ℤ t *ℤ pos m → k ≡ m
lines_meet f s g t a n k m moves low high here =
    let left : s *ℤ pos (a + suc n) ≡ s *ℤ pos a +ℤ s *ℤ pos (suc n) = strides_add s a (suc n) in
    let right : t *ℤ pos (a + suc n) ≡ t *ℤ pos a +ℤ t *ℤ pos (suc n) = strides_add t a (suc n) in
    let steps : s *ℤ pos (suc n) ≡ t *ℤ pos (suc n) = omega (arith, ints, left, right, low, high) in
    let stride : s ≡ t = same_stride s t n steps in
    let low' : f +ℤ s *ℤ pos a ≡ g +ℤ s *ℤ pos a = low ∙ ap (λ v. g +ℤ v *ℤ pos a) (sym stride) in
    let here' : f +ℤ s *ℤ pos k ≡ g +ℤ s *ℤ pos m = here ∙ ap (λ v. g +ℤ v *ℤ pos m) (sym stride) in
    same_place s k m moves (omega (arith, ints, low', here'))

pub places_agree : (f s g t l h z : ℤ) (a b k m : ℕ) → s ≢ pos 0 → t ≢ pos 0 → l ≡ f +ℤ s *ℤ pos a → l ≡ g +ℤ t *ℤ pos a → h ≡ f +ℤ s *ℤ pos b → h ≡ g +ℤ t *ℤ pos b → z ≡ f +ℤ s *ℤ pos k → z ≡ g +ℤ t *ℤ pos m → l ≤ℤ z → z ≤ℤ h → k ≡ m
places_agree f s g t l h z a b k m moves moves' lf lg hf hg zf zg low high =
    ⊎_elim
    (λ same.
    let end : h ≡ f +ℤ s *ℤ pos a = hf ∙ ap (λ n. f +ℤ s *ℤ pos n) (sym same) in
    let is : z ≡ l = omega (arith, ints, lf, end, low, high) in
    let k_is : k ≡ a = same_place s k a moves (omega (arith, ints, is, zf, lf)) in
    let m_is : m ≡ a = same_place t m a moves' (omega (arith, ints, is, zg, lg)) in
    omega (arith, k_is, m_is))
    (λ apart.
    ⊎_elim
    (λ below.
    let b_is : b ≡ a + suc (b - a - 1) = omega (arith, below) in
    let high_end : f +ℤ s *ℤ pos (a + suc (b - a - 1)) ≡ g +ℤ t *ℤ pos (a + suc (b - a - 1)) =
    subst (λ (n : ℕ). f +ℤ s *ℤ pos n ≡ g +ℤ t *ℤ pos n) b_is (sym hf ∙ hg) in
    lines_meet f s g t a (b - a - 1) k m moves (sym lf ∙ lg) high_end (sym zf ∙ zg))
    (λ above.
    let a_is : a ≡ b + suc (a - b - 1) = omega (arith, above) in
    let low_end : f +ℤ s *ℤ pos (b + suc (a - b - 1)) ≡ g +ℤ t *ℤ pos (b + suc (a - b - 1)) =
    subst (λ (n : ℕ). f +ℤ s *ℤ pos n ≡ g +ℤ t *ℤ pos n) a_is (sym lf ∙ lg) in
    lines_meet f s g t b (a - b - 1) k m moves (sym hf ∙ hg) low_end (sym zf ∙ zg))
    apart)
    (cases_order a b)

-- lists that go on after fronts of one length
pub same_fronts : {A : Type 0} (u v a b : List A) → length u ≡ length v → u ++ a ≡ v ++ b → (u ≡ v) × (a ≡ b)
same_fronts [] [] a b e f = (refl, f)
same_fronts [] (y ∷ v) a b e f = cc
same_fronts (x ∷ u) [] a b e f = cc
same_fronts (x ∷ u) (y ∷ v) a b e f =
    let head : x ≡ y = cc in
    let tail : u ++ a ≡ v ++ b = cc in
    let rest : (u ≡ v) × (a ≡ b) = same_fronts u v a b (omega arith) tail in
    (let lists : u ≡ v = rest.0 in cc, rest.1)
