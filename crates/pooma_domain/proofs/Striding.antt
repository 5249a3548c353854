-- Which numbers of a strided axis are not past a last one.
use Rattle.std.proofs.Common.{subst, refl, sym, ap, ◌∙◌, inl, inr, arith, to_z, of_z, ◌^◌, true, false, Fits}
use Rattle.std.proofs.lemmas.Int.{ints, by_lt_z, to_z-of_z}
use Rattle.std.proofs.lemmas.Nat.{div-add-mod', mul-le}
use Rattle.std.specs.Int.Signed.{lt_z}
use Rattle.std.proofs.Math.IntN.{pos-*ℤ-pos, negsuc-*ℤ-pos, *ℤ_comm, suc_ℤ-*ℤ, *ℤ-zero, +ℤ_idr, nat_abs}
use Rattle.std.proofs.Math.Nat.{mul_comm, mul-le-mul_left, mul-div_left, le-div_iff_mul-le, div-le_self}
use Rattle.std.specs.Prelude.{◌≡◌, ◌≢◌, ◌↔◌, ◌⊎◌, ℕ, zero, suc, ◌+◌, ◌-◌, ◌*◌, ◌/◌, ◌%◌, ◌<◌, ◌≤◌, ℤ, pos, negsuc, neg_ℤ, ◌+ℤ◌, ◌-ℤ◌, ◌*ℤ◌, ◌≤ℤ◌, ◌<ℤ◌, FitsSigned, Some, length, slice_get}
use Rattle.std.specs.Int.{w32, w64}
use Rattle.pooma_domain.specs.Strides.{striding}
use Rattle.pooma_domain.specs.Bounds.{IsBounded, IsNotPast}

-- how far the last number lies ahead of the first one
pub data IsAhead (first last stride way : ℤ) : Type 0 where
  up : pos 0 <ℤ stride → way ≡ last -ℤ first → IsAhead first last stride way
  down : stride <ℤ pos 0 → way ≡ first -ℤ last → IsAhead first last stride way

-- the k-th number lies between the first and the last one
pub IsBetween : (first last x : ℤ) → Type 0
IsBetween first last x = ((first ≤ℤ x) × (x ≤ℤ last)) ⊎ ((last ≤ℤ x) × (x ≤ℤ first))

pub not_past_from : (first last stride way : ℤ) (k : ℕ) → IsAhead first last stride way → pos (k * nat_abs stride) ≤ℤ way → IsNotPast stride last (first +ℤ stride *ℤ pos k)
not_past_from first last (pos s) way k (up some e) h =
    let product : pos s *ℤ pos k ≡ pos (k * s) = pos-*ℤ-pos s k ∙ ap pos (mul_comm s k) in
    rw product (λ _. omega (arith, ints, h, e), λ t. absurd (omega (arith, ints, t)))
not_past_from first last (negsuc n) way k (up some e) h = absurd (omega (arith, ints, some))
not_past_from first last (pos s) way k (down some e) h = absurd (omega (arith, ints, some))
not_past_from first last (negsuc n) way k (down some e) h =
    let product : negsuc n *ℤ pos k ≡ neg_ℤ (pos (k * suc n)) = negsuc-*ℤ-pos n k ∙ ap (λ m. neg_ℤ (pos m)) (mul_comm (suc n) k) in
    rw product (λ t. absurd (omega (arith, ints, t)), λ _. omega (arith, ints, h, e))

pub not_past_back : (first last stride way : ℤ) (k : ℕ) → IsAhead first last stride way → IsNotPast stride last (first +ℤ stride *ℤ pos k) → pos (k * nat_abs stride) ≤ℤ way
not_past_back first last (pos s) way k (up some e) h =
    let product : pos s *ℤ pos k ≡ pos (k * s) = pos-*ℤ-pos s k ∙ ap pos (mul_comm s k) in
    let not_past : (first +ℤ pos (k * s)) ≤ℤ last = rw (← product) (h.0 some) in
    omega (arith, ints, not_past, e)
not_past_back first last (negsuc n) way k (up some e) h = absurd (omega (arith, ints, some))
not_past_back first last (pos s) way k (down some e) h = absurd (omega (arith, ints, some))
not_past_back first last (negsuc n) way k (down some e) h =
    let product : negsuc n *ℤ pos k ≡ neg_ℤ (pos (k * suc n)) = negsuc-*ℤ-pos n k ∙ ap (λ m. neg_ℤ (pos m)) (mul_comm (suc n) k) in
    let not_past : last ≤ℤ (first +ℤ neg_ℤ (pos (k * suc n))) = rw (← product) (h.1 some) in
    omega (arith, ints, not_past, e)

pub between_ends : (first last stride way : ℤ) (k : ℕ) → IsAhead first last stride way → pos (k * nat_abs stride) ≤ℤ way → IsBetween first last (first +ℤ stride *ℤ pos k)
unfolding IsBetween
between_ends first last (pos s) way k (up some e) h =
    let product : pos s *ℤ pos k ≡ pos (k * s) = pos-*ℤ-pos s k ∙ ap pos (mul_comm s k) in
    rw product (inl (omega (arith, ints), omega (arith, ints, h, e)))
between_ends first last (negsuc n) way k (up some e) h = absurd (omega (arith, ints, some))
between_ends first last (pos s) way k (down some e) h = absurd (omega (arith, ints, some))
between_ends first last (negsuc n) way k (down some e) h =
    let product : negsuc n *ℤ pos k ≡ neg_ℤ (pos (k * suc n)) = negsuc-*ℤ-pos n k ∙ ap (λ m. neg_ℤ (pos m)) (mul_comm (suc n) k) in
    rw product (inr (omega (arith, ints, h, e), omega (arith, ints)))

pub ahead_some : (first last stride way : ℤ) → IsAhead first last stride way → 0 < nat_abs stride
ahead_some first last (pos s) way (up some e) = omega (arith, ints, some)
ahead_some first last (negsuc n) way (up some e) = omega arith
ahead_some first last (pos s) way (down some e) = absurd (omega (arith, ints, some))
ahead_some first last (negsuc n) way (down some e) = omega arith

-- the quotient counts the numbers that are not past the last one, after the first
pub counted_not_past : (first last stride way : ℤ) (w k : ℕ) → IsAhead first last stride way → pos w ≡ way → (k < w / nat_abs stride + 1) ↔ IsNotPast stride last (first +ℤ stride *ℤ pos k)
counted_not_past first last stride way w k ahead e = (
  λ h.
      let within : k ≤ w / nat_abs stride = omega arith in
      let product : k * nat_abs stride ≤ w = (le-div_iff_mul-le (ahead_some first last stride way ahead)).0 within in
      not_past_from first last stride way k ahead (omega (arith, ints, e, product)),
  λ h.
      let product : pos (k * nat_abs stride) ≤ℤ way = not_past_back first last stride way k ahead h in
      let small : k * nat_abs stride ≤ w = omega (arith, ints, product, e) in
      let within : k ≤ w / nat_abs stride = (le-div_iff_mul-le (ahead_some first last stride way ahead)).1 small in
      omega (arith, within),
)

-- the last of them fits
pub last_fits : (first last stride way : ℤ) (w k : ℕ) → IsAhead first last stride way → pos w ≡ way → k ≡ w / nat_abs stride → IsBounded first → IsBounded last → FitsSigned w32 (first +ℤ stride *ℤ pos k)
unfolding IsBetween
last_fits first last stride way w k ahead e is b b' =
    let within : k ≤ w / nat_abs stride = omega arith in
    let product : k * nat_abs stride ≤ w = (le-div_iff_mul-le (ahead_some first last stride way ahead)).0 within in
    let between : IsBetween first last (first +ℤ stride *ℤ pos k) =
    between_ends first last stride way k ahead (omega (arith, ints, e, product)) in
    elim between [ inl h ↦ omega (arith, ints, h.0, h.1, b.0, b.1, b'.0, b'.1) | inr h ↦ omega (arith, ints, h.0, h.1, b.0, b.1, b'.0, b'.1) ]

pub is_ahead : (first last stride way : ℤ) → (pos 0 <ℤ stride → way ≡ last -ℤ first) → (stride ≤ℤ pos 0 → way ≡ first -ℤ last) → stride ≢ pos 0 → IsAhead first last stride way
is_ahead first last stride way u d moves =
    by_lt_z (pos 0) stride
    (λ some. up some (u some))
    (λ none. down (by_lt_z stride (pos 0) (λ below. below) (λ at_least. absurd (moves (omega (arith, ints))))) (d none))

-- the same from the numbers as the code passes them on
pub ahead_of : (first last stride way : ℤ) → FitsSigned w32 first → FitsSigned w32 last → FitsSigned w32 stride → (pos 0 <ℤ to_z w32 (of_z w32 stride) → way ≡ to_z w32 (of_z w32 last) -ℤ to_z w32 (of_z w32 first)) → (to_z w32 (of_z w32 stride) ≤ℤ pos 0 → way ≡ to_z w32 (of_z w32 first) -ℤ to_z w32 (of_z w32 last)) → stride ≢ pos 0 → IsAhead first last stride way
ahead_of first last stride way f g h u d moves =
    is_ahead first last stride way (simp to_z-of_z at u) (simp to_z-of_z at d) moves

pub behind : (way : ℤ) → FitsSigned w64 way → lt_z (to_z w64 (of_z w64 way)) (pos 0) ≡ true → way <ℤ pos 0
behind way f t = let t' : lt_z way (pos 0) ≡ true = simp to_z-of_z at t in grind (arith, ints)

pub not_behind : (way : ℤ) → FitsSigned w64 way → lt_z (to_z w64 (of_z w64 way)) (pos 0) ≡ false → pos 0 ≤ℤ way
not_behind way f t = let t' : lt_z way (pos 0) ≡ false = simp to_z-of_z at t in grind (arith, ints)

pub unsigned_way : (way : ℤ) → FitsSigned w64 way → pos 0 ≤ℤ way → pos (nat_abs (to_z w64 (of_z w64 way))) ≡ way
unsigned_way way f some = let is : to_z w64 (of_z w64 way) ≡ way = to_z-of_z w64 way f in rw is (omega (arith, ints))

pub unsigned_step : (stride : ℤ) (u : ℕ) → FitsSigned w32 stride → u ≡ nat_abs (to_z w32 (of_z w32 stride)) → u ≡ nat_abs stride
unsigned_step stride u f e = simp to_z-of_z at e

-- a place on the way between two numbers of 32 bits
pub place_fits : (first last stride way : ℤ) (w s : ℕ) → FitsSigned w32 first → FitsSigned w32 last → IsAhead first last stride way → pos w ≡ way → Fits w32 (w / s)
place_fits first last stride way w s f g (up some e) h =
    let small : w / s ≤ w = div-le_self w s in omega (arith, ints, f, g, e, h, small)
place_fits first last stride way w s f g (down some e) h =
    let small : w / s ≤ w = div-le_self w s in omega (arith, ints, f, g, e, h, small)

-- the product of a stride and a count of 32 bits fits 64
pub product_fits : (stride : ℤ) (k : ℕ) → FitsSigned w32 stride → k < 2 ^ 32 → FitsSigned w64 (stride *ℤ pos k)
product_fits (pos s) k f h =
    let product : pos s *ℤ pos k ≡ pos (s * k) = pos-*ℤ-pos s k in
    let small : s * k ≤ 2147483648 * 4294967295 = mul-le s k 2147483648 4294967295 (omega (arith, ints, f)) (omega arith) in
    rw product (omega (arith, ints, small))
product_fits (negsuc s) k f h =
    let product : negsuc s *ℤ pos k ≡ neg_ℤ (pos (suc s * k)) = negsuc-*ℤ-pos s k in
    let small : suc s * k ≤ 2147483648 * 4294967295 = mul-le (suc s) k 2147483648 4294967295 (omega (arith, ints, f)) (omega arith) in
    rw product (omega (arith, ints, small))

-- the first number is not past the last one where the way is not negative
pub first_not_past : (first last stride way : ℤ) → IsAhead first last stride way → pos 0 ≤ℤ way → IsNotPast stride last first
first_not_past first last stride way (up some e) h = (λ _. omega (arith, ints, e, h), λ t. absurd (omega (arith, ints, some, t)))
first_not_past first last stride way (down some e) h = (λ t. absurd (omega (arith, ints, some, t)), λ _. omega (arith, ints, e, h))

pub way_from_first : (first last stride way : ℤ) → IsAhead first last stride way → IsNotPast stride last first → pos 0 ≤ℤ way
way_from_first first last stride way (up some e) h = let not_past : first ≤ℤ last = h.0 some in omega (arith, ints, e)
way_from_first first last stride way (down some e) h = let not_past : last ≤ℤ first = h.1 some in omega (arith, ints, e)

-- a number before the last one fits, where the first and the last one fit
pub fits_between : (first stride : ℤ) (k n : ℕ) → k ≤ n → FitsSigned w32 first → FitsSigned w32 (first +ℤ stride *ℤ pos n) → FitsSigned w32 (first +ℤ stride *ℤ pos k)
fits_between first (pos s) k n h f g =
    let here : pos s *ℤ pos k ≡ pos (s * k) = pos-*ℤ-pos s k in
    let there : pos s *ℤ pos n ≡ pos (s * n) = pos-*ℤ-pos s n in
    let below : s * k ≤ s * n = mul-le-mul_left s h in
    let end : FitsSigned w32 (first +ℤ pos (s * n)) = rw (← there) g in
    rw here (omega (arith, ints, end, f, below))
fits_between first (negsuc s) k n h f g =
    let here : negsuc s *ℤ pos k ≡ neg_ℤ (pos (suc s * k)) = negsuc-*ℤ-pos s k in
    let there : negsuc s *ℤ pos n ≡ neg_ℤ (pos (suc s * n)) = negsuc-*ℤ-pos s n in
    let below : suc s * k ≤ suc s * n = mul-le-mul_left (suc s) h in
    let end : FitsSigned w32 (first +ℤ neg_ℤ (pos (suc s * n))) = rw (← there) g in
    rw here (omega (arith, ints, end, f, below))

pub before_last : (k n : ℕ) → k < n → k ≤ n - 1
before_last k n h = omega arith

pub add_sub : (n : ℕ) → n + 1 - 1 ≡ n
add_sub n = omega arith

-- a number of 32 bits fits 64
pub wide : (z : ℤ) → FitsSigned w32 z → FitsSigned w64 z
wide z f = omega (arith, ints, f)

one_more : (s : ℤ) (k : ℕ) → s *ℤ pos (suc k) ≡ s *ℤ pos k +ℤ s
one_more s k = *ℤ_comm s (pos (suc k)) ∙ suc_ℤ-*ℤ (pos k) s ∙ ap (λ v. v +ℤ s) (*ℤ_comm (pos k) s)

pub slice_get-striding : (first stride : ℤ) (n k : ℕ) → k < n → slice_get (striding first stride n) k ≡ Some (first +ℤ stride *ℤ pos k)
slice_get-striding first stride zero k h = absurd (omega arith)
slice_get-striding first stride (suc n) zero h = ap Some (sym (ap (λ v. first +ℤ v) (*ℤ-zero stride) ∙ +ℤ_idr first))
slice_get-striding first stride (suc n) (suc k) h = slice_get-striding (first +ℤ stride) stride n k (omega arith) ∙ ap Some (omega (arith, ints, one_more stride k))

pub length-striding : (first stride : ℤ) (n : ℕ) → length (striding first stride n) ≡ n
length-striding first stride zero = refl
length-striding first stride (suc n) = ap suc (length-striding (first +ℤ stride) stride n)

-- a number is the k-th one where it lies k strides ahead
pub ahead_from_exact : (first x stride way : ℤ) (k : ℕ) → IsAhead first x stride way → x ≡ first +ℤ stride *ℤ pos k → way ≡ pos (k * nat_abs stride)
ahead_from_exact first x (pos s) way k (up some e) h =
    let product : pos s *ℤ pos k ≡ pos (k * s) = pos-*ℤ-pos s k ∙ ap pos (mul_comm s k) in
    let is : x ≡ first +ℤ pos (k * s) = rw (← product) h in
    omega (arith, ints, is, e)
ahead_from_exact first x (negsuc n) way k (up some e) h = absurd (omega (arith, ints, some))
ahead_from_exact first x (pos s) way k (down some e) h = absurd (omega (arith, ints, some))
ahead_from_exact first x (negsuc n) way k (down some e) h =
    let product : negsuc n *ℤ pos k ≡ neg_ℤ (pos (k * suc n)) = negsuc-*ℤ-pos n k ∙ ap (λ m. neg_ℤ (pos m)) (mul_comm (suc n) k) in
    let is : x ≡ first +ℤ neg_ℤ (pos (k * suc n)) = rw (← product) h in
    omega (arith, ints, is, e)

pub exact_from_ahead : (first x stride way : ℤ) (k : ℕ) → IsAhead first x stride way → way ≡ pos (k * nat_abs stride) → x ≡ first +ℤ stride *ℤ pos k
exact_from_ahead first x (pos s) way k (up some e) h =
    let product : pos s *ℤ pos k ≡ pos (k * s) = pos-*ℤ-pos s k ∙ ap pos (mul_comm s k) in
    rw product (omega (arith, ints, h, e))
exact_from_ahead first x (negsuc n) way k (up some e) h = absurd (omega (arith, ints, some))
exact_from_ahead first x (pos s) way k (down some e) h = absurd (omega (arith, ints, some))
exact_from_ahead first x (negsuc n) way k (down some e) h =
    let product : negsuc n *ℤ pos k ≡ neg_ℤ (pos (k * suc n)) = negsuc-*ℤ-pos n k ∙ ap (λ m. neg_ℤ (pos m)) (mul_comm (suc n) k) in
    rw product (omega (arith, ints, h, e))

pub exact_at_quotient : (first x stride way : ℤ) (w s : ℕ) → IsAhead first x stride way → pos w ≡ way → s ≡ nat_abs stride → w % s ≡ 0 → x ≡ first +ℤ stride *ℤ pos (w / s)
exact_at_quotient first x stride way w s ahead e es none =
    let parts : w / s * s + w % s ≡ w = div-add-mod' w s in
    let whole : w / s * s ≡ w = omega arith in
    exact_from_ahead first x stride way (w / s) ahead (rw (← es) (omega (arith, ints, whole, e)))

pub quotient_of_exact : (first x stride way : ℤ) (w s k : ℕ) → IsAhead first x stride way → pos w ≡ way → s ≡ nat_abs stride → x ≡ first +ℤ stride *ℤ pos k → (w % s ≡ 0) × (w / s ≡ k)
quotient_of_exact first x stride way w s k ahead e es h =
    let some : 0 < s = rw es (ahead_some first x stride way ahead) in
    let is : way ≡ pos (k * nat_abs stride) = ahead_from_exact first x stride way k ahead h in
    let product : w ≡ k * s = rw es (omega (arith, ints, is, e)) in
    let quotient : w / s ≡ k = rw product (mul-div_left k some) in
    let parts : w / s * s + w % s ≡ w = div-add-mod' w s in
    let whole : w / s * s ≡ k * s = ap (λ q. q * s) quotient in
    (omega (arith, parts, whole, product), quotient)

-- strides add up
pub strides_add : (s : ℤ) (m n : ℕ) → s *ℤ pos (m + n) ≡ s *ℤ pos m +ℤ s *ℤ pos n
strides_add (pos s) m n =
    let all : pos s *ℤ pos (m + n) ≡ pos (s * (m + n)) = pos-*ℤ-pos s (m + n) in
    all ∙ omega (arith, ints)
strides_add (negsuc s) m n =
    let all : negsuc s *ℤ pos (m + n) ≡ neg_ℤ (pos (suc s * (m + n))) = negsuc-*ℤ-pos s (m + n) in
    let left : negsuc s *ℤ pos m ≡ neg_ℤ (pos (suc s * m)) = negsuc-*ℤ-pos s m in
    let right : negsuc s *ℤ pos n ≡ neg_ℤ (pos (suc s * n)) = negsuc-*ℤ-pos s n in
    all ∙ omega (arith, ints, left, right)

-- the last number of a part fits
pub part_fits : (first stride x : ℤ) (from count all : ℕ) → 0 < count → from + count ≤ all → FitsSigned w32 x → FitsSigned w32 (first +ℤ stride *ℤ pos (all - 1)) → x ≡ first +ℤ stride *ℤ pos from → FitsSigned w32 (x +ℤ stride *ℤ pos (count - 1))
part_fits first stride x from count all some within f g e =
    let parts : all - 1 ≡ from + (all - 1 - from) = omega arith in
    let sum : stride *ℤ pos (all - 1) ≡ stride *ℤ pos from +ℤ stride *ℤ pos (all - 1 - from) =
    ap (λ n. stride *ℤ pos n) parts ∙ strides_add stride from (all - 1 - from) in
    let is : first +ℤ stride *ℤ pos (all - 1) ≡ x +ℤ stride *ℤ pos (all - 1 - from) = omega (arith, ints, sum, e) in
    fits_between x stride (count - 1) (all - 1 - from) (omega arith) f (subst (FitsSigned w32) is g)
