-- What the mask of the lanes' wrong signs says where no bit of it is set.
use Rattle.std.proofs.Common.{◌≡◌, ℕ, ◌+◌, ◌*◌, ◌<◌, ◌≤◌, ◌%◌, ◌^◌, ℤ, Bool, true, false, not, cond, ◌⊎◌, zero, suc, List, [], ◌∷◌, length, map, refl, ap, sym, ◌∙◌, subst, FitsSigned, w64, to_z, of_z, to_z-of_z, arith}
use native.Mathlib.Nat.{suc_inj}
use lib.Signed.{lt_z}
use lib.Bits.{bit_and, bit_xor}
use lib.Lanes.{zip2, mask_l, top, Each1}
use lib.ListN.{length-map}
use Rattle.std.specs.Int.{is_negative}
use Rattle.std.proofs.lemmas.Simd.{mask_l-mod}
use Rattle.pooma_lanes.specs.Rows.{at_place}
use Rattle.pooma_lanes.proofs.Signs.{ones, as_one_of}

-- the mask of the numbers below those of the second list
abbrev pub below_mask : ℕ → ℕ → ℕ
below_mask m n = ones (lt_z (to_z w64 m) (to_z w64 n))

abbrev pub marks : List ℕ → List ℕ → List ℕ → List ℕ → List ℕ
marks ts ms ns zs = zip2 bit_and (zip2 bit_xor (zip2 below_mask ts zs) (zip2 below_mask ms zs)) (zip2 bit_xor (zip2 below_mask ts zs) (zip2 below_mask ns zs))

no_mark : (b : Bool) (n : ℕ) → cond b 1 0 + 2 * n ≡ 0 → (b ≡ false) × (n ≡ 0)
no_mark true n e = absurd (omega (arith, e))
no_mark false n e = (refl, omega (arith, e))

abbrev bits : List ℤ → List ℕ
bits = map (of_z w64)

signs_of : (t x y : ℤ) → FitsSigned w64 t → FitsSigned w64 x → FitsSigned w64 y
    → top 63 (bit_and (bit_xor (below_mask (of_z w64 t) 0) (below_mask (of_z w64 x) 0)) (bit_xor (below_mask (of_z w64 t) 0) (below_mask (of_z w64 y) 0))) ≡ false
    → (is_negative t ≡ is_negative x) ⊎ (is_negative t ≡ is_negative y)
signs_of t x y ft fx fy clear =
    let mark : ℤ → ℤ → ℤ → ℕ = λ t x y. bit_and (bit_xor (ones (is_negative t)) (ones (is_negative x))) (bit_xor (ones (is_negative t)) (ones (is_negative y))) in
    as_one_of (is_negative t) (is_negative x) (is_negative y)
    (ap (λ n. top 63 n) ((λ i. mark (sym (to_z-of_z ft) i) (sym (to_z-of_z fx) i) (sym (to_z-of_z fy) i))) ∙ clear)

pub signs_are : (ts xs ys : List ℤ) (zs : List ℕ) → length xs ≡ length ts → length ys ≡ length ts → length zs ≡ length ts → Each1 (λ z. z ≡ 0) zs
    → Each1 (FitsSigned w64) ts → Each1 (FitsSigned w64) xs → Each1 (FitsSigned w64) ys → mask_l (map (top 63) (marks (bits ts) (bits xs) (bits ys) zs)) ≡ 0
    → (k : ℕ) → k < length ts → (is_negative (at_place ts k) ≡ is_negative (at_place xs k)) ⊎ (is_negative (at_place ts k) ≡ is_negative (at_place ys k))
signs_are [] xs ys zs lx ly lz zeros ft fx fy clear k lt = absurd (omega (arith, lt))
signs_are (t ∷ ts) [] ys zs lx ly lz zeros ft fx fy clear k lt = absurd (omega (arith, lx))
signs_are (t ∷ ts) (x ∷ xs) [] zs lx ly lz zeros ft fx fy clear k lt = absurd (omega (arith, ly))
signs_are (t ∷ ts) (x ∷ xs) (y ∷ ys) [] lx ly lz zeros ft fx fy clear k lt = absurd (omega (arith, lz))
signs_are (t ∷ ts) (x ∷ xs) (y ∷ ys) (z ∷ zs) lx ly lz zeros ft fx fy clear k lt = at (signs_are ts xs ys zs (suc_inj lx) (suc_inj ly) (suc_inj lz) zeros.1 ft.1 fx.1 fy.1 none.1) k lt
  where
    lane : ℕ → ℕ
    lane o = bit_and (bit_xor (below_mask (of_z w64 t) o) (below_mask (of_z w64 x) o)) (bit_xor (below_mask (of_z w64 t) o) (below_mask (of_z w64 y) o))

    none : (top 63 (lane z) ≡ false) × (mask_l (map (top 63) (marks (bits ts) (bits xs) (bits ys) zs)) ≡ 0)
    none = no_mark (top 63 (lane z)) (mask_l (map (top 63) (marks (bits ts) (bits xs) (bits ys) zs))) clear

    head : top 63 (lane 0) ≡ false
    head = subst (λ o. top 63 (lane o) ≡ false) zeros.0 none.0

    at : ((k : ℕ) → k < length ts → (is_negative (at_place ts k) ≡ is_negative (at_place xs k)) ⊎ (is_negative (at_place ts k) ≡ is_negative (at_place ys k)))
        → (k : ℕ) → k < suc (length ts)
        → (is_negative (at_place (t ∷ ts) k) ≡ is_negative (at_place (x ∷ xs) k)) ⊎ (is_negative (at_place (t ∷ ts) k) ≡ is_negative (at_place (y ∷ ys) k))
    at later zero lt = signs_of t x y ft.0 fx.0 fy.0 head
    at later (suc k) lt = later k (omega (arith, lt))

zip2-le : {A B C : Type 0} (f : A → B → C) (xs : List A) (ys : List B) → length (zip2 f xs ys) ≤ length xs
zip2-le f [] ys = omega arith
zip2-le f (x ∷ xs) [] = omega arith
zip2-le f (x ∷ xs) (y ∷ ys) = omega (arith, zip2-le f xs ys)

-- the marks of at most 64 lanes, as the machine's mask has them
pub mask_clear : (ts ms ns zs : List ℕ) → length ts ≤ 64 → mask_l (map (top 63) (marks ts ms ns zs)) % 2 ^ 64 ≡ 0 → mask_l (map (top 63) (marks ts ms ns zs)) ≡ 0
mask_clear ts ms ns zs le e =
    let p = zip2 bit_xor (zip2 below_mask ts zs) (zip2 below_mask ms zs) in
    let q = zip2 bit_xor (zip2 below_mask ts zs) (zip2 below_mask ns zs) in
    sym (mask_l-mod (map (top 63) (marks ts ms ns zs)) 64
    (omega (arith, le, length-map (marks ts ms ns zs) (top 63), zip2-le bit_and p q, zip2-le bit_xor (zip2 below_mask ts zs) (zip2 below_mask ms zs), zip2-le below_mask ts zs))) ∙ e

pub not_twice : (b : Bool) → not (not b) ≡ true → b ≡ true
not_twice true e = refl
not_twice false e = e
