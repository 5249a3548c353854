-- What a choice by a mask of lanes gives.
use Rattle.std.proofs.Common.{◌≡◌, ℕ, ◌-◌, ◌<◌, ◌^◌, ℤ, pos, Bool, true, false, not, cond, eqb, eqb-true, eq-eqb, replicate, List, length, map, get_or, refl, ap, sym, ◌∙◌, FitsSigned, w64, to_z, of_z, to_z-of_z, arith}
use lib.ListN.{length-map, get_or-map}
use lib.Lanes.{zip2, sel_l, top}
use lib.Signed.{lt_z}
use Rattle.std.specs.Int.{int_min, int_max}
use Rattle.std.proofs.lemmas.Int.{ints, clamps}
use Rattle.std.proofs.lemmas.Simd.{tops_compared, length-zip2, get_or-zip2, length-sel_l, get_or-sel_l, get_or-replicate}
use Rattle.std.specs.Ordering.{int_eq}
use Rattle.std.specs.Cmp.{signed_Decides}
use Rattle.pooma_lanes.specs.Orders.{as_number}
use Rattle.pooma_lanes.specs.Rows.{at_place}
use Rattle.pooma_lanes.specs.Blocks.{IsBlock}
use Rattle.pooma_lanes.proofs.Bits.{map-fits, lane-fits}

-- the lanes that a test of two lists of bits chooses from two others
abbrev pub chosen : (ℕ → ℕ → Bool) → List ℕ → List ℕ → List ℕ → List ℕ → List ℕ
chosen t ms ns us vs = sel_l (map (top 63) (zip2 (λ a b. cond (t a b) (2 ^ 64 - 1) 0) ms ns)) us vs

module _ (t : ℕ → ℕ → Bool) (ms ns us vs : List ℕ) (lm : length ms ≡ 8) (ln : length ns ≡ 8) (lu : length us ≡ 8) (lv : length vs ≡ 8) where
  tested : length (zip2 t ms ns) ≡ 8
  tested = length-zip2 t ms ns (lm ∙ sym ln) ∙ lm

  chosen_is : chosen t ms ns us vs ≡ sel_l (zip2 t ms ns) us vs
  chosen_is = ap (λ ts. sel_l ts us vs) (tops_compared w64 t ms ns)

  pub chosen-block : IsBlock (map (to_z w64) (chosen t ms ns us vs))
  chosen-block = record {
    count = length-map (chosen t ms ns us vs) (to_z w64) ∙ ap length chosen_is ∙ length-sel_l (zip2 t ms ns) us vs (tested ∙ sym lu) (tested ∙ sym lv) ∙ tested;
    fit = map-fits (chosen t ms ns us vs);
  }

  pub chosen_lane : (k : ℕ) → k < 8 → at_place (map (to_z w64) (chosen t ms ns us vs)) k ≡ to_z w64 (cond (t (get_or ms k 0) (get_or ns k 0)) (get_or us k 0) (get_or vs k 0))
  chosen_lane k lt =
      get_or-map (to_z w64) (chosen t ms ns us vs) k 0
      ∙ ap (to_z w64) (ap (λ l. get_or l k 0) chosen_is ∙ get_or-sel_l (zip2 t ms ns) us vs k 0 (omega (arith, lt, tested)) (omega (arith, lt, lu)) (omega (arith, lt, lv))
      ∙ ap (λ b. cond b (get_or us k 0) (get_or vs k 0)) (get_or-zip2 t ms ns k 0 0 false (omega (arith, lt, lm)) (omega (arith, lt, ln))))

abbrev bits : List ℤ → List ℕ
bits = map (of_z w64)

of_cond : (b : Bool) (x y : ℤ) → FitsSigned w64 x → FitsSigned w64 y → to_z w64 (cond b (of_z w64 x) (of_z w64 y)) ≡ cond b x y
of_cond true x y f g = to_z-of_z f
of_cond false x y f g = to_z-of_z g

-- the lanes of two blocks: a test of numbers, by their bits
abbrev pub by_numbers : (ℤ → ℤ → Bool) → ℕ → ℕ → Bool
by_numbers t m n = t (to_z w64 m) (to_z w64 n)

module _ (t : ℤ → ℤ → Bool) (xs ys : List ℤ) (a : IsBlock xs) (b : IsBlock ys) where
  count_of_bits : (zs : List ℤ) → IsBlock zs → length (bits zs) ≡ 8
  count_of_bits zs c = length-map zs (of_z w64) ∙ c.count

  test_is : (k : ℕ) → k < 8 → by_numbers t (get_or (bits xs) k 0) (get_or (bits ys) k 0) ≡ t (at_place xs k) (at_place ys k)
  test_is k lt =
      (λ i. by_numbers t (get_or-map (of_z w64) xs k (pos 0) i) (get_or-map (of_z w64) ys k (pos 0) i))
      ∙ (λ i. t (to_z-of_z (lane-fits xs a k lt) i) (to_z-of_z (lane-fits ys b k lt) i))

  -- one of the two numbers
  pub one_of_both-block : IsBlock (map (to_z w64) (chosen (by_numbers t) (bits xs) (bits ys) (bits xs) (bits ys)))
  one_of_both-block = chosen-block (by_numbers t) (bits xs) (bits ys) (bits xs) (bits ys) (count_of_bits xs a) (count_of_bits ys b) (count_of_bits xs a) (count_of_bits ys b)

  pub one_of_both : (k : ℕ) → k < 8
      → at_place (map (to_z w64) (chosen (by_numbers t) (bits xs) (bits ys) (bits xs) (bits ys))) k ≡ cond (t (at_place xs k) (at_place ys k)) (at_place xs k) (at_place ys k)
  one_of_both k lt =
      chosen_lane (by_numbers t) (bits xs) (bits ys) (bits xs) (bits ys) (count_of_bits xs a) (count_of_bits ys b) (count_of_bits xs a) (count_of_bits ys b) k lt
      ∙ (λ i. to_z w64 (cond (test_is k lt i) (get_or-map (of_z w64) xs k (pos 0) i) (get_or-map (of_z w64) ys k (pos 0) i)))
      ∙ of_cond (t (at_place xs k) (at_place ys k)) (at_place xs k) (at_place ys k) (lane-fits xs a k lt) (lane-fits ys b k lt)

  -- the other of the two numbers
  pub other_of_both-block : IsBlock (map (to_z w64) (chosen (by_numbers t) (bits xs) (bits ys) (bits ys) (bits xs)))
  other_of_both-block = chosen-block (by_numbers t) (bits xs) (bits ys) (bits ys) (bits xs) (count_of_bits xs a) (count_of_bits ys b) (count_of_bits ys b) (count_of_bits xs a)

  pub other_of_both : (k : ℕ) → k < 8
      → at_place (map (to_z w64) (chosen (by_numbers t) (bits xs) (bits ys) (bits ys) (bits xs))) k ≡ cond (t (at_place xs k) (at_place ys k)) (at_place ys k) (at_place xs k)
  other_of_both k lt =
      chosen_lane (by_numbers t) (bits xs) (bits ys) (bits ys) (bits xs) (count_of_bits xs a) (count_of_bits ys b) (count_of_bits ys b) (count_of_bits xs a) k lt
      ∙ (λ i. to_z w64 (cond (test_is k lt i) (get_or-map (of_z w64) ys k (pos 0) i) (get_or-map (of_z w64) xs k (pos 0) i)))
      ∙ of_cond (t (at_place xs k) (at_place ys k)) (at_place ys k) (at_place xs k) (lane-fits ys b k lt) (lane-fits xs a k lt)

-- 1 where a test of the bits holds, and else 0
number_of_test : (b : Bool) → to_z w64 (cond b 1 0) ≡ as_number b
number_of_test true = refl
number_of_test false = refl

eight_same : (n : ℕ) (k : ℕ) → k < 8 → get_or (replicate 8 n) k 0 ≡ n
eight_same n k lt = get_or-replicate 8 k n 0 lt

module _ (t : ℕ → ℕ → Bool) (test : ℤ → ℤ → Bool) (agree : (x y : ℤ) → FitsSigned w64 x → FitsSigned w64 y → t (of_z w64 x) (of_z w64 y) ≡ test x y)
    (xs ys : List ℤ) (a : IsBlock xs) (b : IsBlock ys) where
  bits_count : (zs : List ℤ) → IsBlock zs → length (bits zs) ≡ 8
  bits_count zs c = length-map zs (of_z w64) ∙ c.count

  pub numbers-block : IsBlock (map (to_z w64) (chosen t (bits xs) (bits ys) (replicate 8 1) (replicate 8 0)))
  numbers-block = chosen-block t (bits xs) (bits ys) (replicate 8 1) (replicate 8 0) (bits_count xs a) (bits_count ys b) refl refl

  pub numbers_of_tests : (k : ℕ) → k < 8
      → at_place (map (to_z w64) (chosen t (bits xs) (bits ys) (replicate 8 1) (replicate 8 0))) k ≡ as_number (test (at_place xs k) (at_place ys k))
  numbers_of_tests k lt =
      chosen_lane t (bits xs) (bits ys) (replicate 8 1) (replicate 8 0) (bits_count xs a) (bits_count ys b) refl refl k lt
      ∙ (λ i. to_z w64 (cond (t (get_or-map (of_z w64) xs k (pos 0) i) (get_or-map (of_z w64) ys k (pos 0) i)) (eight_same 1 k lt i) (eight_same 0 k lt i)))
      ∙ number_of_test (t (of_z w64 (at_place xs k)) (of_z w64 (at_place ys k)))
      ∙ ap as_number (agree (at_place xs k) (at_place ys k) (lane-fits xs a k lt) (lane-fits ys b k lt))

pub agree_by_numbers : (t : ℤ → ℤ → Bool) (x y : ℤ) → FitsSigned w64 x → FitsSigned w64 y → by_numbers t (of_z w64 x) (of_z w64 y) ≡ t x y
agree_by_numbers t x y f g = λ i. t (to_z-of_z f i) (to_z-of_z g i)

-- numbers are the same where their bits are
pub agree_equal : (x y : ℤ) → FitsSigned w64 x → FitsSigned w64 y → eqb (of_z w64 x) (of_z w64 y) ≡ int_eq x y
agree_equal x y f g = go (eqb (of_z w64 x) (of_z w64 y)) refl (int_eq x y) refl
  where
    go : (b : Bool) → eqb (of_z w64 x) (of_z w64 y) ≡ b → (c : Bool) → int_eq x y ≡ c → b ≡ c
    go true e true d = refl
    go false e false d = refl
    go true e false d =
        let same : x ≡ y = sym (to_z-of_z f) ∙ ap (to_z w64) (eqb-true (of_z w64 x) (of_z w64 y) e) ∙ to_z-of_z g in
        sym ((signed_Decides x y).1 same) ∙ d
    go false e true d = sym e ∙ eq-eqb (of_z w64 x) (of_z w64 y) (ap (of_z w64) ((signed_Decides x y).0 d))

pub agree_unequal : (x y : ℤ) → FitsSigned w64 x → FitsSigned w64 y → not (eqb (of_z w64 x) (of_z w64 y)) ≡ not (int_eq x y)
agree_unequal x y f g = ap not (agree_equal x y f g)

-- the lesser and the greater by the test that a vector has
pub lesser_is : (x y : ℤ) → cond (lt_z x y) x y ≡ int_min x y
lesser_is x y = grind (arith, ints, clamps)

pub greater_is : (x y : ℤ) → cond (lt_z x y) y x ≡ int_max x y
greater_is x y = grind (arith, ints, clamps)
