-- Sums of the front of a row: one number more, one block more, and the lanes that are added on their own.
use Rattle.std.proofs.Common.{◌≡◌, ℕ, ◌+◌, ◌*◌, ◌^◌, ◌<◌, ◌≤◌, zero, suc, ℤ, pos, ◌+ℤ◌, List, [], ◌∷◌, ◌++◌, length, take, drop, take-append-drop, replicate, refl, ap, sym, ◌∙◌, subst, FitsSigned, w64, to_z, of_z, to_z-of_z, add-zero, arith, rules}
use Rattle.std.specs.Prelude.{unsigned_abs}
use Rattle.std.specs.Int.{w128}
use Rattle.std.proofs.lemmas.Int.{ints}
use Rattle.std.proofs.lemmas.List.{take_more, take_all}
use Rattle.std.proofs.lemmas.Grind.{fold-append}
use Rattle.std.specs.List.{fold}
use Rattle.pooma_lanes.specs.Rows.{at_place}
use Rattle.pooma_lanes.specs.Blocks.{IsBlock, IsBlockOf}
use Rattle.pooma_lanes.specs.Totals.{sum_of}
use Rattle.pooma_lanes.proofs.Bits.{back, back_is, back-block, lane-fits}

onto : (a : ℤ) (xs : List ℤ) → fold (λ x y. x +ℤ y) a xs ≡ a +ℤ sum_of xs
onto a [] = omega (arith, ints)
onto a (x ∷ xs) = chained a x _ _ _ (onto (a +ℤ x) xs) (onto (pos 0 +ℤ x) xs)
  where
    chained : (a x s all tail : ℤ) → all ≡ (a +ℤ x) +ℤ s → tail ≡ (pos 0 +ℤ x) +ℤ s → all ≡ a +ℤ tail
    chained a x s all tail e d = omega (arith, ints, e, d)

-- the sum of two lists
pub sum_of-append : (xs ys : List ℤ) → sum_of (xs ++ ys) ≡ sum_of xs +ℤ sum_of ys
sum_of-append xs ys = fold-append (λ x y. x +ℤ y) (pos 0) xs ys ∙ onto (sum_of xs) ys

sum_of-one : (xs : List ℤ) (x : ℤ) → sum_of (xs ++ x ∷ []) ≡ sum_of xs +ℤ x
sum_of-one xs x = sum_of-append xs (x ∷ []) ∙ omega (arith, ints)

-- the sum of the first k + 1 numbers
pub sum_more : (xs : List ℤ) (k : ℕ) → k < length xs → sum_of (take (k + 1) xs) ≡ sum_of (take k xs) +ℤ at_place xs k
sum_more xs k lt = ap sum_of (take_more xs k (pos 0) lt) ∙ sum_of-one (take k xs) (at_place xs k)

-- numbers that stand in the row from a place on
more_by : (xs ls : List ℤ) (at n : ℕ) → at + n ≤ length xs → n ≤ length ls → ((k : ℕ) → k < n → at_place ls k ≡ at_place xs (at + k))
    → sum_of (take (at + n) xs) ≡ sum_of (take at xs) +ℤ sum_of (take n ls)
more_by xs ls at zero room long same = nothing _ _ (ap (λ n. sum_of (take n xs)) (add-zero at))
  where
    nothing : (x y : ℤ) → x ≡ y → x ≡ y +ℤ pos 0
    nothing x y e = omega (arith, ints, e)
more_by xs ls at (suc n) room long same =
    let here : at + suc n ≡ (at + n) + 1 = omega arith in
    let there : suc n ≡ n + 1 = omega arith in
    let first = more_by xs ls at n (omega (arith, room)) (omega (arith, long)) (λ k lt. same k (omega (arith, lt))) in
    let left = ap (λ m. sum_of (take m xs)) here ∙ sum_more xs (at + n) (omega (arith, room)) in
    let right = ap (λ m. sum_of (take m ls)) there ∙ sum_more ls n (omega (arith, long)) in
    let at_n = same n (omega arith) in
    joined _ _ _ _ _ _ _ left right first at_n
  where
    joined : (whole part front lanes lanes' x y : ℤ) → whole ≡ part +ℤ y → lanes' ≡ lanes +ℤ x → part ≡ front +ℤ lanes → x ≡ y → whole ≡ front +ℤ lanes'
    joined whole part front lanes lanes' x y a b c d = omega (arith, ints, a, b, c, d)

-- The first `at` numbers are summed: in the total, and in the lanes.
pub record IsSummed (numbers : List ℤ) (at : ℕ) (total : ℤ) (lanes : List ℤ) : Type 0 where
  pub within : at ≤ length numbers
  pub block : IsBlock lanes
  pub exact : sum_of (take at numbers) ≡ total +ℤ sum_of lanes
  pub bound : unsigned_abs (sum_of (take at numbers)) ≤ at * 2 ^ 63
  pub total_bound : unsigned_abs total ≤ at * 2 ^ 63

abs_add : (x y : ℤ) (m n : ℕ) → unsigned_abs x ≤ m → unsigned_abs y ≤ n → unsigned_abs (x +ℤ y) ≤ m + n
abs_add x y m n a b = omega (arith, ints, a, b)

abs_fits : (x : ℤ) → FitsSigned w64 x → unsigned_abs x ≤ 2 ^ 63
abs_fits x f = omega (arith, ints, f.sfits)

-- the first n of numbers that fit
pub front_bound : (ls : List ℤ) (n : ℕ) → n ≤ length ls → ((k : ℕ) → k < n → FitsSigned w64 (at_place ls k)) → unsigned_abs (sum_of (take n ls)) ≤ n * 2 ^ 63
front_bound ls zero le fits = omega arith
front_bound ls (suc n) le fits =
    let more = sum_more ls n (omega (arith, le)) in
    let there : suc n ≡ n + 1 = omega arith in
    let both = abs_add (sum_of (take n ls)) (at_place ls n) (n * 2 ^ 63) (2 ^ 63) (front_bound ls n (omega (arith, le)) (λ k lt. fits k (omega (arith, lt)))) (abs_fits (at_place ls n) (fits n (omega arith))) in
    let whole : unsigned_abs (sum_of (take (suc n) ls)) ≤ n * 2 ^ 63 + 2 ^ 63 = subst (λ z. unsigned_abs z ≤ n * 2 ^ 63 + 2 ^ 63) (sym (ap (λ m. sum_of (take m ls)) there ∙ more)) both in
    omega (arith, whole)

pub lanes_bound : (ls : List ℤ) → IsBlock ls → unsigned_abs (sum_of ls) ≤ 8 * 2 ^ 63
lanes_bound ls b =
    subst (λ l. unsigned_abs (sum_of l) ≤ 8 * 2 ^ 63) (take_all 8 ls (omega (arith, b.count))) (front_bound ls 8 (omega (arith, b.count)) (λ k lt. lane-fits ls b k lt))

-- a block that was loaded from the row, behind what is summed
pub block_more : (numbers : List ℤ) (at : ℕ) (ls : List ℤ) → at + 8 ≤ length numbers → IsBlockOf (λ k. at_place numbers k) at ls
    → sum_of (take (at + 8) numbers) ≡ sum_of (take at numbers) +ℤ sum_of ls
block_more numbers at ls room b =
    more_by numbers ls at 8 room (omega (arith, b.block.count)) b.numbers ∙ ap (λ l. sum_of (take at numbers) +ℤ sum_of l) (take_all 8 ls (omega (arith, b.block.count)))

-- the lanes' sums together
added : (a b r : List ℤ) (n : ℕ) → n ≤ length a → n ≤ length b → n ≤ length r → ((k : ℕ) → k < n → at_place r k ≡ at_place a k +ℤ at_place b k)
    → sum_of (take n r) ≡ sum_of (take n a) +ℤ sum_of (take n b)
added a b r zero la lb lr same = omega (arith, ints)
added a b r (suc n) la lb lr same =
    let there : suc n ≡ n + 1 = omega arith in
    let more : (ls : List ℤ) → suc n ≤ length ls → sum_of (take (suc n) ls) ≡ sum_of (take n ls) +ℤ at_place ls n = λ ls le. ap (λ m. sum_of (take m ls)) there ∙ sum_more ls n (omega (arith, le)) in
    six (sum_of (take (suc n) r)) (sum_of (take (suc n) a)) (sum_of (take (suc n) b)) (sum_of (take n r)) (sum_of (take n a)) (sum_of (take n b)) (at_place a n) (at_place b n) (at_place r n) (more r lr) (more a la) (more b lb) (added a b r n (omega (arith, la)) (omega (arith, lb)) (omega (arith, lr)) (λ k lt. same k (omega (arith, lt)))) (same n (omega arith))
  where
    six : (r' a' b' r a b x y z : ℤ) → r' ≡ r +ℤ z → a' ≡ a +ℤ x → b' ≡ b +ℤ y → r ≡ a +ℤ b → z ≡ x +ℤ y → r' ≡ a' +ℤ b'
    six r' a' b' r a b x y z e f g h i = omega (arith, ints, e, f, g, h, i)

pub lanes_added : (a b r : List ℤ) → IsBlock a → IsBlock b → IsBlock r → ((k : ℕ) → k < 8 → at_place r k ≡ at_place a k +ℤ at_place b k) → sum_of r ≡ sum_of a +ℤ sum_of b
lanes_added a b r ba bb br same =
    let whole : (ls : List ℤ) → IsBlock ls → take 8 ls ≡ ls = λ ls c. take_all 8 ls (omega (arith, c.count)) in
    ap sum_of (sym (whole r br)) ∙ added a b r 8 (omega (arith, ba.count)) (omega (arith, bb.count)) (omega (arith, br.count)) same
    ∙ (λ i. sum_of (whole a ba i) +ℤ sum_of (whole b bb i))

-- a block of the row is added, to the lanes or to the total
pub step : (numbers : List ℤ) (at : ℕ) (total total' : ℤ) (sums block sums' : List ℤ) → IsSummed numbers at total sums → at + 8 ≤ length numbers → IsBlockOf (λ k. at_place numbers k) at block
    → IsBlock sums' → total' +ℤ sum_of sums' ≡ (total +ℤ sum_of sums) +ℤ sum_of block → unsigned_abs total' ≤ unsigned_abs total + 2 ^ 66 → IsSummed numbers (at + 8) total' sums'
step numbers at total total' sums block sums' s room b sums_block exact bound =
    let behind = block_more numbers at block room b in
    let all = abs_add (sum_of (take at numbers)) (sum_of block) (at * 2 ^ 63) (8 * 2 ^ 63) s.bound (lanes_bound block b.block) in
    let whole : unsigned_abs (sum_of (take (at + 8) numbers)) ≤ at * 2 ^ 63 + 8 * 2 ^ 63 = subst (λ z. unsigned_abs z ≤ at * 2 ^ 63 + 8 * 2 ^ 63) (sym behind) all in
    record {
      within = room;
      block = sums_block;
      exact = behind ∙ ap (λ z. z +ℤ sum_of block) s.exact ∙ sym exact;
      bound = omega (arith, whole);
      total_bound = omega (arith, s.total_bound, bound);
    }

-- nothing is summed
pub nothing_summed : (numbers : List ℤ) → IsSummed numbers 0 (pos 0) (replicate 8 (pos 0))
nothing_summed numbers = record { within = omega arith; block = record { count = refl; fit = search rules }; exact = refl; bound = omega arith; total_bound = omega arith }

-- the front and the rest of a row
pub front_and_rest : (numbers : List ℤ) (at : ℕ) → sum_of (take at numbers) +ℤ sum_of (drop at numbers) ≡ sum_of numbers
front_and_rest numbers at = sym (sum_of-append (take at numbers) (drop at numbers)) ∙ ap sum_of (take-append-drop at numbers)

-- a sum of 128 bits of two numbers that are far from the ends
pub wide_sum : (x y : ℤ) → unsigned_abs x ≤ 2 ^ 100 → unsigned_abs y ≤ 2 ^ 100 → to_z w128 (of_z w128 (to_z w128 (of_z w128 x) +ℤ to_z w128 (of_z w128 y))) ≡ x +ℤ y
wide_sum x y a b =
    let fx : FitsSigned w128 x = omega (arith, ints, a) in
    let fy : FitsSigned w128 y = omega (arith, ints, b) in
    let both : FitsSigned w128 (x +ℤ y) = omega (arith, ints, a, b) in
    (λ i. to_z w128 (of_z w128 (to_z-of_z fx i +ℤ to_z-of_z fy i))) ∙ to_z-of_z both

-- the lanes' sums with a block more
pub lanes_more : (total : ℤ) (sums block more : List ℤ) → IsBlock sums → IsBlock block → IsBlock more → FitsSigned w128 total
    → ((k : ℕ) → k < 8 → at_place more k ≡ at_place (back sums) k +ℤ at_place (back block) k)
    → to_z w128 (of_z w128 total) +ℤ sum_of (back more) ≡ (total +ℤ sum_of sums) +ℤ sum_of block
lanes_more total sums block more a b m fits same =
    let lanes = lanes_added (back sums) (back block) more (back-block sums a) (back-block block b) m same in
    (λ i. to_z-of_z fits i +ℤ sum_of (back_is more m.fit i)) ∙ ap (λ z. total +ℤ z) (lanes ∙ (λ i. sum_of (back_is sums a.fit i) +ℤ sum_of (back_is block b.fit i))) ∙ grouped total (sum_of sums) (sum_of block)
  where
    grouped : (x y z : ℤ) → x +ℤ (y +ℤ z) ≡ (x +ℤ y) +ℤ z
    grouped x y z = omega (arith, ints)
