-- The places of rows.
use Rattle.std.proofs.Common.{arith}
use Rattle.std.proofs.lemmas.Int.{ints}
use Rattle.std.proofs.Math.Nat.{mul-le-mul_left}
use Rattle.std.proofs.Math.IntN.{pos-*ℤ-pos, negsuc-*ℤ-pos}
use Rattle.std.specs.Prelude.{◌≡◌, ◌≢◌, ℕ, zero, suc, ◌+◌, ◌*◌, ◌<◌, ◌≤◌, ℤ, pos, negsuc, neg_ℤ, ◌+ℤ◌, ◌*ℤ◌}
use Rattle.pooma_compress.specs.Rows.{row_place}

pub first_place : (first : ℕ) (stride : ℤ) → row_place first stride 0 ≡ pos first
first_place first (pos s) = let product : pos s *ℤ pos 0 ≡ pos (s * 0) = pos-*ℤ-pos s 0 in omega (arith, ints, product)
first_place first (negsuc s) = let product : negsuc s *ℤ pos 0 ≡ neg_ℤ (pos (suc s * 0)) = negsuc-*ℤ-pos s 0 in omega (arith, ints, product)

pub place_after : (first : ℕ) (stride : ℤ) (k : ℕ) → row_place first stride (k + 1) ≡ row_place first stride k +ℤ stride
place_after first (pos s) k =
    let here : pos s *ℤ pos k ≡ pos (s * k) = pos-*ℤ-pos s k in
    let there : pos s *ℤ pos (k + 1) ≡ pos (s * (k + 1)) = pos-*ℤ-pos s (k + 1) in
    omega (arith, ints, here, there)
place_after first (negsuc s) k =
    let here : negsuc s *ℤ pos k ≡ neg_ℤ (pos (suc s * k)) = negsuc-*ℤ-pos s k in
    let there : negsuc s *ℤ pos (k + 1) ≡ neg_ℤ (pos (suc s * (k + 1))) = negsuc-*ℤ-pos s (k + 1) in
    omega (arith, ints, here, there)

-- a row of stride 1 goes on place by place
pub place_in_line : (first k : ℕ) → row_place first (pos 1) k ≡ pos (first + k)
place_in_line first k = let product : pos 1 *ℤ pos k ≡ pos (1 * k) = pos-*ℤ-pos 1 k in omega (arith, ints, product)

-- an earlier place of a row is another one
pub places_differ : (first : ℕ) (stride : ℤ) (i k : ℕ) → stride ≢ pos 0 → i < k → row_place first stride i ≢ row_place first stride k
places_differ first (pos zero) i k apart below same = absurd (apart (omega (arith, ints)))
places_differ first (pos (suc s)) i k apart below same =
    let here : pos (suc s) *ℤ pos i ≡ pos (suc s * i) = pos-*ℤ-pos (suc s) i in
    let there : pos (suc s) *ℤ pos k ≡ pos (suc s * k) = pos-*ℤ-pos (suc s) k in
    let is : suc s * i ≡ suc s * k = omega (arith, ints, same, here, there) in
    omega (arith, is, mul-le-mul_left (suc s) (let less : suc i ≤ k = below in less))
places_differ first (negsuc s) i k apart below same =
    let here : negsuc s *ℤ pos i ≡ neg_ℤ (pos (suc s * i)) = negsuc-*ℤ-pos s i in
    let there : negsuc s *ℤ pos k ≡ neg_ℤ (pos (suc s * k)) = negsuc-*ℤ-pos s k in
    let is : suc s * i ≡ suc s * k = omega (arith, ints, same, here, there) in
    omega (arith, is, mul-le-mul_left (suc s) (let less : suc i ≤ k = below in less))
