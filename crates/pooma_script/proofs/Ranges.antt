-- How many numbers a range has.
use Rattle.std.proofs.Common.{◌≡◌, ◌≢◌, ℕ, zero, suc, ◌+◌, ◌*◌, ◌/◌, ◌<◌, ◌≤◌, ℤ, pos, negsuc, neg_ℤ, ◌+ℤ◌, ◌-ℤ◌, ◌*ℤ◌, ◌≤ℤ◌, ◌<ℤ◌, refl, sym, ap, ◌∙◌, arith}
use Rattle.std.proofs.Math.IntN.{negsuc-*ℤ-pos, pos-*ℤ-pos}
use Rattle.std.proofs.Math.Nat.{div-mul-le_self, lt-div-mul-add, lt_of_mul-lt-mul_right, mul-le-mul_right, mul_comm, suc-mul, zero-div}
use Rattle.std.proofs.lemmas.Int.{ints}
use Rattle.std.specs.Prelude.{◌↔◌, unsigned_abs}
use Rattle.pooma_domain.specs.Bounds.{IsNotPast}
use Rattle.pooma_domain.specs.Cells.{count_of}
use Rattle.pooma_script.specs.Views.{count_to, places_on}
use Rattle.pooma_script.proofs.Lengths.{count_of_below_zero, count_of_from_zero}

by_sign : (z : ℤ) → 0 < count_of z → pos (count_of z) ≡ z
by_sign (pos n) h = refl
by_sign (negsuc n) h = absurd (omega arith)

-- k steps to a place go no further than the way
pub steps_within : (way : ℤ) (step k : ℕ) → 0 < step → k < places_on way step → pos (k * step) ≤ℤ way
steps_within way step k some below =
    let n = places_on way step in
    let w = count_of (way +ℤ pos step) in
    let all : n * step ≤ w = div-mul-le_self w step in
    let more : suc k * step ≤ n * step = mul-le-mul_right step (omega arith) in
    let next : suc k * step ≡ k * step + step = suc-mul k step in
    let is : pos w ≡ way +ℤ pos step = by_sign (way +ℤ pos step) (omega (arith, all, more, next)) in
    omega (arith, ints, all, more, next, is)

-- steps that go no further than the way lead to a place
pub places_within : (way : ℤ) (step k : ℕ) → 0 < step → pos (k * step) ≤ℤ way → k < places_on way step
places_within way step k some far =
    let n = places_on way step in
    let w = count_of (way +ℤ pos step) in
    let is : pos w ≡ way +ℤ pos step = count_of_from_zero (way +ℤ pos step) (omega (arith, ints, far)) in
    let less : w < n * step + step = lt-div-mul-add some in
    let product : k * step < n * step = omega (arith, ints, is, less, far) in
    lt_of_mul-lt-mul_right step product

-- steps up, and steps down
pub up_by : (m k : ℕ) → pos m *ℤ pos k ≡ pos (k * m)
up_by m k = pos-*ℤ-pos m k ∙ ap pos (mul_comm m k)

pub down_by : (m k : ℕ) → negsuc m *ℤ pos k ≡ neg_ℤ (pos (k * suc m))
down_by m k = negsuc-*ℤ-pos m k ∙ ap (λ n. neg_ℤ (pos n)) (mul_comm (suc m) k)

-- a count by the sign of its stride
pub count_up : (first last stride : ℤ) → pos 0 <ℤ stride → count_to first last stride ≡ places_on (last -ℤ first) (unsigned_abs stride)
count_up first last (pos zero) h = absurd (omega (arith, ints, h))
count_up first last (pos (suc m)) h = refl
count_up first last (negsuc m) h = absurd (omega (arith, ints, h))

pub count_down : (first last stride : ℤ) → stride <ℤ pos 0 → count_to first last stride ≡ places_on (first -ℤ last) (unsigned_abs stride)
count_down first last (pos m) h = absurd (omega (arith, ints, h))
count_down first last (negsuc m) h = refl

-- how many places there are where the way is long enough, and where it is not
pub places_ahead : (way : ℤ) (step n : ℕ) → pos n ≡ way +ℤ pos step → n / step ≡ places_on way step
places_ahead way step n is = ap (λ z. count_of z / step) is

pub places_behind : (way : ℤ) (step : ℕ) → 0 < step → (way +ℤ pos step) <ℤ pos 0 → 0 ≡ places_on way step
places_behind way step some h =
    let none : count_of (way +ℤ pos step) ≡ 0 = count_of_below_zero (way +ℤ pos step) (omega (arith, ints, h)) in
    sym (ap (λ n. n / step) none ∙ zero-div step)

-- A range has a k-th number, counted from 0, exactly where it has a stride and k strides from the first do not pass the last.
pub numbers_of_range : (first last stride : ℤ) (k : ℕ)
    → (k < count_to first last stride) ↔ ((stride ≢ pos 0) × IsNotPast stride last (first +ℤ stride *ℤ pos k))
numbers_of_range first last (pos zero) k = (λ h. absurd (omega arith), λ h. absurd (h.0 refl))
numbers_of_range first last (pos (suc m)) k = (
  λ h. let far : pos (k * suc m) ≤ℤ (last -ℤ first) = steps_within (last -ℤ first) (suc m) k (omega arith) h in
      ((λ same. cc), (λ up. omega (arith, ints, far, up_by (suc m) k), λ down. absurd (omega (arith, ints, down)))),
  λ h. let near : (first +ℤ pos (suc m) *ℤ pos k) ≤ℤ last = h.1.0 (omega (arith, ints)) in
      places_within (last -ℤ first) (suc m) k (omega arith) (omega (arith, ints, near, up_by (suc m) k)),
)
numbers_of_range first last (negsuc m) k = (
  λ h. let far : pos (k * suc m) ≤ℤ (first -ℤ last) = steps_within (first -ℤ last) (suc m) k (omega arith) h in
      ((λ same. cc), (λ up. absurd (omega (arith, ints, up)), λ down. omega (arith, ints, far, down_by m k))),
  λ h. let near : last ≤ℤ (first +ℤ negsuc m *ℤ pos k) = h.1.1 (omega (arith, ints)) in
      places_within (first -ℤ last) (suc m) k (omega arith) (omega (arith, ints, near, down_by m k)),
)
