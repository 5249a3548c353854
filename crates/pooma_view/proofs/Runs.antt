-- Numbers at equal steps, in ascending order and turned round.
use Rattle.std.proofs.Common.{refl, sym, ap, ◌∙◌, subst, arith, to_z, of_z, Fits}
use Rattle.std.proofs.lemmas.Int.{ints, clamps, to_z-of_z}
use Rattle.std.proofs.Math.Nat.{mul-le-mul_left}
use Rattle.std.proofs.Math.IntN.{pos-*ℤ-pos, negsuc-*ℤ-pos, nat_abs}
use Rattle.std.specs.Prelude.{◌≡◌, ◌≢◌, ◌↔◌, ℕ, zero, suc, ◌+◌, ◌-◌, ◌*◌, ◌^◌, ◌<◌, ◌≤◌, ℤ, pos, negsuc, neg_ℤ, ◌+ℤ◌, ◌-ℤ◌, ◌*ℤ◌, ◌≤ℤ◌, FitsSigned}
use Rattle.std.specs.Int.{w32, w64, int_min}
use Rattle.pooma_domain.proofs.Striding.{fits_between}
use Rattle.pooma_view.specs.Steps.{IsStepping, IsStriding}

-- where the stride goes up, the steps are those of the stride
pub stepping_up : (first stride z : ℤ) (step count : ℕ) → pos step ≡ stride → IsStepping first step count z ↔ IsStriding first stride count z
stepping_up first stride z step count e = (
  λ h.
      let product : stride *ℤ pos h.0 ≡ pos (step * h.0) = ap (λ s. s *ℤ pos h.0) (sym e) ∙ pos-*ℤ-pos step h.0 in
      (h.0, h.1, rw product h.2),
  λ h.
      let product : stride *ℤ pos h.0 ≡ pos (step * h.0) = ap (λ s. s *ℤ pos h.0) (sym e) ∙ pos-*ℤ-pos step h.0 in
      (h.0, h.1, h.2 ∙ ap (λ v. first +ℤ v) product),
)

-- where it goes down, they are counted from the last one
downward : (stride : ℤ) (step k : ℕ) → pos step ≡ neg_ℤ stride → 0 < step → stride *ℤ pos k ≡ neg_ℤ (pos (step * k))
downward (pos s) step k e some = absurd (omega (arith, ints, e, some))
downward (negsuc s) step k e some =
    let same : step ≡ suc s = omega (arith, ints, e) in
    negsuc-*ℤ-pos s k ∙ ap (λ n. neg_ℤ (pos (n * k))) (sym same)

turn_round : (step count k : ℕ) → k < count → step * (count - 1) ≡ step * (count - 1 - k) + step * k
turn_round step count k h = ap (λ n. step * n) (let e : count - 1 ≡ (count - 1 - k) + k = omega arith in e) ∙ omega arith

pub stepping_down : (first stride start z : ℤ) (step count : ℕ) → pos step ≡ neg_ℤ stride → 0 < step → start ≡ first +ℤ stride *ℤ pos (count - 1) → IsStepping start step count z ↔ IsStriding first stride count z
stepping_down first stride start z step count e some is = (
  λ h.
      let end : stride *ℤ pos (count - 1) ≡ neg_ℤ (pos (step * (count - 1))) = downward stride step (count - 1) e some in
      let here : stride *ℤ pos (count - 1 - h.0) ≡ neg_ℤ (pos (step * (count - 1 - h.0))) = downward stride step (count - 1 - h.0) e some in
      let below : h.0 < count = h.1 in
      let z_is : z ≡ start +ℤ pos (step * h.0) = h.2 in
      (count - 1 - h.0, omega (arith, below), omega (arith, ints, end, here, z_is, is, turn_round step count h.0 below)),
  λ h.
      let end : stride *ℤ pos (count - 1) ≡ neg_ℤ (pos (step * (count - 1))) = downward stride step (count - 1) e some in
      let here : stride *ℤ pos h.0 ≡ neg_ℤ (pos (step * h.0)) = downward stride step h.0 e some in
      let below : h.0 < count = h.1 in
      let z_is : z ≡ first +ℤ stride *ℤ pos h.0 = h.2 in
      (count - 1 - h.0, omega (arith, below), omega (arith, ints, end, here, z_is, is, turn_round step count h.0 below)),
)

-- the negative numbers, in ascending order again
pub stepping_mirrored : (start z : ℤ) (step count : ℕ) → IsStepping (neg_ℤ (start +ℤ pos (step * (count - 1)))) step count z ↔ IsStepping start step count (neg_ℤ z)
stepping_mirrored start z step count = (
  λ h.
      let below : h.0 < count = h.1 in
      let z_is : z ≡ neg_ℤ (start +ℤ pos (step * (count - 1))) +ℤ pos (step * h.0) = h.2 in
      (count - 1 - h.0, omega (arith, below), omega (arith, ints, z_is, turn_round step count h.0 below)),
  λ h.
      let below : h.0 < count = h.1 in
      let z_is : neg_ℤ z ≡ start +ℤ pos (step * h.0) = h.2 in
      (count - 1 - h.0, omega (arith, below), omega (arith, ints, z_is, turn_round step count h.0 below)),
)

-- what is kept of a run of numbers
pub record IsRun (start : ℤ) (step count : ℕ) : Type 0 where
  pub moves : 0 < step
  pub small_step : step < 2 ^ 32
  pub some : 0 < count
  pub low : neg_ℤ (pos 2147483648) ≤ℤ start
  pub high : (start +ℤ pos (step * (count - 1))) ≤ℤ pos 2147483648

-- the numbers at a stride begin, in ascending order, at the first or at the last one
pub ascending : (first stride last : ℤ) (count : ℕ) → stride ≢ pos 0 → 0 < count → FitsSigned w32 first → FitsSigned w32 stride → FitsSigned w32 last → last ≡ first +ℤ stride *ℤ pos (count - 1) → IsRun (int_min first last) (nat_abs stride) count × ((z : ℤ) → IsStepping (int_min first last) (nat_abs stride) count z ↔ IsStriding first stride count z)
ascending first (pos zero) last count moves some f g h is = absurd (moves refl)
ascending first (pos (suc s)) last count moves some f g h is =
    let end : pos (suc s) *ℤ pos (count - 1) ≡ pos (suc s * (count - 1)) = pos-*ℤ-pos (suc s) (count - 1) in
    let least : int_min first last ≡ first = omega (arith, ints, clamps, end, is) in
    rw least (
      record {
        moves = omega arith;
        small_step = omega (arith, ints, g);
        some = some;
        low = omega (arith, ints, f);
        high = omega (arith, ints, h, is, end);
      },
      λ z. stepping_up first (pos (suc s)) z (suc s) count refl,
    )
ascending first (negsuc s) last count moves some f g h is =
    let end : negsuc s *ℤ pos (count - 1) ≡ neg_ℤ (pos (suc s * (count - 1))) = negsuc-*ℤ-pos s (count - 1) in
    let least : int_min first last ≡ last = omega (arith, ints, clamps, end, is) in
    rw least (
      record {
        moves = omega arith;
        small_step = omega (arith, ints, g);
        some = some;
        low = omega (arith, ints, h);
        high = omega (arith, ints, f, is, end);
      },
      λ z. stepping_down first (negsuc s) last z (suc s) count refl (omega arith) is,
    )

-- the same from the numbers as the code passes them on
pub kept : (first stride last least from : ℤ) (count step u n : ℕ) → stride ≢ pos 0 → 0 < count → FitsSigned w32 first → FitsSigned w32 stride → FitsSigned w32 last → last ≡ first +ℤ stride *ℤ pos (count - 1) → least ≡ int_min (to_z w32 (of_z w32 first)) (to_z w32 (of_z w32 last)) → from ≡ to_z w32 (of_z w32 least) → u ≡ nat_abs (to_z w32 (of_z w32 stride)) → step ≡ u → n ≡ count → IsRun (to_z w64 (of_z w64 from)) step n × ((z : ℤ) → IsStepping (to_z w64 (of_z w64 from)) step n z ↔ IsStriding first stride count z)
kept first stride last least from count step u n moves some f g h is el ef eu es en =
    let least_is : least ≡ int_min first last = simp to_z-of_z at el in
    let least_fits : FitsSigned w32 least = rw least_is (omega (arith, ints, clamps, f, h)) in
    let from_is : from ≡ int_min first last = ef ∙ to_z-of_z w32 least least_fits ∙ least_is in
    let wide : FitsSigned w64 from = rw from_is (omega (arith, ints, clamps, f, h)) in
    let start : to_z w64 (of_z w64 from) ≡ int_min first last = to_z-of_z w64 from wide ∙ from_is in
    let step_is : step ≡ nat_abs stride = es ∙ (simp to_z-of_z at eu) in
    rw (start, step_is, en) (ascending first stride last count moves some f g h is)

-- a number of both stands at places that solve the equation
pub places_solve : (u v z : ℤ) (a b d i j : ℕ) → pos d ≡ v -ℤ u → z ≡ u +ℤ pos (a * i) → z ≡ v +ℤ pos (b * j) → a * i ≡ b * j + d
places_solve u v z a b d i j ed e f = omega (arith, ints, ed, e, f)

-- how far a run begins after another one, as the code counts it
abbrev pub distance : ℤ → ℤ → ℕ
distance u v = nat_abs (to_z w64 (of_z w64 (to_z w64 (of_z w64 v) -ℤ to_z w64 (of_z w64 u))))

pub distance_is : (u v : ℤ) (m n : ℕ) → neg_ℤ (pos 2147483648) ≤ℤ u → (u +ℤ pos m) ≤ℤ pos 2147483648 → neg_ℤ (pos 2147483648) ≤ℤ v → (v +ℤ pos n) ≤ℤ pos 2147483648 → u ≤ℤ v → pos (distance u v) ≡ v -ℤ u
distance_is u v m n low_u high_u low_v high_v h = omega (arith, ints)

pub solved : (u v z : ℤ) (a b m n i j : ℕ) → neg_ℤ (pos 2147483648) ≤ℤ u → (u +ℤ pos m) ≤ℤ pos 2147483648 → neg_ℤ (pos 2147483648) ≤ℤ v → (v +ℤ pos n) ≤ℤ pos 2147483648 → u ≤ℤ v → z ≡ u +ℤ pos (a * i) → z ≡ v +ℤ pos (b * j) → a * i ≡ b * j + distance u v
solved u v z a b m n i j low_u high_u low_v high_v h e f =
    places_solve u v z a b (distance u v) i j (distance_is u v m n low_u high_u low_v high_v h) e f

-- a number of a run, as the code counts it
pub record IsNumber (v : ℤ) (b q : ℕ) : Type 0 where
  pub product : Fits w64 (b * q)
  pub cast : FitsSigned w64 (pos (b * q))
  pub sum : FitsSigned w64 (to_z w64 (of_z w64 v) +ℤ to_z w64 (b * q))
  pub value : to_z w64 (of_z w64 (to_z w64 (of_z w64 v) +ℤ to_z w64 (b * q))) ≡ v +ℤ pos (b * q)

pub is_number : (v : ℤ) (b n q : ℕ) → neg_ℤ (pos 2147483648) ≤ℤ v → (v +ℤ pos (b * (n - 1))) ≤ℤ pos 2147483648 → q < n → IsNumber v b q
is_number v b n q low high below =
    let product : b * q ≤ b * (n - 1) = mul-le-mul_left b (let h : q ≤ n - 1 = omega arith in h) in
    let limit : b * q ≤ 4294967296 = omega (arith, ints, product) in
    record {
      product = omega (arith, limit);
      cast = omega (arith, ints, limit);
      sum = omega (arith, ints, limit);
      value = omega (arith, ints, limit);
    }

-- where the least places solve the equation, the number at them is on both runs, and no number of both is less
pub on_first : (u v x : ℤ) (a b p q d : ℕ) → pos d ≡ v -ℤ u → a * p ≡ b * q + d → x ≡ v +ℤ pos (b * q) → x ≡ u +ℤ pos (a * p)
on_first u v x a b p q d ed e f = omega (arith, ints, ed, e, f)

pub no_less : (v x z : ℤ) (b q j : ℕ) → x ≡ v +ℤ pos (b * q) → z ≡ v +ℤ pos (b * j) → q ≤ j → x ≤ℤ z
no_less v x z b q j e f h = let rounds : b * q ≤ b * j = mul-le-mul_left b h in omega (arith, ints, e, f, rounds)

pub past : (i n p : ℕ) → i < n → n ≤ p → p ≤ i → ⊥
past i n p below above h = omega arith

-- each number of a strided axis fits
pub striding_fits : (first stride z : ℤ) (count : ℕ) → FitsSigned w32 first → FitsSigned w32 (first +ℤ stride *ℤ pos (count - 1)) → IsStriding first stride count z → FitsSigned w32 z
striding_fits first stride z count f g h =
    let below : h.0 < count = h.1 in
    subst (FitsSigned w32) (sym h.2) (fits_between first stride h.0 (count - 1) (omega (arith, below)) f g)
