-- From which numbers of an axis the numbers beside it take their values.
use Rattle.std.proofs.Common.{refl, sym, ap, ◌∙◌, arith}
use Rattle.std.proofs.Math.Nat.{add-mod_right, mod-eq_of_lt}
use Rattle.std.proofs.lemmas.Int.{clamps, ints, int_rem_euclid_is}
use Rattle.std.specs.Int.{int_max, int_min, int_rem_euclid}
use Rattle.std.specs.Prelude.{◌≡◌, ◌↔◌, ℕ, ◌+◌, ◌*◌, ◌<◌, ℤ, pos, negsuc, ◌+ℤ◌, ◌-ℤ◌, ◌≤ℤ◌, ◌<ℤ◌, int_lt, Bool, true, false}
use Rattle.pooma_domain.specs.Cells.{Interval, axis_length, count_of}
use Rattle.pooma_field.specs.declared.updaters.Updater.{Updater}
use Rattle.pooma_field.specs.declared.updaters.Updater.TheVariants.{Periodic}
use Rattle.pooma_field.specs.Updaters.{face, mirrored, wrapped}
use Rattle.pooma_fill.specs.Boxes.{IsBesideAxis, IsWithin}
use Rattle.pooma_fill.specs.Filling.{number_from}

less : (a b : ℤ) → a <ℤ b → int_lt a b ≡ true
less a b h = grind (arith, ints)

not_less : (a b : ℤ) → b ≤ℤ a → int_lt a b ≡ false
not_less a b h = grind (arith, ints)

-- an axis that has a number has as many as its ends say
pub long : (axis : Interval) → 0 < axis_length axis → pos (axis_length axis) ≡ (axis.last -ℤ axis.first) +ℤ pos 1
long axis some = counts ((axis.last -ℤ axis.first) +ℤ pos 1) some
  where
    counts : (z : ℤ) → 0 < count_of z → pos (count_of z) ≡ z
    counts (pos n) h = refl
    counts (negsuc n) h = absurd (omega (arith, h))

pub some_beside : (high : Bool) (axis : Interval) (x : ℤ) → IsBesideAxis high axis x → 0 < axis_length axis
some_beside false axis x h = omega (arith, ints, h.0, h.1)
some_beside true axis x h = omega (arith, ints, h.0, h.1)

natural : (z : ℤ) → pos 0 ≤ℤ z → (m : ℕ) × (z ≡ pos m)
natural (pos m) h = (m, refl)
natural (negsuc m) h = absurd (omega (arith, ints, h))

remainder : (z : ℤ) (n k m : ℕ) → 0 < n → z +ℤ pos (k * n) ≡ pos m → m < n → int_rem_euclid z (pos n) ≡ pos m
remainder z n k m some is small = int_rem_euclid_is z (pos n) n k m some refl is ∙ ap pos (mod-eq_of_lt small)

remainder_above : (m n : ℕ) → 0 < n → m < n → int_rem_euclid (pos (m + n)) (pos n) ≡ pos m
remainder_above m n some small = ap pos (add-mod_right m n ∙ mod-eq_of_lt small)

pub wrapped_below : (axis : Interval) (x : ℤ) → IsBesideAxis false axis x → wrapped axis x ≡ x +ℤ pos (axis_length axis)
wrapped_below axis x h =
    let some : 0 < axis_length axis = some_beside false axis x h in
    let n = axis_length axis in
    let found : (m : ℕ) × (((x -ℤ axis.first) +ℤ pos n) ≡ pos m) = natural ((x -ℤ axis.first) +ℤ pos n) (omega (arith, ints, h.1)) in
    let one : 1 * n ≡ n = omega arith in
    let rem : int_rem_euclid (x -ℤ axis.first) (pos n) ≡ pos found.0 = remainder (x -ℤ axis.first) n 1 found.0 some (ap (λ (k : ℕ). (x -ℤ axis.first) +ℤ pos k) one ∙ found.1) (omega (arith, ints, h.0, found.1)) in
    omega (arith, ints, rem, found.1)

pub wrapped_above : (axis : Interval) (x : ℤ) → IsBesideAxis true axis x → wrapped axis x ≡ x -ℤ pos (axis_length axis)
wrapped_above axis x h =
    let some : 0 < axis_length axis = some_beside true axis x h in
    let n = axis_length axis in
    let whole : pos n ≡ (axis.last -ℤ axis.first) +ℤ pos 1 = long axis some in
    let found : (m : ℕ) × (((x -ℤ axis.first) -ℤ pos n) ≡ pos m) = natural ((x -ℤ axis.first) -ℤ pos n) (omega (arith, ints, h.0, whole)) in
    let small : found.0 < n = omega (arith, ints, h.1, found.1, whole) in
    let sum : (x -ℤ axis.first) ≡ pos (found.0 + n) = omega (arith, ints, found.1) in
    let rem : int_rem_euclid (x -ℤ axis.first) (pos n) ≡ pos found.0 = ap (λ (z : ℤ). int_rem_euclid z (pos n)) sum ∙ remainder_above found.0 n some small in
    omega (arith, ints, rem, found.1)

pub mirrored_below : (axis : Interval) (x : ℤ) → IsBesideAxis false axis x → mirrored axis x ≡ ((axis.first +ℤ axis.first) -ℤ pos 1) -ℤ x
mirrored_below axis x h = rw (less x axis.first h.0) refl

pub mirrored_above : (axis : Interval) (x : ℤ) → IsBesideAxis true axis x → mirrored axis x ≡ ((axis.last +ℤ axis.last) +ℤ pos 1) -ℤ x
mirrored_above axis x h =
    let whole : pos (axis_length axis) ≡ (axis.last -ℤ axis.first) +ℤ pos 1 = long axis (some_beside true axis x h) in
    rw (not_less x axis.first (omega (arith, ints, h.0, whole, some_beside true axis x h))) refl

pub face_below : (axis : Interval) (x : ℤ) → IsBesideAxis false axis x → face axis x ≡ axis.first
face_below axis x h = rw (less x axis.first h.0) refl

pub face_above : (axis : Interval) (x : ℤ) → IsBesideAxis true axis x → face axis x ≡ axis.last
face_above axis x h =
    let whole : pos (axis_length axis) ≡ (axis.last -ℤ axis.first) +ℤ pos 1 = long axis (some_beside true axis x h) in
    rw (not_less x axis.first (omega (arith, ints, h.0, whole, some_beside true axis x h))) refl

-- ---- between which numbers those are whose source is one of these

abbrev pub AreEndsOf : Updater → Interval → ℤ → ℤ → ℤ → ℤ → ℤ → Type 0
AreEndsOf u axis low high first last x = IsWithin low high x ↔ IsWithin first last (number_from u axis x)

pub shifted_above : (axis : Interval) (by low high first last x : ℤ) → by ≡ (axis.last -ℤ axis.first) +ℤ pos 1 → low ≡ first +ℤ by → high ≡ last +ℤ by → IsBesideAxis true axis x → AreEndsOf Periodic axis low high first last x
shifted_above axis by low high first last x e f g beside =
    let is : wrapped axis x ≡ x -ℤ pos (axis_length axis) = wrapped_above axis x beside in
    let whole : pos (axis_length axis) ≡ (axis.last -ℤ axis.first) +ℤ pos 1 = long axis (some_beside true axis x beside) in (
      λ h. record { low = omega (arith, ints, is, whole, e, f, h.low); high = omega (arith, ints, is, whole, e, g, h.high) },
      λ h. record { low = omega (arith, ints, is, whole, e, f, h.low); high = omega (arith, ints, is, whole, e, g, h.high) },
    )

pub shifted_below : (axis : Interval) (by low high first last x : ℤ) → by ≡ pos 0 -ℤ ((axis.last -ℤ axis.first) +ℤ pos 1) → low ≡ first +ℤ by → high ≡ last +ℤ by → IsBesideAxis false axis x → AreEndsOf Periodic axis low high first last x
shifted_below axis by low high first last x e f g beside =
    let is : wrapped axis x ≡ x +ℤ pos (axis_length axis) = wrapped_below axis x beside in
    let whole : pos (axis_length axis) ≡ (axis.last -ℤ axis.first) +ℤ pos 1 = long axis (some_beside false axis x beside) in (
      λ h. record { low = omega (arith, ints, is, whole, e, f, h.low); high = omega (arith, ints, is, whole, e, g, h.high) },
      λ h. record { low = omega (arith, ints, is, whole, e, f, h.low); high = omega (arith, ints, is, whole, e, g, h.high) },
    )

turned_ends : (axis : Interval) (sum low high first last x : ℤ) → mirrored axis x ≡ sum -ℤ x → low ≡ sum -ℤ last → high ≡ sum -ℤ first → IsWithin low high x ↔ IsWithin first last (mirrored axis x)
turned_ends axis sum low high first last x is f g = (
  λ h. record { low = omega (arith, ints, is, g, h.high); high = omega (arith, ints, is, f, h.low) },
  λ h. record { low = omega (arith, ints, is, f, h.high); high = omega (arith, ints, is, g, h.low) },
)

pub turned_above : (axis : Interval) (sum low high first last x : ℤ) → sum ≡ (axis.last +ℤ axis.last) +ℤ pos 1 → low ≡ sum -ℤ last → high ≡ sum -ℤ first → IsBesideAxis true axis x → IsWithin low high x ↔ IsWithin first last (mirrored axis x)
turned_above axis sum low high first last x e f g beside =
    turned_ends axis sum low high first last x (mirrored_above axis x beside ∙ ap (λ (s : ℤ). s -ℤ x) (sym e)) f g

pub turned_below : (axis : Interval) (sum low high first last x : ℤ) → sum ≡ (axis.first +ℤ axis.first) -ℤ pos 1 → low ≡ sum -ℤ last → high ≡ sum -ℤ first → IsBesideAxis false axis x → IsWithin low high x ↔ IsWithin first last (mirrored axis x)
turned_below axis sum low high first last x e f g beside =
    turned_ends axis sum low high first last x (mirrored_below axis x beside ∙ ap (λ (s : ℤ). s -ℤ x) (sym e)) f g

-- numbers that lie between both ends
pub within_common : (low high first last a b x : ℤ) → a ≡ int_max low first → b ≡ int_min high last → IsWithin a b x ↔ (IsWithin first last x × IsWithin low high x)
within_common low high first last a b x e f = (
  λ h. (record { low = omega (arith, ints, clamps, e, h.low); high = omega (arith, ints, clamps, f, h.high) }, record { low = omega (arith, ints, clamps, e, h.low); high = omega (arith, ints, clamps, f, h.high) }),
  λ h. record { low = omega (arith, ints, clamps, e, h.0.low, h.1.low); high = omega (arith, ints, clamps, f, h.0.high, h.1.high) },
)

pub none_common : (low high first last a b x : ℤ) → a ≡ int_max low first → b ≡ int_min high last → b <ℤ a → IsWithin first last x → IsWithin low high x → ⊥
none_common low high first last a b x e f empty on between = omega (arith, ints, clamps, e, f, empty, on.low, on.high, between.low, between.high)
