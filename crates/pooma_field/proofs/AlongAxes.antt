-- One axis: which numbers updaters take values from, and that these lie on the axis.
use Rattle.std.proofs.Common.{refl, ap, ◌∙◌, subst, ⊎_elim, arith}
use Rattle.std.proofs.lemmas.Int.{ints, clamps}
use Rattle.std.proofs.lemmas.Nat.{mod_below}
use Rattle.std.specs.Int.{int_rem_euclid}
use Rattle.std.specs.Prelude.{◌≡◌, ℕ, ◌%◌, ◌<◌, ℤ, pos, negsuc, neg_ℤ, ◌+ℤ◌, ◌-ℤ◌, ◌≤ℤ◌, ◌<ℤ◌, true, false, Some, int_lt, if◌then◌else◌}
use Rattle.pooma_domain.specs.Cells.{Interval, count_of, axis_length}
use Rattle.pooma_field.specs.declared.faces.Ends.{Ends}
use Rattle.pooma_field.specs.declared.updaters.Updater.{Updater}
use Rattle.pooma_field.specs.declared.updaters.Updater.TheVariants.{Constant, Periodic, Reflect, Antireflect, Extrapolate}
use Rattle.pooma_field.specs.Faces.{facing}
use Rattle.pooma_field.specs.Look.{along}
use Rattle.pooma_field.specs.Sources.{source_number, IsNear}
use Rattle.pooma_field.specs.Updaters.{wrapped, mirrored, face, inner, distance, extrapolation, clamped, updated}

-- the number is one of the axis
pub record IsOn (axis : Interval) (x : ℤ) : Type 0 where
  pub low : axis.first ≤ℤ x
  pub high : x ≤ℤ axis.last

pub less : (a b : ℤ) → a <ℤ b → int_lt a b ≡ true
less a b h = grind (arith, ints)

pub not_less : (a b : ℤ) → b ≤ℤ a → int_lt a b ≡ false
not_less a b h = grind (arith, ints)

-- an axis that is in order has as many numbers as its ends say
pub length_between : (axis : Interval) → axis.first ≤ℤ axis.last → pos (axis_length axis) ≡ (axis.last -ℤ axis.first) +ℤ pos 1
length_between axis h = counts ((axis.last -ℤ axis.first) +ℤ pos 1) (omega (arith, ints, h))
  where
    counts : (z : ℤ) → pos 0 ≤ℤ z → pos (count_of z) ≡ z
    counts (pos n) h = refl
    counts (negsuc n) h = absurd (omega (arith, ints, h))

pub length_is : (axis : Interval) → 0 < axis_length axis → pos (axis_length axis) ≡ (axis.last -ℤ axis.first) +ℤ pos 1
length_is axis some = counts ((axis.last -ℤ axis.first) +ℤ pos 1) some
  where
    counts : (z : ℤ) → 0 < count_of z → pos (count_of z) ≡ z
    counts (pos n) h = refl
    counts (negsuc n) h = absurd (omega (arith, h))

-- an axis that has something near it has numbers
pub near_some : (axis : Interval) (x : ℤ) → IsNear axis x → 0 < axis_length axis
near_some axis x near = ⊎_elim (λ h. omega (arith, ints, h.0, h.1)) (λ h. omega (arith, ints, h.0, h.1)) near

pub remainder_bounds : (z : ℤ) (n : ℕ) → 0 < n → (pos 0 ≤ℤ int_rem_euclid z (pos n)) × (int_rem_euclid z (pos n) <ℤ pos n)
remainder_bounds (pos a) n some =
    let below : a % n < n = mod_below a n some in
    (omega (arith, ints), omega (arith, ints, below))
remainder_bounds (negsuc a) n some =
    let below : a % n < n = mod_below a n some in
    (omega (arith, ints), omega (arith, ints, below))

pub wrapped_on : (axis : Interval) (x : ℤ) → 0 < axis_length axis → IsOn axis (wrapped axis x)
wrapped_on axis x some =
    let bounds = remainder_bounds (x -ℤ axis.first) (axis_length axis) some in
    let whole : pos (axis_length axis) ≡ (axis.last -ℤ axis.first) +ℤ pos 1 = length_is axis some in
    record { low = omega (arith, ints, bounds.0); high = omega (arith, ints, bounds.1, whole) }

-- a choice by the side on which a number lies
pub on_side : (axis : Interval) (x low high : ℤ) → (x <ℤ axis.first → IsOn axis low) → (axis.last <ℤ x → IsOn axis high) → IsNear axis x → IsOn axis (if int_lt x axis.first then low else high)
on_side axis x low high if_low if_high near =
    let some : 0 < axis_length axis = near_some axis x near in
    let whole : pos (axis_length axis) ≡ (axis.last -ℤ axis.first) +ℤ pos 1 = length_is axis some in
    ⊎_elim (λ h. rw (less x axis.first h.0) (if_low h.0))
    (λ h. rw (not_less x axis.first (omega (arith, ints, h.0, whole, some))) (if_high h.0))
    near

pub mirrored_on : (axis : Interval) (x : ℤ) → IsNear axis x → IsOn axis (mirrored axis x)
mirrored_on axis x near =
    let some : 0 < axis_length axis = near_some axis x near in
    let whole : pos (axis_length axis) ≡ (axis.last -ℤ axis.first) +ℤ pos 1 = length_is axis some in
    ⊎_elim
    (λ h. rw (less x axis.first h.0) (record { low = omega (arith, ints, h.0); high = omega (arith, ints, h.1, whole) }))
    (λ h. rw (not_less x axis.first (omega (arith, ints, h.0, whole, some))) (record { low = omega (arith, ints, h.1, whole); high = omega (arith, ints, h.0) }))
    near

pub face_on : (axis : Interval) (x : ℤ) → IsNear axis x → IsOn axis (face axis x)
face_on axis x near =
    let some : 0 < axis_length axis = near_some axis x near in
    let whole : pos (axis_length axis) ≡ (axis.last -ℤ axis.first) +ℤ pos 1 = length_is axis some in
    on_side axis x axis.first axis.last
    (λ low. record { low = omega (arith, ints); high = omega (arith, ints, whole, some) })
    (λ high. record { low = omega (arith, ints, whole, some); high = omega (arith, ints) })
    near

pub inner_on : (axis : Interval) (x : ℤ) → IsNear axis x → IsOn axis (inner axis x)
inner_on axis x near =
    let some : 0 < axis_length axis = near_some axis x near in
    let whole : pos (axis_length axis) ≡ (axis.last -ℤ axis.first) +ℤ pos 1 = length_is axis some in
    on_side axis x _ _
    (λ low. record { low = omega (arith, ints, clamps, whole, some); high = omega (arith, ints, clamps, whole, some) })
    (λ high. record { low = omega (arith, ints, clamps, whole, some); high = omega (arith, ints, clamps, whole, some) })
    near

-- a number from which a value is taken lies on the axis
pub source_on : (u : Updater) (axis : Interval) (x y : ℤ) → IsNear axis x → source_number u axis x ≡ Some y → IsOn axis y
source_on (Constant k) axis x y near e = cc
source_on Periodic axis x y near e =
    let is : wrapped axis x ≡ y = cc in subst (IsOn axis) is (wrapped_on axis x (near_some axis x near))
source_on Reflect axis x y near e =
    let is : mirrored axis x ≡ y = cc in subst (IsOn axis) is (mirrored_on axis x near)
source_on Antireflect axis x y near e =
    let is : mirrored axis x ≡ y = cc in subst (IsOn axis) is (mirrored_on axis x near)
source_on Extrapolate axis x y near e = let is : face axis x ≡ y = cc in subst (IsOn axis) is (face_on axis x near)

-- updaters look at numbers of the axis alone
pub updated_by_inside : (u : Updater) (axis : Interval) (f g : ℤ → ℤ) (x : ℤ) → IsNear axis x → ((y : ℤ) → IsOn axis y → f y ≡ g y) → updated u axis f x ≡ updated u axis g x
updated_by_inside (Constant k) axis f g x near same = refl
updated_by_inside Periodic axis f g x near same = same (wrapped axis x) (wrapped_on axis x (near_some axis x near))
updated_by_inside Reflect axis f g x near same = same (mirrored axis x) (mirrored_on axis x near)
updated_by_inside Antireflect axis f g x near same =
    ap (λ v. clamped (neg_ℤ v)) (same (mirrored axis x) (mirrored_on axis x near))
updated_by_inside Extrapolate axis f g x near same =
    ap (λ v. extrapolation v (f (inner axis x)) (distance axis x)) (same (face axis x) (face_on axis x near))
    ∙ ap (λ v. extrapolation (g (face axis x)) v (distance axis x)) (same (inner axis x) (inner_on axis x near))

pub along_inside : (axis : Interval) (ends : Ends) (value : ℤ → ℤ) (x : ℤ) → IsOn axis x → along axis ends value x ≡ value x
along_inside axis ends value x on = rw (not_less x axis.first on.low, not_less axis.last x on.high) refl

pub along_outside : (axis : Interval) (ends : Ends) (value : ℤ → ℤ) (x : ℤ) → IsNear axis x → along axis ends value x ≡ updated (facing ends axis x) axis value x
along_outside axis ends value x near =
    let some : 0 < axis_length axis = near_some axis x near in
    let whole : pos (axis_length axis) ≡ (axis.last -ℤ axis.first) +ℤ pos 1 = length_is axis some in
    ⊎_elim (λ h. rw (less x axis.first h.0) refl)
    (λ h. rw (not_less x axis.first (omega (arith, ints, h.0, whole, some)), less axis.last x h.0) refl)
    near
