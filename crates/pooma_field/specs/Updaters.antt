-- What a field's updaters give to a number beside an axis: from which numbers of the axis they take values, and what they make of them.
use Rattle.std.specs.Prelude.{ℕ, ℤ, pos, ◌+ℤ◌, ◌-ℤ◌, ◌*ℤ◌, neg_ℤ, unsigned_abs, if◌then◌else◌, int_lt}
use Rattle.std.specs.Int.{w64, int_max, int_min, int_rem_euclid, saturate_signed}
use Rattle.pooma_domain.specs.Cells.{Interval, axis_length}
use Rattle.pooma_field.specs.declared.updaters.Updater.{Updater}
use Rattle.pooma_field.specs.declared.updaters.Updater.TheVariants.{Constant, Periodic, Reflect, Antireflect, Extrapolate}

-- the number of the axis that is a whole number of the axis's lengths away
abbrev pub wrapped : Interval → ℤ → ℤ
wrapped axis x = axis.first +ℤ int_rem_euclid (x -ℤ axis.first) (pos (axis_length axis))

-- the sum of a number on this side and its image in a mirror at the outer edge of the face
abbrev pub mirror : Interval → ℤ → ℤ
mirror axis x = if int_lt x axis.first then (axis.first +ℤ axis.first) -ℤ pos 1 else (axis.last +ℤ axis.last) +ℤ pos 1

-- the number that lies as far inside the axis as the given one lies outside
abbrev pub mirrored : Interval → ℤ → ℤ
mirrored axis x = mirror axis x -ℤ x

-- the end of the axis on the number's side
abbrev pub face : Interval → ℤ → ℤ
face axis x = if int_lt x axis.first then axis.first else axis.last

-- the number next to the face inside the axis, or the face where the axis has no other number
abbrev pub inner : Interval → ℤ → ℤ
inner axis x =
    if int_lt x axis.first then int_min (axis.first +ℤ pos 1) axis.last else int_max (axis.last -ℤ pos 1) axis.first

-- how far the number lies from the face
abbrev pub distance : Interval → ℤ → ℕ
distance axis x = unsigned_abs (x -ℤ face axis x)

-- the updater gives one number everywhere
abbrev pub IsConstant : Updater → Type 0
IsConstant (Constant k) = Unit {0}
IsConstant Periodic = ⊥
IsConstant Reflect = ⊥
IsConstant Antireflect = ⊥
IsConstant Extrapolate = ⊥

-- the number of 64 bits that is nearest
abbrev pub clamped : ℤ → ℤ
clamped z = saturate_signed w64 z

-- the value on the line through the face's value and the inner one, so many steps beyond the face
abbrev pub extrapolation : ℤ → ℤ → ℕ → ℤ
extrapolation face inner steps = clamped (face +ℤ pos steps *ℤ (face -ℤ inner))

-- the value at a number beside the axis, where the numbers of the axis have these values
abbrev pub updated : Updater → Interval → (ℤ → ℤ) → ℤ → ℤ
updated (Constant k) axis value x = k
updated Periodic axis value x = value (wrapped axis x)
updated Reflect axis value x = value (mirrored axis x)
updated Antireflect axis value x = clamped (neg_ℤ (value (mirrored axis x)))
updated Extrapolate axis value x = extrapolation (value (face axis x)) (value (inner axis x)) (distance axis x)
