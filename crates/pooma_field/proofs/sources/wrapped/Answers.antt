use Rattle.std.proofs.Common.{◌≡◌, ◌∙◌, ap, arith, ℤ, pos, ◌-ℤ◌, ◌+ℤ◌}
use Rattle.std.proofs.lemmas.Int.{ints}
use Rattle.std.specs.Int.{int_rem_euclid}
use Rattle.pooma_domain.specs.Axes.{interval_of}
use Rattle.pooma_domain.specs.Cells.{axis_length}
use Rattle.pooma_field.specs.Updaters.{wrapped}
use Rattle.pooma_field.proofs.AlongAxes.{IsOn, near_some, length_between, wrapped_on}
use Rattle.pooma_field.proofs.sources.wrapped.Goals as goal

same_remainder : (a b d e : ℤ) → a ≡ b → d ≡ e → int_rem_euclid a d ≡ int_rem_euclid b e
same_remainder a b d e p q = ap (λ v. int_rem_euclid v d) p ∙ ap (int_rem_euclid b) q

pub overflow_add-result : goal.overflow_add-result
overflow_add-result c =
    let len : pos (axis_length (interval_of c.args.axis)) ≡ (c.args.axis.last -ℤ c.args.axis.first) +ℤ pos 1 = length_between (interval_of c.args.axis) c.args.axis.ordered in
    let on : IsOn (interval_of c.args.axis) (wrapped (interval_of c.args.axis) c.args.x) = wrapped_on (interval_of c.args.axis) c.args.x (near_some (interval_of c.args.axis) c.args.x c.requires) in
    let is : c.rem_euclid.result ≡ int_rem_euclid (c.args.x -ℤ c.args.axis.first) (pos (axis_length (interval_of c.args.axis))) =
    c.rem_euclid.ensures.value ∙ same_remainder _ _ _ _ (omega (arith, ints, c.requires)) (omega (arith, ints, len)) in
    omega (arith, ints, is, on.low, on.high)

pub returns : goal.returns
returns c =
    let len : pos (axis_length (interval_of c.args.axis)) ≡ (c.args.axis.last -ℤ c.args.axis.first) +ℤ pos 1 = length_between (interval_of c.args.axis) c.args.axis.ordered in
    let on : IsOn (interval_of c.args.axis) (wrapped (interval_of c.args.axis) c.args.x) = wrapped_on (interval_of c.args.axis) c.args.x (near_some (interval_of c.args.axis) c.args.x c.requires) in
    let is : c.rem_euclid.result ≡ int_rem_euclid (c.args.x -ℤ c.args.axis.first) (pos (axis_length (interval_of c.args.axis))) =
    c.rem_euclid.ensures.value ∙ same_remainder _ _ _ _ (omega (arith, ints, c.requires)) (omega (arith, ints, len)) in
    omega (arith, ints, is, on.low, on.high)
