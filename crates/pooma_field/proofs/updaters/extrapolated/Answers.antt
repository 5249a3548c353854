use Rattle.std.proofs.Common.{◌≡◌, ◌∙◌, ap, arith, ℕ, ℤ, pos, ◌+ℤ◌, ◌-ℤ◌, ◌*ℤ◌, to_z, of_z, w64}
use Rattle.std.proofs.lemmas.Int.{ints}
use Rattle.pooma_field.specs.Updaters.{clamped, extrapolation}
use Rattle.pooma_field.proofs.updaters.extrapolated.Goals as goal

extrapolation_is : (r whole face inner rise : ℤ) (steps : ℕ) → r ≡ clamped whole → whole ≡ face +ℤ rise → rise ≡ pos steps *ℤ (face -ℤ inner) → r ≡ extrapolation face inner steps
extrapolation_is r whole face inner rise steps is sum product =
    is ∙ ap clamped (sum ∙ ap (λ v. face +ℤ v) product)

pub returns : goal.returns
returns c =
    (let same : to_z w64 (of_z w64 c.clamp.result) ≡ c.clamp.result = omega (arith, ints) in same)
    ∙ extrapolation_is c.clamp.result _ c.args.face c.args.inner c.rise.result c.args.distance c.clamp.ensures
    (omega (arith, ints, c.from.ensures, c.rise.ensures.small))
    (c.rise.ensures.value ∙ ap (λ v. pos c.args.distance *ℤ v) (omega (arith, ints, c.from-2.ensures, c.from-3.ensures)))
