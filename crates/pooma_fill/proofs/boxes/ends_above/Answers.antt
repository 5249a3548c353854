use Rattle.std.proofs.Common.{sym, subst, arith, ℤ, pos, ◌+ℤ◌, ◌-ℤ◌}
use Rattle.std.proofs.lemmas.Int.{ints}
use Rattle.std.specs.Prelude.{◌↔◌}
use Rattle.pooma_domain.specs.Axes.{interval_of}
use Rattle.pooma_field.specs.declared.updaters.Updater.{Updater}
use Rattle.pooma_fill.specs.Boxes.{IsWithin}
use Rattle.pooma_fill.specs.Filling.{number_from}
use Rattle.pooma_fill.proofs.Beside.{face_above, turned_above, shifted_above}
use Rattle.pooma_fill.proofs.boxes.ends_above.Goals as goal

pub returns-in-Periodic : goal.returns-in-Periodic
returns-in-Periodic c x on beside =
    subst (λ (u : Updater). IsWithin c.shifted.result.0 c.shifted.result.1 x ↔ IsWithin c.args.from.first c.args.from.last (number_from u (interval_of c.args.axis) x)) (sym c.in-Periodic.is)
    (shifted_above (interval_of c.args.axis) ((c.args.axis.last -ℤ c.args.axis.first) +ℤ pos 1) c.shifted.result.0 c.shifted.result.1 c.args.from.first c.args.from.last x (omega (arith, ints, c.length.ensures.value)) (omega (arith, ints, c.shifted.ensures.low)) (omega (arith, ints, c.shifted.ensures.high)) beside)

pub returns-in-Reflect : goal.returns-in-Reflect
returns-in-Reflect c x on beside =
    subst (λ (u : Updater). IsWithin c.turned.result.0 c.turned.result.1 x ↔ IsWithin c.args.from.first c.args.from.last (number_from u (interval_of c.args.axis) x)) (sym c.in-Reflect.is)
    (turned_above (interval_of c.args.axis) ((c.args.axis.last +ℤ c.args.axis.last) +ℤ pos 1) c.turned.result.0 c.turned.result.1 c.args.from.first c.args.from.last x (omega (arith, ints)) (omega (arith, ints, c.turned.ensures.low)) (omega (arith, ints, c.turned.ensures.high)) beside)

pub returns-in-Antireflect : goal.returns-in-Antireflect
returns-in-Antireflect c x on beside =
    subst (λ (u : Updater). IsWithin c.turned-in-Antireflect.result.0 c.turned-in-Antireflect.result.1 x ↔ IsWithin c.args.from.first c.args.from.last (number_from u (interval_of c.args.axis) x)) (sym c.in-Antireflect.is)
    (turned_above (interval_of c.args.axis) ((c.args.axis.last +ℤ c.args.axis.last) +ℤ pos 1) c.turned-in-Antireflect.result.0 c.turned-in-Antireflect.result.1 c.args.from.first c.args.from.last x (omega (arith, ints)) (omega (arith, ints, c.turned-in-Antireflect.ensures.low)) (omega (arith, ints, c.turned-in-Antireflect.ensures.high)) beside)

pub returns-in-Extrapolate : goal.returns-in-Extrapolate
returns-in-Extrapolate c x on beside =
    subst (λ (u : Updater). IsWithin c.at_face.result.0 c.at_face.result.1 x ↔ IsWithin c.args.from.first c.args.from.last (number_from u (interval_of c.args.axis) x)) (sym c.in-Extrapolate.is)
    (subst (λ (y : ℤ). IsWithin c.at_face.result.0 c.at_face.result.1 x ↔ IsWithin c.args.from.first c.args.from.last y) (let is = face_above (interval_of c.args.axis) x beside in omega (arith, ints, is)) (c.at_face.ensures x on))
