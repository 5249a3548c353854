use Rattle.std.proofs.Common.{arith, subst, ◌≡◌, ◌∙◌, ap, pos, ◌+ℤ◌, ◌*ℤ◌, to_z, of_z, w32, rules}
use Rattle.std.proofs.lemmas.Int.{ints}
use Rattle.std.proofs.Math.IntN.{nat_abs}
use Rattle.pooma_domain.specs.Axes.{interval_of}
use Rattle.pooma_view.specs.Slots.{IsWithinPlaces}
use Rattle.pooma_view.specs.declared.slots.Slot.{Slot}
use Rattle.pooma_view.proofs.Parts.{first_places, restricted_along}
use Rattle.pooma_view.proofs.SlotLists.{cast_fits, cast_is}
use Rattle.pooma_view.proofs.slots.Slot.restrict.Goals as goal

pub overflow_cast-axis : goal.overflow_cast-axis
overflow_cast-axis c =
    let w = first_places c.in-Along.numbers c.args.places.now (interval_of c.axis-axis.result) c.axis-axis.ensures
    (subst (λ (s : Slot). IsWithinPlaces s c.args.places.now) c.in-Along.is c.requires) in
    cast_fits _ (search rules) w.0

pub part-requires-clause-within : goal.part-requires-clause-within
part-requires-clause-within c =
    let w = first_places c.in-Along.numbers c.args.places.now (interval_of c.axis-axis.result) c.axis-axis.ensures
    (subst (λ (s : Slot). IsWithinPlaces s c.args.places.now) c.in-Along.is c.requires) in
    omega (arith, ints, w.0, w.1, c.axis-axis.result.ordered, c.axis-axis.result.high)

pub returns-in-Along : goal.returns-in-Along
returns-in-Along c =
    let w = first_places c.in-Along.numbers c.args.places.now (interval_of c.axis-axis.result) c.axis-axis.ensures
    (subst (λ (s : Slot). IsWithinPlaces s c.args.places.now) c.in-Along.is c.requires) in
    let k_is : pos (nat_abs (to_z w32 (of_z w32 c.axis-axis.result.first))) ≡ c.axis-axis.result.first = cast_is _ (search rules) w.0 in
    rw c.in-Along.is
    (restricted_along c.in-Along.numbers c.part.result c.args.places.now (interval_of c.axis-axis.result) c.axis-axis.ensures
    (c.part.ensures.first ∙ ap (λ v. c.in-Along.numbers.first +ℤ c.in-Along.numbers.stride *ℤ v) k_is)
    c.part.ensures.stride
    (omega (arith, ints, c.part.ensures.count, w.0, w.1, c.axis-axis.result.ordered, c.axis-axis.result.high)))
