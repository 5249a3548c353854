use Rattle.std.proofs.Common.{ap, sym, ◌∙◌, ◌≡◌, ◌+ℤ◌, ◌*ℤ◌, subst, rules, to_z, of_z, w32, FitsSigned}
use Rattle.pooma_view.specs.Slots.{Accepts, coordinate}
use Rattle.pooma_view.specs.declared.slots.Slot.{Slot}
use Rattle.pooma_view.proofs.SlotLists.{first_number, cast_fits, cast_is, cast_below}
use Rattle.pooma_view.proofs.slots.Slot.coordinate.Goals as goal

pub overflow_cast-at : goal.overflow_cast-at
overflow_cast-at c =
    let place = first_number c.in-Along.numbers c.args.position.now c.at.result c.at.ensures (subst (λ (s : Slot). Accepts s c.args.position.now) c.in-Along.is c.requires) in
    cast_fits _ (search rules) place.0

pub at-requires-in-Along : goal.at-requires-in-Along
at-requires-in-Along c =
    let place = first_number c.in-Along.numbers c.args.position.now c.at.result c.at.ensures (subst (λ (s : Slot). Accepts s c.args.position.now) c.in-Along.is c.requires) in
    cast_below _ _ (search rules) place.0 c.in-Along.numbers.some place.1

pub returns-in-Along : goal.returns-in-Along
returns-in-Along c =
    let place = first_number c.in-Along.numbers c.args.position.now c.at.result c.at.ensures (subst (λ (s : Slot). Accepts s c.args.position.now) c.in-Along.is c.requires) in
    let number : to_z w32 (of_z w32 c.at-in-Along.result) ≡ c.at-in-Along.result = search rules in
    let fits : FitsSigned w32 c.at.result = search rules in
    number ∙ c.at-in-Along.ensures.value
    ∙ ap (λ k. c.in-Along.numbers.first +ℤ c.in-Along.numbers.stride *ℤ k) (cast_is c.at.result fits place.0)
    ∙ sym place.2
    ∙ ap (λ (s : Slot). coordinate s c.args.position.now) (sym c.in-Along.is)
