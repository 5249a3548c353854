use Rattle.std.proofs.Common.{arith, subst}
use Rattle.std.proofs.lemmas.Int.{ints}
use Rattle.pooma_domain.specs.Cells.{IsAxis, IsBox}
use Rattle.pooma_view.specs.Slots.{places, with_places}
use Rattle.pooma_view.specs.declared.slots.Slot.{Slot}
use Rattle.pooma_view.proofs.SlotLists.{box_tail}
use Rattle.pooma_view.proofs.slots.Slot.with_places.Goals as goal

pub overflow_cast-numbers : goal.overflow_cast-numbers
overflow_cast-numbers c =
    let axis : IsAxis (places c.in-Along.numbers) =
    (box_tail _ _ (subst (λ (s : Slot). IsBox (with_places s c.args.later.now)) c.in-Along.is c.requires)).0 in
    omega (arith, ints, axis.high)

pub invariant_of-after : goal.invariant_of-after
invariant_of-after c =
    let axis : IsAxis (places c.in-Along.numbers) =
    (box_tail _ _ (subst (λ (s : Slot). IsBox (with_places s c.args.later.now)) c.in-Along.is c.requires)).0 in
    record {
      ordered = omega (arith, ints, axis.high, axis.ordered);
      low = omega (arith, ints);
      high = omega (arith, ints, axis.high, axis.ordered);
    }
