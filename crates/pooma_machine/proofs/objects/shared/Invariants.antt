use Rattle.std.proofs.Common.{◌≡◌, ◌++◌, ◌≤◌, map, length, vec_capacity}
use Rattle.std.specs.Vec.Iter.{into_iter_items}
use Rattle.pooma_machine.specs.declared.slot.Slot.TheVariants as slot
use Rattle.pooma_machine.proofs.objects.shared.Given as goal

abbrev pub invariant-loop-arc : goal.invariant-loop-arc
invariant-loop-arc g l =
    record {
      slots : l.slots.items ≡ map (λ arc. slot.Shared arc) l.yielded;
      rest : l.fn.values.items ≡ l.yielded ++ into_iter_items l.arc-iterator;
      room : length l.fn.values.items ≤ vec_capacity l.slots;
    }
