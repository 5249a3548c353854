use Rattle.std.proofs.Common.{◌≡◌, ◌++◌, map, Some}
use Rattle.std.specs.Vec.Iter.{into_iter_items}
use Rattle.pooma_machine.specs.Slots.{contents, content_in}
use Rattle.pooma_machine.proofs.objects.brought_home.Given as goal

abbrev pub invariant-loop-slot : goal.invariant-loop-slot
invariant-loop-slot g l =
    record {
      values : map (content_in g.W.Work.content) l.yielded ≡ map (λ content. Some content) (contents g.W.Work.content l.values.items);
      rest : l.fn.slots.items ≡ l.yielded ++ into_iter_items l.slot-iterator;
    }
