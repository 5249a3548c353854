use Rattle.std.proofs.Common.{◌≡◌, ◌++◌, ◌+◌, length, map}
use Rattle.std.specs.Arc.{arc_value}
use Rattle.std.specs.Vec.Iter.{into_iter_items}
use Rattle.pooma_run.proofs.works.put_behind.Given as goal

abbrev pub invariant-works : goal.invariant-works
invariant-works l =
    record {
      works : map arc_value l.pending.items ≡ map arc_value l.initial.pending.items ++ l.yielded;
      count : length l.pending.items ≡ length l.initial.pending.items + length l.yielded;
      rest : l.fn.works.items ≡ l.yielded ++ into_iter_items l.work-iterator;
    }
