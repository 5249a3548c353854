use Rattle.std.proofs.Common.{◌≡◌, ◌+◌, ◌++◌, ◌≤◌, length, vec_capacity}
use Rattle.std.specs.Vec.Iter.{into_iter_items}
use Rattle.pooma_store.proofs.store.append.Given as goal

abbrev pub invariant-loop-patch : goal.invariant-loop-patch
invariant-loop-patch l = record {
  items : l.patches.items ≡ l.initial.patches.items ++ l.yielded;
  rest : l.fn.more.items ≡ l.yielded ++ into_iter_items l.patch-iterator;
  room : length l.initial.patches.items + length l.fn.more.items ≤ vec_capacity l.patches;
}
