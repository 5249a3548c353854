use Rattle.std.proofs.Common.{◌≡◌, ◌≤ℤ◌, false}
use Rattle.pooma_iterate_bench.proofs.cells.write.Given as goal

abbrev pub invariant-rows : goal.invariant-rows
invariant-rows l = record {
  area : l.patch.content.area ≡ l.initial.patch.content.area;
  writable : l.patch.one ≡ false;
  low : l.initial.y ≤ℤ l.y;
}
