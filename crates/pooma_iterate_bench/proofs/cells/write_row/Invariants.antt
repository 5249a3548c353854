use Rattle.std.proofs.Common.{◌≡◌, ◌≤ℤ◌, false}
use Rattle.pooma_iterate_bench.proofs.cells.write_row.Given as goal

abbrev pub invariant-cells : goal.invariant-cells
invariant-cells l = record {
  area : l.patch.content.area ≡ l.initial.patch.content.area;
  writable : l.patch.one ≡ false;
  low : l.initial.x ≤ℤ l.x;
}
