use Rattle.std.proofs.Common.{◌≤ℤ◌}
use Rattle.pooma_iterate_bench.proofs.cells.sum_of_row.Given as goal

abbrev pub invariant-cells : goal.invariant-cells
invariant-cells l = l.initial.x ≤ℤ l.x
