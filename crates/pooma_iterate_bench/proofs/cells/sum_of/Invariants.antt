use Rattle.std.proofs.Common.{◌≤ℤ◌}
use Rattle.pooma_iterate_bench.proofs.cells.sum_of.Given as goal

abbrev pub invariant-rows : goal.invariant-rows
invariant-rows l = l.initial.y ≤ℤ l.y
