use Rattle.std.proofs.Common.{◌≡◌, false}
use Rattle.pooma_iterate_bench.proofs.lending.rows.Given as goal

abbrev pub invariant-arrays : goal.invariant-arrays
invariant-arrays l = l.store.lent ≡ false
