use Rattle.std.proofs.Common.{◌≡◌, false}
use Rattle.pooma_iterate_bench.proofs.lending.report_lending.Given as goal

abbrev pub invariant-turns : goal.invariant-turns
invariant-turns g l = l.store.lent ≡ false
