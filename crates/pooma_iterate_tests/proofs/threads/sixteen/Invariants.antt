use Rattle.std.proofs.Common.{◌≡◌, length}
use Rattle.pooma_iterate_tests.proofs.threads.sixteen.Given as goal

abbrev pub invariant-loop : goal.invariant-loop
invariant-loop l = length l.values.items ≡ l.counter
