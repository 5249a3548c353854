use Rattle.std.proofs.Common.{◌≡◌}
use Rattle.pooma_bench.proofs.desk.alone.Given as goal

abbrev pub invariant-loop-k : goal.invariant-loop-k
invariant-loop-k l = l.machine.opening ≡ l.initial.machine.opening
