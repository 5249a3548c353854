use Rattle.std.proofs.Common.{◌≡◌}
use Rattle.pooma_bench.proofs.queues.request_each.Given as goal

abbrev pub invariant-loop-entry : goal.invariant-loop-entry
invariant-loop-entry l = l.machine.opening ≡ l.initial.machine.opening
