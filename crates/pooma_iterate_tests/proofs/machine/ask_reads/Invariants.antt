use Rattle.std.proofs.Common.{◌≡◌, ◌+◌, length}
use Rattle.pooma_iterate_tests.proofs.machine.ask_reads.Given as goal

abbrev pub invariant-loop : goal.invariant-loop
invariant-loop l = (length l.machine.plan ≡ length l.initial.machine.plan + l.counter) × (l.machine.opening ≡ l.initial.machine.opening)
