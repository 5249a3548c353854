use Rattle.pooma_desk.specs.Tokens.{IsSamePass}
use Rattle.pooma_bench.proofs.desk.when_ready.Given as goal

abbrev pub invariant-loop : goal.invariant-loop
invariant-loop g l = IsSamePass l.initial.pass l.pass
