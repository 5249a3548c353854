use Rattle.pooma_desk.specs.Tokens.{IsSamePass}
use Rattle.pooma_iterate_tests.proofs.worker.ask_all.Given as goal

abbrev pub invariant-loop-k : goal.invariant-loop-k
invariant-loop-k g l = IsSamePass l.initial.pass l.pass
