use Rattle.pooma_desk.specs.Tokens.{IsSamePass}
use Rattle.pooma_bench.proofs.desk.works.Given as goal

abbrev pub invariant-loop-k : goal.invariant-loop-k
invariant-loop-k g l = IsSamePass l.initial.pass l.pass
