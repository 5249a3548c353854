use Rattle.std.proofs.Common.{◌≡◌}
use Rattle.pooma_value_tests.proofs.expr.partial_of.Given as goal

abbrev pub invariant-loop-x : goal.invariant-loop-x
invariant-loop-x l = l.part.reduction ≡ l.fn.reduction
