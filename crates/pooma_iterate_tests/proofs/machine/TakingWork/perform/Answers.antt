use Rattle.std.proofs.Common.{rules}
use Rattle.pooma_iterate_tests.proofs.machine.TakingWork.perform.Goals as goal

pub returns-in-Some-clause-value : goal.returns-in-Some-clause-value
returns-in-Some-clause-value c = rw c.in-Some.is (search rules)
