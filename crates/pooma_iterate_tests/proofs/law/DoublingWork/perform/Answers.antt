use Rattle.std.proofs.Common.{rules}
use Rattle.pooma_iterate_tests.proofs.law.DoublingWork.perform.Goals as goal

pub returns-in-Some-write-clause-value : goal.returns-in-Some-write-clause-value
returns-in-Some-write-clause-value c = rw c.in-Some-write.is (search rules)
