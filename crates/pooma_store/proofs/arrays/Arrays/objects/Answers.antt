use Rattle.std.proofs.Common.{arith}
use Rattle.pooma_store.proofs.KeptArrays.{few_objects}
use Rattle.pooma_store.proofs.arrays.Arrays.objects.Goals as goal

pub returns-clause-few : goal.returns-clause-few
returns-clause-few c = omega (arith, few_objects _ _ c.self.invariant.0, c.self.invariant.2)
