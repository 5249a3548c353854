use Rattle.pooma_ready.proofs.Kept.{puts}
use Rattle.pooma_ready.proofs.ready.Ready.put.Goals as goal

pub push_as-requires-clause-pushes : goal.push_as-requires-clause-pushes
push_as-requires-clause-pushes c = puts _ _ _ c.self.invariant.1
