use Rattle.pooma_ready.proofs.Kept.{takes, owner_finds}
use Rattle.pooma_ready.proofs.ready.Ready.take.Goals as goal

pub pop_as-requires-clause-fifo : goal.pop_as-requires-clause-fifo
pop_as-requires-clause-fifo c = λ _. takes _ _ c.self.invariant.1

pub pop_as-requires-clause-empty : goal.pop_as-requires-clause-empty
pop_as-requires-clause-empty c = owner_finds _ _ c.self.invariant.1 c.self.invariant.3
