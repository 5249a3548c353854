use Rattle.std.proofs.Common.{rules}
use Rattle.pooma_ready.proofs.Kept.{parts}
use Rattle.pooma_ready.proofs.ready.Ready.thief.Goals as goal

pub another-token-requires : goal.another-token-requires
another-token-requires c = parts _ _ c.self.invariant.1 (search rules)
