use Rattle.std.proofs.Common.{ap, ◌∙◌}
use Rattle.pooma_ready.proofs.Kept.{steals, thief_finds}
use Rattle.pooma_ready.proofs.thief.first_of.Goals as goal

pub steal_as-requires-clause-takes : goal.steal_as-requires-clause-takes
steal_as-requires-clause-takes g c = steals _ _ (ap (λ v. v.steals) c.loop.invariant.1 ∙ c.requires.steals)

pub steal_as-requires-clause-empty : goal.steal_as-requires-clause-empty
steal_as-requires-clause-empty g c = rw c.requires.flavor (thief_finds _ _ (ap (λ v. v.steals) c.loop.invariant.1 ∙ c.requires.steals))
