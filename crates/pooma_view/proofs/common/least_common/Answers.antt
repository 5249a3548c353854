use Rattle.std.specs.Prelude.{ℤ}
use Rattle.pooma_view.proofs.SlotLists.{if_some_then}
use Rattle.pooma_view.proofs.common.least_common.Goals as goal

pub returns-else-a-b-clause-found : goal.returns-else-a-b-clause-found
returns-else-a-b-clause-found c =
    if_some_then _ _ c.least_from-else-a-b.result c.least_from-else-a-b.ensures.found (λ (z : ℤ) h. (h.1, h.0))

pub returns-else-a-b-clause-least : goal.returns-else-a-b-clause-least
returns-else-a-b-clause-least c z h k = c.least_from-else-a-b.ensures.least z k h
