use Rattle.std.specs.Prelude.{ℤ}
use Rattle.pooma_view.proofs.SlotLists.{if_some_then}
use Rattle.pooma_view.proofs.slots.Slot.common_ends.Goals as goal

pub returns-clause-least : goal.returns-clause-least
returns-clause-least c =
    if_some_then _ _ c.common_ends.result c.common_ends.ensures.least (λ (ends : ℤ × ℤ) h. ((c.numbers.ensures ends.0).0 h.0, (c.numbers-2.ensures ends.0).0 h.1))

pub returns-clause-greatest : goal.returns-clause-greatest
returns-clause-greatest c =
    if_some_then _ _ c.common_ends.result c.common_ends.ensures.greatest (λ (ends : ℤ × ℤ) h. ((c.numbers.ensures ends.1).0 h.0, (c.numbers-2.ensures ends.1).0 h.1))

pub returns-clause-between : goal.returns-clause-between
returns-clause-between c z h k = c.common_ends.ensures.between z ((c.numbers.ensures z).1 h) ((c.numbers-2.ensures z).1 k)
