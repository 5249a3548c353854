use Rattle.std.proofs.Common.{refl}
use Rattle.pooma_domain.proofs.PaddedBox.{length-cells-box}
use Rattle.pooma_domain.proofs.boxes.BoxN.count.Goals as goal

pub returns-clause-value : goal.returns-clause-value
returns-clause-value c =
    rw (← c.self.view_is) (rw (length-cells-box _ _ _ _ c.self.invariant, c.len.ensures.value, c.len-2.ensures.value, c.len-3.ensures.value) refl)
