use Rattle.pooma_domain.proofs.PaddedBox.{box_from_padded}
use Rattle.pooma_domain.proofs.boxes.BoxN.dims.Goals as goal

pub returns-clause-valid : goal.returns-clause-valid
returns-clause-valid c = rw (← c.self.view_is) (box_from_padded _ _ _ _ c.self.invariant)
