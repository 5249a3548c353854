use Rattle.pooma_domain.proofs.PaddedMoves.{rest_padded, some_axis}
use Rattle.pooma_domain.proofs.boxes.BoxN.rest.Goals as goal

pub invariant_of-result : goal.invariant_of-result
invariant_of-result c =
    rest_padded _ _ _ _ c.self.invariant (some_axis _ _ _ _ _ c.self.invariant c.self.view_is c.requires)
