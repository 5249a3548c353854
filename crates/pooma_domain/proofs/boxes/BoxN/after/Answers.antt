use Rattle.pooma_domain.specs.Axes.{interval_of}
use Rattle.pooma_domain.proofs.PaddedMoves.{after_padded}
use Rattle.pooma_domain.proofs.boxes.BoxN.after.Goals as goal

pub invariant_of-result : goal.invariant_of-result
invariant_of-result c =
    rw (c.of.ensures.first, c.of.ensures.last)
    (after_padded _ (interval_of c.args.first) _ _ _ _ c.self.invariant c.self.view_is c.requires)
