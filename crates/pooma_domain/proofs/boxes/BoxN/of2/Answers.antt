use Rattle.pooma_domain.specs.Axes.{interval_of}
use Rattle.pooma_domain.specs.Padding.{no_axis}
use Rattle.pooma_domain.proofs.PaddedBox.{box_from_padded}
use Rattle.pooma_domain.proofs.PaddedMoves.{layer_box}
use Rattle.pooma_domain.proofs.boxes.BoxN.of2.Goals as goal

pub invariant_of-result : goal.invariant_of-result
invariant_of-result c =
    rw (c.of.ensures.first, c.of.ensures.last, c.of-2.ensures.first, c.of-2.ensures.last)
    (layer_box (interval_of c.args.a) (interval_of c.args.b) c.of.ensures.valid c.of-2.ensures.valid)

pub returns-clause-valid : goal.returns-clause-valid
returns-clause-valid c =
    rw (c.of.ensures.first, c.of.ensures.last, c.of-2.ensures.first, c.of-2.ensures.last)
    (box_from_padded 2 (interval_of c.args.a) (interval_of c.args.b) no_axis
    (layer_box (interval_of c.args.a) (interval_of c.args.b) c.of.ensures.valid c.of-2.ensures.valid))
