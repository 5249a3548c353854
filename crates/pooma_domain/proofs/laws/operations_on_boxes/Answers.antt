use Rattle.pooma_domain.proofs.BoxSets.{common_axes_meet, shifted_is, grown_is, lower_part, upper_part}
use Rattle.pooma_domain.proofs.laws.operations_on_boxes.Goals as goal

pub returns : goal.returns
returns c = record {
  meeting = common_axes_meet;
  shifting = shifted_is;
  growing = grown_is;
  below = lower_part;
  above = upper_part;
}
