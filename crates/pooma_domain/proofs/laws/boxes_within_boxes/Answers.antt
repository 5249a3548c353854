use Rattle.pooma_domain.proofs.Within.{cells_within, box_within}
use Rattle.pooma_domain.proofs.laws.boxes_within_boxes.Goals as goal

pub returns : goal.returns
returns c = record { cells = cells_within; valid = box_within }
