use Rattle.pooma_model.specs.Parts.{cut_axes}
use Rattle.pooma_model.proofs.CutParts.{boxes_counted, parts_counted, parts_ordered, parts_partition, parts_together}
use Rattle.pooma_model.proofs.laws.parts_of_statements.Goals as goal

pub returns : goal.returns
returns c = record {
  partition = parts_partition;
  ordered = parts_ordered;
  counted = λ declared views positions. boxes_counted (cut_axes declared views 0 positions);
  on_axis = parts_counted;
  together = parts_together;
}
