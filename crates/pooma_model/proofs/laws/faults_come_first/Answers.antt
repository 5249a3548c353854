use Rattle.pooma_domain.specs.Cells.{cells_of}
use Rattle.pooma_model.proofs.Faulting.{box_found, box_is, is_least, least_is, none_parts, none_whole, same_faults}
use Rattle.pooma_model.proofs.Partitioning.{OfCells, is_in}
use Rattle.pooma_model.proofs.laws.faults_come_first.Goals as goal

cells : (c : goal.After-order_of_cells) → OfCells
cells c = record { members = c.order_of_cells.ensures.members; once = c.order_of_cells.ensures.once; ascending = c.order_of_cells.ensures.ascending }

pub returns : goal.returns
returns c = record {
  found = λ given box fault. (box_found (cells c) given box fault, box_is (cells c) given box fault);
  none = λ given whole boxes parts. (none_whole (cells c) given whole boxes parts, none_parts (cells c) given whole boxes parts);
  least = λ given whole boxes fault parts. (is_least (cells c) given whole boxes parts fault, least_is (cells c) given whole boxes parts fault);
  same = λ given other box equal. same_faults given other (cells_of box) (λ p m. equal p (is_in (cells c) box p m));
}
