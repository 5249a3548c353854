use Rattle.pooma_domain.proofs.CellOrder.{length-cells_of, cells_are_in, in_are_cells, stands_once, cells_ascend}
use Rattle.pooma_domain.proofs.order.order_of_cells.Goals as goal

pub returns : goal.returns
returns c = record {
  counted = length-cells_of;
  members = λ axes cell. (cells_are_in axes cell, in_are_cells axes cell);
  once = λ axes cell j k at_j at_k. stands_once axes j k cell at_j at_k;
  ascending = cells_ascend;
}
