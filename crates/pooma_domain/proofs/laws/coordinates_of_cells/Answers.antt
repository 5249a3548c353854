use Rattle.pooma_domain.proofs.Within.{length_of_cell, coordinate_on_axis, coordinates_are_cell}
use Rattle.pooma_domain.proofs.laws.coordinates_of_cells.Goals as goal

pub returns : goal.returns
returns c = record { length = length_of_cell; on_axis = coordinate_on_axis; together = coordinates_are_cell }
