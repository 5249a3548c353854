use Rattle.pooma_layout.proofs.Allocating.{allocated_cells}
use Rattle.pooma_layout.proofs.laws.allocated_cells_of_patches.Goals as goal

pub returns-clause-own : goal.returns-clause-own
returns-clause-own c = λ layout p owned cell valid at. (allocated_cells layout p owned cell valid at).0

pub returns-clause-total : goal.returns-clause-total
returns-clause-total c = λ layout p owned cell valid at. (allocated_cells layout p owned cell valid at).1
