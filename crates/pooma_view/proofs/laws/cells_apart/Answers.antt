use Rattle.pooma_view.proofs.Corners.{apart}
use Rattle.pooma_view.proofs.SlotLists.{length_of_named}
use Rattle.pooma_view.proofs.laws.cells_apart.Goals as goal

pub returns : goal.returns
returns c = record { apart = apart; coordinates = length_of_named }
