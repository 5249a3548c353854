use Rattle.pooma_model.proofs.Partitioning.{parts_moved}
use Rattle.pooma_model.proofs.laws.parts_in_any_order.Goals as goal

pub returns : goal.returns
returns c = parts_moved
