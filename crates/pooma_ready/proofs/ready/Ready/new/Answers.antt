use Rattle.pooma_ready.proofs.Kept.{begins}
use Rattle.pooma_ready.proofs.ready.Ready.new.Goals as goal

pub fifo_as-requires : goal.fifo_as-requires
fifo_as-requires c = begins
