use Rattle.std.proofs.Common.{length}
use Rattle.pooma_stencil.proofs.extents.+reach.Given as goal

abbrev pub decreases-reach : goal.decreases-reach
decreases-reach l = length l.lower.now
