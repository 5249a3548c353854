use Rattle.std.proofs.Common.{length}
use Rattle.pooma_stencil.proofs.extents.+beginning.Given as goal

abbrev pub decreases-beginning : goal.decreases-beginning
decreases-beginning l = length l.lower.now
