use Rattle.std.proofs.Common.{length}
use Rattle.pooma_stencil.proofs.extents.+shrink.Given as goal

abbrev pub decreases-shrink : goal.decreases-shrink
decreases-shrink l = length l.lower.now
