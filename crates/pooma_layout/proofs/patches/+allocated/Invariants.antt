use Rattle.std.proofs.Common.{length}
use Rattle.pooma_layout.proofs.patches.+allocated.Given as goal

abbrev pub decreases-allocated : goal.decreases-allocated
decreases-allocated l = length l.axes.now
