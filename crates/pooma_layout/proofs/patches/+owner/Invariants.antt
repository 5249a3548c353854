use Rattle.std.proofs.Common.{length}
use Rattle.pooma_layout.proofs.patches.+owner.Given as goal

abbrev pub decreases-owner : goal.decreases-owner
decreases-owner l = length l.axes.now
