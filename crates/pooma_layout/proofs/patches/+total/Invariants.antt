use Rattle.std.proofs.Common.{length}
use Rattle.pooma_layout.proofs.patches.+total.Given as goal

abbrev pub decreases-total : goal.decreases-total
decreases-total l = length l.axes.now
