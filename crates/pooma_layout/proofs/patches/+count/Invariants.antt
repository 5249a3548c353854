use Rattle.std.proofs.Common.{length}
use Rattle.pooma_layout.proofs.patches.+count.Given as goal

abbrev pub decreases-count : goal.decreases-count
decreases-count l = length l.axes.now
