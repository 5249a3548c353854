use Rattle.std.proofs.Common.{length}
use Rattle.pooma_layout.proofs.patches.+owned.Given as goal

abbrev pub decreases-owned : goal.decreases-owned
decreases-owned l = length l.axes.now
