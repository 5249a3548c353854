use Rattle.std.proofs.Common.{length}
use Rattle.pooma_layout.proofs.patches.+physical.Given as goal

abbrev pub decreases-physical : goal.decreases-physical
decreases-physical l = length l.axes.now
