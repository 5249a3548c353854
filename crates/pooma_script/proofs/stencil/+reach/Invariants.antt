use Rattle.std.proofs.Common.{length}
use Rattle.pooma_script.proofs.stencil.+reach.Given as goal

-- the numbers of the offset that are left
abbrev pub decreases-reach : goal.decreases-reach
decreases-reach l = length l.offset.now
