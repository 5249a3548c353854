use Rattle.std.proofs.Common.{length}
use Rattle.pooma_script.proofs.made.+box_of.Given as goal

-- the axes that are left
abbrev pub decreases-box_of : goal.decreases-box_of
decreases-box_of l = length l.domain.now
