use Rattle.std.proofs.Common.{length}
use Rattle.pooma_script.proofs.made.+cell_of.Given as goal

-- the axes that are left
abbrev pub decreases-cell_of : goal.decreases-cell_of
decreases-cell_of l = length l.list.now
