use Rattle.std.proofs.Common.{length}
use Rattle.pooma_script.proofs.count.+cells_in.Given as goal

-- the axes that are left
abbrev pub decreases-cells_in : goal.decreases-cells_in
decreases-cells_in l = length l.domain.now
