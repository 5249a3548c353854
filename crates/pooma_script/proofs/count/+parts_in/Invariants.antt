use Rattle.std.proofs.Common.{length}
use Rattle.pooma_script.proofs.count.+parts_in.Given as goal

-- the axes that are left
abbrev pub decreases-parts_in : goal.decreases-parts_in
decreases-parts_in l = length l.cuts.now
