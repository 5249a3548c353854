use Rattle.std.proofs.Common.{length}
use Rattle.pooma_script.proofs.count.+blocks_in.Given as goal

-- the axes that are left
abbrev pub decreases-blocks_in : goal.decreases-blocks_in
decreases-blocks_in l = length l.blocks.now
