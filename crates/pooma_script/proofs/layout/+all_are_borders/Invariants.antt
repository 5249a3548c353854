use Rattle.std.proofs.Common.{length}
use Rattle.pooma_script.proofs.layout.+all_are_borders.Given as goal

-- the axes that are left
abbrev pub decreases-all_are_borders : goal.decreases-all_are_borders
decreases-all_are_borders l = length l.domain.now
