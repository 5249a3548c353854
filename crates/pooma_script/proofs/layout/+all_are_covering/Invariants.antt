use Rattle.std.proofs.Common.{length}
use Rattle.pooma_script.proofs.layout.+all_are_covering.Given as goal

-- the axes that are left
abbrev pub decreases-all_are_covering : goal.decreases-all_are_covering
decreases-all_are_covering l = length l.domain.now
