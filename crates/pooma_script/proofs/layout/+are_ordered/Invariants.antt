use Rattle.std.proofs.Common.{length}
use Rattle.pooma_script.proofs.layout.+are_ordered.Given as goal

-- the axes that are left
abbrev pub decreases-are_ordered : goal.decreases-are_ordered
decreases-are_ordered l = length l.domain.now
