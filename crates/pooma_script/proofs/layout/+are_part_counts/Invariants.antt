use Rattle.std.proofs.Common.{length}
use Rattle.pooma_script.proofs.layout.+are_part_counts.Given as goal

-- the axes that are left
abbrev pub decreases-are_part_counts : goal.decreases-are_part_counts
decreases-are_part_counts l = length l.domain.now
