use Rattle.std.proofs.Common.{length}
use Rattle.pooma_part.proofs.cuts.+count_of.Given as goal

abbrev pub decreases-count_of : goal.decreases-count_of
decreases-count_of l = length l.lines.now
