use Rattle.std.proofs.Common.{length}
use Rattle.pooma_part.proofs.cuts.+boxes_of.Given as goal

abbrev pub decreases-boxes_of : goal.decreases-boxes_of
decreases-boxes_of l = length l.lines.now
