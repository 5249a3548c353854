use Rattle.std.proofs.Common.{length}
use Rattle.pooma_piece.proofs.requests.+count_below.Given as goal

abbrev pub decreases-count_below : goal.decreases-count_below
decreases-count_below l = length l.requests.now
