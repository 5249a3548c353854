use Rattle.std.proofs.Common.{length}
use Rattle.pooma_check.proofs.limit.+first_passed.Given as goal

abbrev pub decreases-first_passed : goal.decreases-first_passed
decreases-first_passed l = length l.limits.now
