use Rattle.std.proofs.Common.{length}
use Rattle.pooma_check.proofs.apart.+all_are_apart.Given as goal

-- the readings that are left
abbrev pub decreases-all_are_apart : goal.decreases-all_are_apart
decreases-all_are_apart l = length l.readings.now
