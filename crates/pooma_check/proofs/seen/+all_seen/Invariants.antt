use Rattle.std.proofs.Common.{length}
use Rattle.pooma_check.proofs.seen.+all_seen.Given as goal

-- the readings that are left
abbrev pub decreases-all_seen : goal.decreases-all_seen
decreases-all_seen l = length l.readings.now
