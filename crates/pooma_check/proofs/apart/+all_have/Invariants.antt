use Rattle.std.proofs.Common.{length}
use Rattle.pooma_check.proofs.apart.+all_have.Given as goal

-- the readings that are left
abbrev pub decreases-all_have : goal.decreases-all_have
decreases-all_have l = length l.readings.now
