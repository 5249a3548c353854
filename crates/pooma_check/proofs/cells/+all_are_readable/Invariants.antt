use Rattle.std.proofs.Common.{length}
use Rattle.pooma_check.proofs.cells.+all_are_readable.Given as goal

-- the readings that are left
abbrev pub decreases-all_are_readable : goal.decreases-all_are_readable
decreases-all_are_readable l = length l.readings.now
