use Rattle.std.proofs.Common.{length}
use Rattle.pooma_script.proofs.places.+all_have_positions.Given as goal

-- the readings that are left
abbrev pub decreases-all_have_positions : goal.decreases-all_have_positions
decreases-all_have_positions l = length l.readings.now
