use Rattle.std.proofs.Common.{length}
use Rattle.pooma_run.proofs.faults.+is_before.Given as goal

-- the axes that are left
abbrev pub decreases-is_before : goal.decreases-is_before
decreases-is_before l = length l.a.now
