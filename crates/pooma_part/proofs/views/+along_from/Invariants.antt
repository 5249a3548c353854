use Rattle.std.proofs.Common.{length, ◌-◌}
use Rattle.pooma_part.proofs.views.+along_from.Given as goal

abbrev pub decreases-along_from : goal.decreases-along_from
decreases-along_from l = length l.seen.now.view.slots - l.from
