use Rattle.std.proofs.Common.{◌-◌, length}
use Rattle.pooma_script.proofs.printed.+positions_from.Given as goal

abbrev pub decreases-positions_from : goal.decreases-positions_from
decreases-positions_from l = length l.view.now.slots - l.n
