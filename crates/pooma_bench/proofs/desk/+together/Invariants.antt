use Rattle.std.proofs.Common.{◌*◌, ◌-◌}
use Rattle.pooma_bench.proofs.desk.+together.Given as goal

abbrev pub decreases-join+arg3 : goal.decreases-join+arg3
decreases-join+arg3 g l = 2 * l.others - 1

abbrev pub decreases-together : goal.decreases-together
decreases-together g l = 2 * l.others
