use Rattle.std.proofs.Common.{◌^◌}
use Rattle.pooma_lanes.proofs.Factors.{by_machine}
use Rattle.pooma_lanes.proofs.divisor.Way.of.Goals as goal

pub returns-clause-exact : goal.returns-clause-exact
returns-clause-exact c a le =
    by_machine a c.args.size c.from-2.result (2 ^ c.ilog2-shift.result) c.from.result c.from.ensures c.from-2.ensures c.requires.some c.ilog2-shift.ensures.power_le c.requires.size c.ilog2-shift.ensures.next_power_gt le
