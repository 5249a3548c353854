use Rattle.std.proofs.Common.{Ok, ap}
use lib.Signed.{le_z}
use Rattle.pooma_lanes.proofs.Chosen.{by_numbers, numbers-block, numbers_of_tests, agree_by_numbers}
use Rattle.pooma_lanes.proofs.orders.LessEqCheckedLanes.block.Goals as goal

pub returns-clause-block : goal.returns-clause-block
returns-clause-block c = numbers-block (by_numbers le_z) le_z (agree_by_numbers le_z) c.args.a c.args.b c.requires.left c.requires.right

pub returns-clause-exact : goal.returns-clause-exact
returns-clause-exact c holds k lt = ap Ok (numbers_of_tests (by_numbers le_z) le_z (agree_by_numbers le_z) c.args.a c.args.b c.requires.left c.requires.right k lt)
