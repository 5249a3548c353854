use Rattle.std.proofs.Common.{Ok, ap, eqb}
use Rattle.std.specs.Ordering.{int_eq}
use Rattle.pooma_lanes.proofs.Chosen.{numbers-block, numbers_of_tests, agree_equal}
use Rattle.pooma_lanes.proofs.orders.EqualCheckedLanes.block.Goals as goal

pub returns-clause-block : goal.returns-clause-block
returns-clause-block c = numbers-block eqb int_eq agree_equal c.args.a c.args.b c.requires.left c.requires.right

pub returns-clause-exact : goal.returns-clause-exact
returns-clause-exact c holds k lt = ap Ok (numbers_of_tests eqb int_eq agree_equal c.args.a c.args.b c.requires.left c.requires.right k lt)
