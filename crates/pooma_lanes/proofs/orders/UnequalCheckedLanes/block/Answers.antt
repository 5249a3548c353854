use Rattle.std.proofs.Common.{Ok, ap, not, eqb}
use Rattle.std.specs.Ordering.{int_eq}
use Rattle.pooma_lanes.proofs.Chosen.{numbers-block, numbers_of_tests, agree_unequal}
use Rattle.pooma_lanes.proofs.orders.UnequalCheckedLanes.block.Goals as goal

pub returns-clause-block : goal.returns-clause-block
returns-clause-block c = numbers-block (λ m n. not (eqb m n)) (λ x y. not (int_eq x y)) agree_unequal c.args.a c.args.b c.requires.left c.requires.right

pub returns-clause-exact : goal.returns-clause-exact
returns-clause-exact c holds k lt = ap Ok (numbers_of_tests (λ m n. not (eqb m n)) (λ x y. not (int_eq x y)) agree_unequal c.args.a c.args.b c.requires.left c.requires.right k lt)
