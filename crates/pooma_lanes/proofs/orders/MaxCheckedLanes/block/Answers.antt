use Rattle.std.proofs.Common.{Ok, ap, ◌∙◌}
use lib.Signed.{lt_z}
use Rattle.pooma_lanes.specs.Rows.{at_place}
use Rattle.pooma_lanes.proofs.Chosen.{other_of_both, other_of_both-block, greater_is}
use Rattle.pooma_lanes.proofs.orders.MaxCheckedLanes.block.Goals as goal

pub returns-clause-block : goal.returns-clause-block
returns-clause-block c = other_of_both-block lt_z c.args.a c.args.b c.requires.left c.requires.right

pub returns-clause-exact : goal.returns-clause-exact
returns-clause-exact c holds k lt = ap Ok (other_of_both lt_z c.args.a c.args.b c.requires.left c.requires.right k lt ∙ greater_is (at_place c.args.a k) (at_place c.args.b k))
