use Rattle.pooma_check.specs.Kept.{known_of}
use Rattle.pooma_check.proofs.Measured.{depth_of_tree}
use Rattle.pooma_check.proofs.amount.tree_is_shallow.Goals as goal

pub returns : goal.returns
returns c = rw (depth_of_tree (known_of c.args.known.now) c.args.text.now c.args.value.now) c.is_tree_within_depth.ensures
