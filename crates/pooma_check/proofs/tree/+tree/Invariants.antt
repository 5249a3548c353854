use Rattle.std.proofs.Common.{◌+◌, ◌*◌}
use Rattle.pooma_script.specs.Bodies.{depth_in}
use Rattle.pooma_check.proofs.tree.+tree.Given as goal

abbrev pub decreases-tree : goal.decreases-tree
decreases-tree l = 2 * depth_in l.expr.now

abbrev pub decreases-boxed : goal.decreases-boxed
decreases-boxed l = 2 * depth_in l.expr.now + 1
