use Rattle.std.proofs.Common.{◌+◌, ◌*◌}
use Rattle.pooma_stencil.specs.Bodies.{body_depth}
use Rattle.pooma_stencil.proofs.stencil.+expand.Given as goal

abbrev pub decreases-expand_body : goal.decreases-expand_body
decreases-expand_body l = 2 * body_depth l.body.now

abbrev pub decreases-expand_boxed : goal.decreases-expand_boxed
decreases-expand_boxed l = 2 * body_depth l.body.now + 1
