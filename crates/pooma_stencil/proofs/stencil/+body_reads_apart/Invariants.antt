use Rattle.pooma_stencil.specs.Bodies.{body_depth}
use Rattle.pooma_stencil.proofs.stencil.+body_reads_apart.Given as goal

abbrev pub decreases-body_reads_apart : goal.decreases-body_reads_apart
decreases-body_reads_apart l = body_depth l.body.now
