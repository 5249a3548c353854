use Rattle.pooma_script.proofs.Shapes.{shape_over}
use Rattle.pooma_script.proofs.made.shape_over.Goals as goal

pub unwrap-requires : goal.unwrap-requires
unwrap-requires c =
    c.of.ensures.found.1 (rw (c.physical.ensures, c.total.ensures) (shape_over c.args.layout.now c.args.faces c.patches-patches.ensures.valid.axes c.requires))
