use Rattle.std.specs.Prelude.{All}
use Rattle.pooma_domain.specs.Cells.{IsOrdered}
use Rattle.pooma_field.specs.Shapes.{slab_axes}
use Rattle.pooma_field.specs.ShapeOf.{shape_of}
use Rattle.pooma_field.proofs.SlabBoxes.{firsts_in, lasts_in, ordered_axes, ordered_if_some, slab_ordered}
use Rattle.pooma_field.proofs.SlabCells.{slab_is_total}
use Rattle.pooma_field.proofs.SourceCells.{around_of}
use Rattle.pooma_field.proofs.beside.slab.Goals as goal

pub target-requires-clause-valid : goal.target-requires-clause-valid
target-requires-clause-valid c =
    let shape = c.args.shape.now in
    let around = around_of (shape_of shape) shape.valid in
    let ordered : All IsOrdered (slab_axes c.args.high c.args.axis shape.physical shape.total) =
    slab_ordered c.args.high c.args.axis shape.physical shape.total c.requires.there shape.valid.same_dims (ordered_axes shape.physical c.dims.ensures.valid) (ordered_axes shape.total c.dims-2.ensures.valid) (ordered_if_some _ c.requires.deep) in
    c.boxes_within_boxes.ensures.valid (slab_axes c.args.high c.args.axis shape.physical shape.total) shape.total c.dims-2.ensures.valid ordered
    (slab_is_total c.args.high c.args.axis shape.physical shape.total _ around (firsts_in _ ordered))
    (slab_is_total c.args.high c.args.axis shape.physical shape.total _ around (lasts_in _ ordered))
