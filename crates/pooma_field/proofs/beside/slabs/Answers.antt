use Rattle.std.proofs.Common.{arith, ◌+◌}
use Rattle.pooma_field.specs.ShapeOf.{shape_of}
use Rattle.pooma_field.proofs.SlabBoxes.{deep_slabs_more}
use Rattle.pooma_field.proofs.beside.slabs.Goals as goal

pub loop-axis-preserved : goal.loop-axis-preserved
loop-axis-preserved c =
    deep_slabs_more (shape_of c.args.shape.now) c.loop-axis.axis (c.loop-axis.axis + 1) c.in-Some.faces c.ends-ends.result c.loop-axis.list.items c.add.new.list.items c.add-in-loop-axis.new.list.items (omega arith) c.ends-ends.ensures c.loop-axis.invariant
    c.in_ok-add.ensures c.in_ok-add-2.ensures
