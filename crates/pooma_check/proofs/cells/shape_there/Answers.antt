use Rattle.pooma_field.specs.ShapeOf.{shape_of}
use Rattle.pooma_check.proofs.Declaring.{shape_there}
use Rattle.pooma_check.proofs.cells.shape_there.Goals as goal

pub returns-clause-there : goal.returns-clause-there
returns-clause-there c = shape_there c.args.known.now.draft.declared c.args.array (shape_of c.shape.result.now) c.layout.result.now
    c.arrays-arrays.ensures.valid c.patches-patches.ensures.valid c.shape.ensures c.layout.ensures
