use Rattle.pooma_field.specs.ShapeOf.{shape_of}
use Rattle.std.proofs.Common.{◌∙◌, ap}
use Rattle.pooma_model.specs.Declarations.{shape_at}
use Rattle.pooma_script.specs.Known.{declared_in}
use Rattle.pooma_check.specs.Kept.{known_of}
use Rattle.pooma_check.proofs.Declaring.{subs_few}
use Rattle.pooma_check.proofs.cells.is_readable.Goals as goal

pub view_in-requires-clause-few : goal.view_in-requires-clause-few
view_in-requires-clause-few c =
    let declared = declared_in (known_of c.args.known.now) in
    subs_few c.subs.result.now c.args.reading.now.view.slots (shape_of c.shape_there-shape.result.now) (shape_at declared c.args.reading.now.view.array).physical
    c.subs.ensures.slots c.requires.slots
    (ap (λ shape. shape.physical) c.shape_there-shape.ensures.shape ∙ ap (λ n. (shape_at declared n).physical) c.array-2.ensures)
    c.shape_there-shape.ensures.there
