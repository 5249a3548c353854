use Rattle.std.proofs.Common.{◌∙◌, ap, ◌==◌}
use Rattle.std.specs.Prelude.{◌&&◌, not}
use Rattle.std.specs.List.{list_any}
use Rattle.pooma_domain.specs.Cells.{cells_of}
use Rattle.pooma_view.specs.Slots.{cell_named, positions_of}
use Rattle.pooma_piece.specs.Lent.{is_in}
use Rattle.pooma_fill.proofs.Outside.{other_array, outside_is, this_array}
use Rattle.pooma_fill.proofs.reading.is_external.Goals as goal

pub returns-then-array : goal.returns-then-array
returns-then-array c =
    let view = c.args.view.now in
    let box = c.args.shape.now.physical in
    let rest = list_any (λ p. not (is_in box (cell_named view.slots p))) (cells_of (positions_of view.slots)) in
    let outside = outside_is c.order_of_cells.ensures.members box (positions_of view.slots) (cell_named view.slots) c.within-inside.result c.within-inside.ensures in
    outside ∙ this_array c.array.result c.args.array rest c.if-array.true ∙ ap (λ n. (n == c.args.array) && rest) c.array.ensures

pub returns-else-array : goal.returns-else-array
returns-else-array c =
    let view = c.args.view.now in
    let box = c.args.shape.now.physical in
    let rest = list_any (λ p. not (is_in box (cell_named view.slots p))) (cells_of (positions_of view.slots)) in
    other_array c.array.result c.args.array rest c.if-array.false ∙ ap (λ n. (n == c.args.array) && rest) c.array.ensures
