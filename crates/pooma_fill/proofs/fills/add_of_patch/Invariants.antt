use Rattle.std.proofs.Common.{◌≡◌, ◌++◌, map, Some}
use Rattle.std.specs.Prelude.{filter_map, option_map}
use Rattle.pooma_field.specs.ShapeOf.{shape_of}
use Rattle.pooma_store.specs.Numbering.{layout_at}
use Rattle.pooma_fill.specs.Boxes.{box_of, numbers_below}
use Rattle.pooma_fill.specs.Filling.{cells_filled, fill_of_box}
use Rattle.pooma_fill.proofs.fills.add_of_patch.Given as goal

abbrev pub invariant-loop-source : goal.invariant-loop-source
invariant-loop-source l =
    l.list.items ≡ l.initial.list.items ++ filter_map
    (λ source. option_map (fill_of_box l.store.layouts l.fn.number l.shape l.fn.array l.slab l.fn.target) (box_of (cells_filled (layout_at l.store.layouts l.fn.array) (shape_of l.shape) l.slab l.fn.target source)))
    (map Some (numbers_below l.source))
