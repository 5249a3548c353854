use Rattle.std.proofs.Common.{◌≡◌, true, map, take}
use Rattle.std.specs.List.{list_all}
use Rattle.std.specs.Option.{option_copied}
use Rattle.std.specs.Prelude.{option_map}
use Rattle.pooma_domain.specs.Cells.{cells_of}
use Rattle.pooma_field.specs.ShapeOf.{shape_of}
use Rattle.pooma_field.specs.Slabs.{cell_sources}
use Rattle.pooma_machine.specs.Slots.{contents}
use Rattle.pooma_piece.specs.Lent.{have_sources}
use Rattle.pooma_piece.specs.Meaning.{area_of, content_of}
use Rattle.pooma_piece.proofs.fitting.all_have_sources.Given as goal

abbrev pub invariant-loop-k : goal.invariant-loop-k
invariant-loop-k l =
    let written = option_map area_of (option_map content_of (option_copied l.write)) in
    let reads = map area_of (contents content_of l.reads) in
    list_all (λ c. have_sources l.piece written reads l.piece.reads (cell_sources (shape_of l.shape) l.slab c)) (take l.k (cells_of l.piece.positions)) ≡ true
