use Rattle.std.proofs.Common.{◌≡◌, true, map, take}
use Rattle.std.specs.List.{list_all}
use Rattle.std.specs.Option.{option_copied}
use Rattle.std.specs.Prelude.{option_map}
use Rattle.pooma_domain.specs.Cells.{cells_of}
use Rattle.pooma_expr.specs.Trees.{views_of}
use Rattle.pooma_machine.specs.Slots.{contents}
use Rattle.pooma_piece.specs.Lent.{has_cells, lent_for, read_in}
use Rattle.pooma_piece.specs.Meaning.{area_of, content_of}
use Rattle.pooma_piece.proofs.piece.Piece.fits.Given as goal

abbrev pub invariant-loop-k : goal.invariant-loop-k
invariant-loop-k l =
    let written = option_map area_of (option_map content_of (option_copied l.write)) in
    let reads = map area_of (contents content_of l.reads) in
    list_all (λ view. has_cells (lent_for l.self written reads (read_in l.self view)) view.slots (cells_of l.self.positions)) (take l.k (views_of l.self.code)) ≡ true
