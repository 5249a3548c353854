use Rattle.std.proofs.Common.{◌≡◌, false, map, take, Some}
use Rattle.pooma_domain.specs.Cells.{cells_of}
use Rattle.pooma_field.specs.Numbered.{with_changes}
use Rattle.pooma_field.specs.ShapeOf.{shape_of}
use Rattle.pooma_machine.specs.Slots.{contents}
use Rattle.pooma_piece.specs.Fills.{fill_change}
use Rattle.pooma_piece.specs.Meaning.{content_of}
use Rattle.pooma_piece.proofs.fill.fill.Given as goal

abbrev pub invariant-loop-k : goal.invariant-loop-k
invariant-loop-k l =
    record {
      content : l.patch.content ≡ with_changes l.initial.patch.content (map (fill_change (shape_of l.shape) l.slab l.piece (Some l.initial.patch.content) (contents content_of l.reads)) (take l.k (cells_of l.piece.positions)));
      writable : l.patch.one ≡ false;
    }
