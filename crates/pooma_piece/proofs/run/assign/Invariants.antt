use Rattle.std.proofs.Common.{◌≡◌, false, take, Some}
use Rattle.pooma_domain.specs.Cells.{cells_of}
use Rattle.pooma_field.specs.Numbered.{with_changes}
use Rattle.pooma_machine.specs.Slots.{contents}
use Rattle.pooma_piece.specs.Effects.{changes_over, value_at}
use Rattle.pooma_piece.specs.Meaning.{content_of}
use Rattle.pooma_piece.proofs.Firsts.{HaveNumbers}
use Rattle.pooma_piece.proofs.run.assign.Given as goal

abbrev pub invariant-loop-k : goal.invariant-loop-k
invariant-loop-k l =
    let value = value_at l.piece (Some l.initial.patch.content) (contents content_of l.reads) in
    record {
      content : l.patch.content ≡ with_changes l.initial.patch.content (changes_over l.target.slots value (take l.k (cells_of l.piece.positions)));
      numbers : HaveNumbers value (take l.k (cells_of l.piece.positions));
      writable : l.patch.one ≡ false;
    }
