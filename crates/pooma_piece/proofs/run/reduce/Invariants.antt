use Rattle.std.proofs.Common.{◌≡◌, take}
use Rattle.std.specs.Option.{option_copied}
use Rattle.std.specs.Prelude.{option_map}
use Rattle.pooma_domain.specs.Cells.{cells_of}
use Rattle.pooma_expr.specs.Reductions.{StandsFor}
use Rattle.pooma_machine.specs.Slots.{contents}
use Rattle.pooma_piece.specs.Effects.{numbers_over, value_at}
use Rattle.pooma_piece.specs.Meaning.{content_of}
use Rattle.pooma_piece.proofs.Firsts.{HaveNumbers}
use Rattle.pooma_piece.proofs.run.reduce.Given as goal

abbrev pub invariant-loop-k : goal.invariant-loop-k
invariant-loop-k l =
    let value = value_at l.piece (option_map content_of (option_copied l.written)) (contents content_of l.reads) in
    record {
      reduction : l.partial.reduction ≡ l.fn.reduction;
      count : l.partial.total.count ≡ l.k;
      kept : StandsFor (numbers_over value (take l.k (cells_of l.piece.positions))) l.partial;
      numbers : HaveNumbers value (take l.k (cells_of l.piece.positions));
    }
