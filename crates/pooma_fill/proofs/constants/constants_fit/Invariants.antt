use Rattle.std.proofs.Common.{take}
use Rattle.std.specs.Prelude.{All}
use Rattle.pooma_piece.specs.Words.{GiveWords}
use Rattle.pooma_fill.proofs.constants.constants_fit.Given as goal

abbrev pub invariant-axes : goal.invariant-axes
invariant-axes l = All GiveWords (take l.axis l.faces)
