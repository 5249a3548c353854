use Rattle.std.proofs.Common.{sym, ap, ◌∙◌, arith}
use Rattle.pooma_desk.specs.Tokens.{Started}
use Rattle.pooma_desk.proofs.Moves.{peeks_turn}
use Rattle.pooma_desk.proofs.desk.Desk.is_held.Goals as goal

pub load-requires : goal.load-requires
load-requires g c =
    let words = c.self.invariant.0 in
    (c.requires.desk ∙ sym (ap (λ (s : Started _ _). s.desk) c.self.view_is), omega (arith, words), peeks_turn _ _ _ _)
