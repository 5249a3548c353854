use Rattle.std.proofs.Common.{sym, ap, ◌∙◌, subst, arith}
use Rattle.pooma_desk.specs.Rule.{first_of}
use Rattle.pooma_desk.specs.Tokens.{Started}
use Rattle.pooma_desk.specs.Turns.{IsResting}
use Rattle.pooma_desk.proofs.Moves.{takes_turn}
use Rattle.pooma_desk.proofs.desk.Desk.try_take.Goals as goal

pub compare_exchange-found-requires : goal.compare_exchange-found-requires
compare_exchange-found-requires g c =
    let words = c.self.invariant.0 in
    let known = c.is_held.ensures.known in
    let own = ap (λ m. first_of m.0.seats) known in (
      c.is_held.ensures.desk ∙ (c.requires.desk ∙ sym (ap (λ (s : Started _ _). s.desk) c.self.view_is)),
      omega (arith, words),
      takes_turn _ _ _ c.from.result _ (subst (λ m. IsResting m.0) (sym known) c.requires.resting) (omega (arith, own, c.from.ensures, c.requires.seat)),
    )
