use Rattle.std.proofs.Common.{sym, ap, ◌∙◌, arith}
use Rattle.pooma_desk.specs.Tokens.{Started, token_of}
use Rattle.pooma_desk.proofs.Turning.{outside_left, legal_seen, leaves_from, left_turn}
use Rattle.pooma_desk.proofs.desk.Desk.leave.Goals as goal

pub store-requires : goal.store-requires
store-requires g c =
    let words = c.self.invariant.0 in
    let e = c.exchange.ensures in
    (e.0 ∙ (c.requires.desk ∙ sym (ap (λ (s : Started _ _). s.desk) c.self.view_is)), omega (arith, words), leaves_from _ _ _ c.args.turn.place.me c.exchange.new.seat.me c.args.turn.machine c.args.turn.seat c.args.turn.next c.requires.turn c.requires.after e.3)

pub invariant_of-result : goal.invariant_of-result
invariant_of-result g c =
    let m = g.W.Work.meaning in
    let old = c.args.turn.place.me in
    let legal = legal_seen m old.0 c.args.turn.machine c.requires.after c.history.ensures.legal c.history.ensures.issued in
    outside_left m old.0 c.store.new.seat.me c.args.turn.seat c.args.turn.next c.requires.turn.placed legal (left_turn old c.exchange.new.seat.me c.store.new.seat.me c.args.turn.machine c.args.turn.seat c.args.turn.next c.requires.turn c.exchange.ensures.3 c.store.ensures.2)

pub returns-clause-pass : goal.returns-clause-pass
returns-clause-pass g c =
    let old = c.args.turn.place.me in
    ap (λ d. token_of d c.store.new.seat.me.0) (c.store.ensures.0 ∙ (c.exchange.ensures.0 ∙ c.requires.desk))
    ∙ ap (λ m. token_of c.args.self.now.desk m.0) (left_turn old c.exchange.new.seat.me c.store.new.seat.me c.args.turn.machine c.args.turn.seat c.args.turn.next c.requires.turn c.exchange.ensures.3 c.store.ensures.2)

pub returns-clause-legal : goal.returns-clause-legal
returns-clause-legal g c =
    let m = g.W.Work.meaning in
    let old = c.args.turn.place.me in
    let legal = legal_seen m old.0 c.args.turn.machine c.requires.after c.history.ensures.legal c.history.ensures.issued in
    (outside_left m old.0 c.store.new.seat.me c.args.turn.seat c.args.turn.next c.requires.turn.placed legal (left_turn old c.exchange.new.seat.me c.store.new.seat.me c.args.turn.machine c.args.turn.seat c.args.turn.next c.requires.turn c.exchange.ensures.3 c.store.ensures.2)).legal.legal
