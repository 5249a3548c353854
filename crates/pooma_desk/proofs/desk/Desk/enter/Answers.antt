use Rattle.std.proofs.Common.{sym, ap, ◌∙◌, subst}
use Rattle.pooma_desk.specs.Rule.{first_of}
use Rattle.pooma_desk.specs.Tokens.{Started, Token, Looks, IsLegalFor, token_of}
use Rattle.pooma_desk.specs.Turns.{IsResting}
use Rattle.pooma_desk.specs.Steps.{HasTaken}
use Rattle.pooma_desk.proofs.Turning.{resting_outside}
use Rattle.pooma_desk.proofs.Asking.{looks_from}
use Rattle.pooma_desk.proofs.desk.Desk.enter.Goals as goal

pub try_take-requires-clause-desk : goal.try_take-requires-clause-desk
try_take-requires-clause-desk g c = c.loop.invariant.2 ∙ (ap (λ (t : Token _ _). t.from.desk) c.pass.view_is ∙ ap (λ (s : Started _ _). s.desk) c.requires)

pub try_take-requires-clause-resting : goal.try_take-requires-clause-resting
try_take-requires-clause-resting g c = subst (λ m. IsResting m.0) (sym c.loop.invariant.3) (resting_outside _ _ _ _ c.pass.invariant)

pub try_take-requires-clause-none : goal.try_take-requires-clause-none
try_take-requires-clause-none g c = ap (λ m. m.1) c.loop.invariant.3 ∙ c.pass.invariant.none

pub try_take-requires-clause-seat : goal.try_take-requires-clause-seat
try_take-requires-clause-seat g c = ap (λ m. first_of m.0.seats) c.loop.invariant.3 ∙ ap first_of c.pass.invariant.placed.own

pub returns-then-try_take-clause-looks : goal.returns-then-try_take-clause-looks
returns-then-try_take-clause-looks g c =
    let t = c.try_take.ensures.taken c.if-try_take.true in
    let taken = subst (λ m. HasTaken m.0 c.try_take.new.place.me.0 t.0) c.loop.invariant.3 t.1 in
    let here = ap (λ (t : Token _ _). t.from.desk) c.pass.view_is ∙ ap (λ (s : Started _ _). s.desk) c.requires in
    let w = ap (λ m. m.0) c.take_out-machine.ensures.known in
    subst (λ z. Looks c.args.pass (token_of c.args.self.now.desk z)) (sym w) (looks_from c.args.self.now.desk c.pass.inside.place.table_id c.args.pass c.pass.inside.place.me.0 c.try_take.new.place.me.0 t.0 c.pass.inside.seat c.pass.inside.next c.pass.view_is here c.pass.invariant.placed taken)

pub returns-then-try_take-clause-was_legal : goal.returns-then-try_take-clause-was_legal
returns-then-try_take-clause-was_legal g c = subst (IsLegalFor g.W.Work.meaning) c.pass.view_is c.pass.invariant.legal.legal
