use Rattle.std.proofs.Common.{◌<◌, length, refl, sym, ap, ◌∙◌, subst}
use Rattle.std.specs.Prelude.{slice_get}
use Rattle.pooma_machine.specs.declared.step.EventKind.TheVariants as kind
use Rattle.pooma_desk.specs.Rule.{IsAfter}
use Rattle.pooma_desk.specs.Tokens.{called, token_of}
use Rattle.pooma_desk.proofs.Asking.{in_turn_noting, plan_told}
use Rattle.pooma_desk.proofs.Lending.{after_called, out_noted, values_told, may_note_dispatch}
use Rattle.pooma_desk.proofs.desk.Desk.dispatch_in_turn.Goals as goal

pub dispatch-requires : goal.dispatch-requires
dispatch-requires g c = subst (λ l. c.args.j < length l) (sym c.requires.after.plan) c.requires.issued

pub note_called-requires-clause-may : goal.note_called-requires-clause-may
note_called-requires-clause-may g c =
    let t = c.args.turn.now in
    may_note_dispatch g.W.Work.meaning t.place.me.0 t.machine t.seat t.next c.args.j c.requires.turn.placed c.requires.after c.history.ensures.legal c.history.ensures.issued c.in-Ok.ensures.ready.0 c.legal_histories_tell.ensures.released

pub note_called-requires-clause-after : goal.note_called-requires-clause-after
note_called-requires-clause-after g c =
    let e = c.in-Ok.ensures in
    after_called _ _ _ _ _ c.requires.after e.plan e.opening e.history

pub returns-in-Ok-clause-turn : goal.returns-in-Ok-clause-turn
returns-in-Ok-clause-turn g c =
    let t = c.args.turn.now in
    in_turn_noting _ _ _ _ _ c.requires.turn (may_note_dispatch g.W.Work.meaning t.place.me.0 t.machine t.seat t.next c.args.j c.requires.turn.placed c.requires.after c.history.ensures.legal c.history.ensures.issued c.in-Ok.ensures.ready.0 c.legal_histories_tell.ensures.released) c.note_called.ensures.known

pub returns-in-Ok-clause-after : goal.returns-in-Ok-clause-after
returns-in-Ok-clause-after g c =
    let e = c.in-Ok.ensures in
    subst (λ m. IsAfter m.0.start.machine c.dispatch.new.self m.0.seen) (sym c.note_called.ensures.known) (after_called _ _ _ _ _ c.requires.after e.plan e.opening e.history)

pub returns-in-Ok-clause-out : goal.returns-in-Ok-clause-out
returns-in-Ok-clause-out g c =
    let t = c.args.turn.now in
    let may = may_note_dispatch g.W.Work.meaning t.place.me.0 t.machine t.seat t.next c.args.j c.requires.turn.placed c.requires.after c.history.ensures.legal c.history.ensures.issued c.in-Ok.ensures.ready.0 c.legal_histories_tell.ensures.released in
    out_noted c.args.self.now.desk (token_of c.args.self.now.desk c.note_called.new.place.me.0) t.place.me.0 t.seat t.next c.args.j (called kind.Dispatch c.args.j t.seat) _ _ c.requires.turn.placed may refl refl c.note_called.ensures.known refl

pub returns-in-Ok-clause-work : goal.returns-in-Ok-clause-work
returns-in-Ok-clause-work g c =
    let e = c.in-Ok.ensures in
    let after = subst (λ m. IsAfter m.0.start.machine c.dispatch.new.self m.0.seen) (sym c.note_called.ensures.known) (after_called _ _ _ _ _ c.requires.after e.plan e.opening e.history) in
    let now = token_of c.args.self.now.desk c.note_called.new.place.me.0 in
    ap (λ l. slice_get l c.args.j) (plan_told c.args.self.now.desk now c.note_called.new.place.me.0 c.dispatch.new.self refl after ∙ e.plan) ∙ e.work

pub returns-in-Ok-clause-lent : goal.returns-in-Ok-clause-lent
returns-in-Ok-clause-lent g c =
    let e = c.in-Ok.ensures in
    let after = subst (λ m. IsAfter m.0.start.machine c.dispatch.new.self m.0.seen) (sym c.note_called.ensures.known) (after_called _ _ _ _ _ c.requires.after e.plan e.opening e.history) in
    let now = token_of c.args.self.now.desk c.note_called.new.place.me.0 in
    e.lent ∙ ap (λ x. x.lent c.args.j) (values_told g.W.Work.meaning c.args.self.now.desk now c.note_called.new.place.me.0 c.dispatch.new.self refl after)
