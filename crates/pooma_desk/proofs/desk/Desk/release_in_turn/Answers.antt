use Rattle.std.proofs.Common.{◌≡◌, [], ◌∷◌, ◌++◌, ℕ, Some, refl, sym, ap, ◌∙◌, subst, slice_get}
use Rattle.pooma_machine.specs.declared.step.EventKind.TheVariants as kind
use Rattle.pooma_machine.specs.Steps.{event_of}
use Rattle.pooma_machine.specs.Values.{asks_of}
use Rattle.pooma_machine.specs.Became.{TellsReady}
use Rattle.pooma_desk.specs.Rule.{IsAfter, MayNote}
use Rattle.pooma_desk.specs.Steps.{noting}
use Rattle.pooma_desk.specs.Tokens.{called, token_of}
use Rattle.pooma_desk.proofs.Turning.{legal_seen, told_of}
use Rattle.pooma_desk.proofs.Calls.{out_in_turn, may_release}
use Rattle.pooma_desk.proofs.Asking.{in_turn_noting}
use Rattle.pooma_desk.proofs.Lending.{after_called, out_in_machine, looks_self, values_told, history_told}
use Rattle.pooma_desk.proofs.desk.Desk.release_in_turn.Goals as goal

same_some : {a b : ℕ} → Some a ≡ Some b → a ≡ b
same_some e = cc

pub release-became-requires-clause-out : goal.release-became-requires-clause-out
release-became-requires-clause-out g c =
    let t = c.args.turn.now in
    let v = t.place.me.0 in
    let now = token_of c.args.self.now.desk v in
    let legal = legal_seen g.W.Work.meaning v t.machine c.requires.after c.history.ensures.legal c.history.ensures.issued in
    let out = out_in_turn c.args.self.now.desk now v t.seat t.next c.args.done.entry c.requires.turn.placed (looks_self now) c.requires.loan.out in
    let grow = c.legal_histories_grow.ensures in
    let tell = c.legal_histories_tell.ensures in
    out_in_machine g.W.Work.meaning now v t.machine c.args.done.entry c.requires.after legal out
    (λ front later event is. grow.comes _ front later event is)
    (λ front later is. grow.front _ front later is)
    (λ front is at there. (tell.released _ front is c.args.done.entry).1 (at, there))
    (λ seat there never. tell.out _ _ legal.legal c.args.done.entry seat there never)

pub release-became-requires-clause-work : goal.release-became-requires-clause-work
release-became-requires-clause-work g c = ap (λ l. slice_get l c.args.done.entry) c.requires.after.plan ∙ c.requires.loan.work

pub release-became-requires-clause-lent : goal.release-became-requires-clause-lent
release-became-requires-clause-lent g c =
    let t = c.args.turn.now in
    c.requires.loan.lent ∙ ap (λ x. x.lent c.args.done.entry) (sym (values_told g.W.Work.meaning c.args.self.now.desk (token_of c.args.self.now.desk t.place.me.0) t.place.me.0 t.machine refl c.requires.after))

pub note_called-requires-clause-may : goal.note_called-requires-clause-may
note_called-requires-clause-may g c =
    let t = c.args.turn.now in
    let v = t.place.me.0 in
    let now = token_of c.args.self.now.desk v in
    let legal = legal_seen g.W.Work.meaning v t.machine c.requires.after c.history.ensures.legal c.history.ensures.issued in
    let out = out_in_turn c.args.self.now.desk now v t.seat t.next c.args.done.entry c.requires.turn.placed (looks_self now) c.requires.loan.out in
    let tell = c.legal_histories_tell.ensures in
    let may = subst (λ n. MayNote v (called kind.Release n t.seat)) (sym c.entry.ensures) (may_release now v t.seat t.next c.args.done.entry c.requires.turn.placed out
    (λ at other one two. same_some (sym ((tell.dispatched _ _ legal.legal c.args.done.entry at).1 one) ∙ (tell.dispatched _ _ legal.legal c.args.done.entry other).1 two))) in
    may

pub note_called-requires-clause-after : goal.note_called-requires-clause-after
note_called-requires-clause-after g c =
    let e = c.release-became.ensures in
    let t = c.args.turn.now in
    let history = e.history ∙ ap (λ n. t.machine.history ++ event_of kind.Release n t.seat ∷ []) (sym c.entry.ensures) in
    let after = after_called _ t.machine c.release-became.new.self _ (event_of kind.Release c.entry.result t.seat) c.requires.after e.plan e.opening history in
    after

pub returns-clause-turn : goal.returns-clause-turn
returns-clause-turn g c =
    let t = c.args.turn.now in
    let v = t.place.me.0 in
    let now = token_of c.args.self.now.desk v in
    let legal = legal_seen g.W.Work.meaning v t.machine c.requires.after c.history.ensures.legal c.history.ensures.issued in
    let out = out_in_turn c.args.self.now.desk now v t.seat t.next c.args.done.entry c.requires.turn.placed (looks_self now) c.requires.loan.out in
    let tell = c.legal_histories_tell.ensures in
    let may = subst (λ n. MayNote v (called kind.Release n t.seat)) (sym c.entry.ensures) (may_release now v t.seat t.next c.args.done.entry c.requires.turn.placed out
    (λ at other one two. same_some (sym ((tell.dispatched _ _ legal.legal c.args.done.entry at).1 one) ∙ (tell.dispatched _ _ legal.legal c.args.done.entry other).1 two))) in
    in_turn_noting _ _ _ _ _ c.requires.turn may c.note_called.ensures.known

pub returns-clause-after : goal.returns-clause-after
returns-clause-after g c =
    let e = c.release-became.ensures in
    let t = c.args.turn.now in
    let history = e.history ∙ ap (λ n. t.machine.history ++ event_of kind.Release n t.seat ∷ []) (sym c.entry.ensures) in
    let after = after_called _ t.machine c.release-became.new.self _ (event_of kind.Release c.entry.result t.seat) c.requires.after e.plan e.opening history in
    subst (λ m. IsAfter m.0.start.machine c.release-became.new.self m.0.seen) (sym c.note_called.ensures.known) after

pub returns-clause-noted : goal.returns-clause-noted
returns-clause-noted g c =
    let t = c.args.turn.now in
    c.note_called.ensures.known ∙ ap (λ n. (noting t.place.me.0 (called kind.Release n t.seat), t.place.me.1)) c.entry.ensures

pub returns-clause-became : goal.returns-clause-became
returns-clause-became g c =
    let e = c.release-became.ensures in
    let t = c.args.turn.now in
    let desk = c.args.self.now.desk in
    let now = token_of desk c.note_called.new.place.me.0 in
    let history = e.history ∙ ap (λ n. t.machine.history ++ event_of kind.Release n t.seat ∷ []) (sym c.entry.ensures) in
    let after = subst (λ m. IsAfter m.0.start.machine c.release-became.new.self m.0.seen) (sym c.note_called.ensures.known) (after_called _ t.machine c.release-became.new.self _ (event_of kind.Release c.entry.result t.seat) c.requires.after e.plan e.opening history) in
    let whole = history_told desk now c.note_called.new.place.me.0 c.release-became.new.self refl after ∙ e.history in (
      t.machine.history,
      whole,
      told_of desk now c.note_called.new.place.me.0 c.release-became.new.self (λ plan history. TellsReady (asks_of g.W.Work.meaning plan) t.machine.history history c.release-became.result) refl after (subst (λ p. TellsReady (asks_of g.W.Work.meaning p) t.machine.history c.release-became.new.self.history c.release-became.result) (sym e.plan) e.became),
    )
