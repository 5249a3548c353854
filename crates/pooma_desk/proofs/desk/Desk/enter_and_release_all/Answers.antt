use Rattle.std.proofs.Common.{◌++◌, get_or, refl, ap, ◌∙◌, subst}
use Rattle.pooma_machine.specs.declared.step.EventKind.TheVariants as kind
use Rattle.pooma_desk.specs.Seen.{works_of, events_of}
use Rattle.pooma_desk.specs.Tokens.{Started, AddsAll, plan_of, history_of, all_called, entries_of, token_of}
use Rattle.pooma_desk.proofs.Turning.{legal_seen}
use Rattle.pooma_desk.proofs.Lending.{loan_in_turn, out_there, legal_grows}
use Rattle.pooma_desk.proofs.Several.{adds_all_at, calls_called}
use Rattle.pooma_desk.proofs.desk.Desk.enter_and_release_all.Goals as goal

pub release_each-requires-clause-start : goal.release_each-requires-clause-start
release_each-requires-clause-start g c = ap (λ (s : Started _ _). s.machine) (c.enter-turn.ensures.looks.same.from ∙ c.requires.desk)

pub release_each-requires-clause-loans : goal.release_each-requires-clause-loans
release_each-requires-clause-loans g c = λ k d below.
    let t = c.enter-turn in
    let v = t.result.place.me.0 in
    let looks = t.ensures.looks in
    let pass = c.args.pass in
    let h = c.requires.loans k d below in
    let one = get_or c.args.done.items k d in
    let j = one.entry in
    let legal = legal_seen g.W.Work.meaning v t.result.machine t.ensures.after c.history.ensures.legal c.history.ensures.issued in
    let tell = c.legal_histories_tell.ensures in
    let stay = c.values_stay.ensures in
    let was = t.ensures.was_legal in
    let lent = (tell.seat (history_of pass) j).1 (h.out.dispatch.event.seat, (tell.dispatched (plan_of pass) (history_of pass) was j h.out.dispatch.event.seat).1 (out_there pass j h.out)) in
    loan_in_turn g.W.Work.meaning c.args.self.now.desk pass v t.result.machine one looks t.ensures.after
    (stay.longer_plan (plan_of pass) pass.from.machine.opening (history_of pass) was (works_of looks.more))
    (stay.lent (plan_of pass ++ works_of looks.more) pass.from.machine.opening (history_of pass) (events_of looks.more) (legal_grows g.W.Work.meaning c.args.self.now.desk pass v looks legal) j lent)
    h

pub returns-clause-adds : goal.returns-clause-adds
returns-clause-adds g c =
    let t = c.enter-turn in
    let desk = c.args.self.now.desk in
    let r = c.release_each in
    let now = token_of desk r.new.turn.place.me.0 in
    let entries = entries_of c.args.done.items in
    let adds = adds_all_at desk c.args.pass now t.result.place.me.0 t.result.seat t.result.next (all_called kind.Release t.result.seat entries) _ _ t.ensures.turn.placed (λ seats is. calls_called seats kind.Release t.result.seat entries is) t.ensures.looks r.ensures.noted refl in
    subst (λ s. AddsAll c.args.pass now (all_called kind.Release s entries)) t.ensures.seat adds
