use Rattle.std.proofs.Common.{[], ◌∷◌, ◌++◌, refl, ap, ◌∙◌, subst}
use Rattle.pooma_machine.specs.declared.step.EventKind.TheVariants as kind
use Rattle.pooma_machine.specs.Steps.{event_of}
use Rattle.pooma_machine.specs.Values.{asks_of}
use Rattle.pooma_machine.specs.Became.{TellsReady}
use Rattle.pooma_desk.specs.Seen.{works_of, events_of}
use Rattle.pooma_desk.specs.Readied.{EndsWith}
use Rattle.pooma_desk.specs.Tokens.{Started, Adds, called, plan_of, history_of, token_of}
use Rattle.pooma_desk.proofs.Turning.{adds_at, legal_seen}
use Rattle.pooma_desk.proofs.Lending.{loan_in_turn, out_there, legal_grows}
use Rattle.pooma_desk.proofs.desk.Desk.enter_and_release.Goals as goal

pub release_in_turn-became-requires-clause-start : goal.release_in_turn-became-requires-clause-start
release_in_turn-became-requires-clause-start g c = ap (λ (s : Started _ _). s.machine) (c.enter-turn.ensures.looks.same.from ∙ c.requires.desk)

pub release_in_turn-became-requires-clause-loan : goal.release_in_turn-became-requires-clause-loan
release_in_turn-became-requires-clause-loan g c =
    let t = c.enter-turn in
    let v = t.result.place.me.0 in
    let looks = t.ensures.looks in
    let pass = c.args.pass in
    let j = c.args.done.entry in
    let legal = legal_seen g.W.Work.meaning v t.result.machine t.ensures.after c.history.ensures.legal c.history.ensures.issued in
    let tell = c.legal_histories_tell.ensures in
    let stay = c.values_stay.ensures in
    let was = t.ensures.was_legal in
    let lent = (tell.seat (history_of pass) j).1 (c.requires.loan.out.dispatch.event.seat, (tell.dispatched (plan_of pass) (history_of pass) was j c.requires.loan.out.dispatch.event.seat).1 (out_there pass j c.requires.loan.out)) in
    loan_in_turn g.W.Work.meaning c.args.self.now.desk pass v t.result.machine c.args.done looks t.ensures.after
    (stay.longer_plan (plan_of pass) pass.from.machine.opening (history_of pass) was (works_of looks.more))
    (stay.lent (plan_of pass ++ works_of looks.more) pass.from.machine.opening (history_of pass) (events_of looks.more) (legal_grows g.W.Work.meaning c.args.self.now.desk pass v looks legal) j lent)
    c.requires.loan

pub returns-clause-adds : goal.returns-clause-adds
returns-clause-adds g c =
    let t = c.enter-turn in
    let desk = c.args.self.now.desk in
    let r = c.release_in_turn-became in
    let now = token_of desk r.new.turn.place.me.0 in
    let adds = adds_at desk c.args.pass now t.result.place.me.0 t.result.seat t.result.next (called kind.Release c.args.done.entry t.result.seat) _ _ t.ensures.turn.placed refl t.ensures.looks r.ensures.noted refl in
    subst (λ s. Adds c.args.pass now (called kind.Release c.args.done.entry s)) t.ensures.seat adds

pub returns-clause-became : goal.returns-clause-became
returns-clause-became g c =
    let t = c.enter-turn in
    let r = c.release_in_turn-became in
    let now = token_of c.args.self.now.desk r.new.turn.place.me.0 in
    subst (λ s. EndsWith (history_of now) (event_of kind.Release c.args.done.entry s ∷ []) (λ before. TellsReady (asks_of g.W.Work.meaning (plan_of now)) before (history_of now) r.result)) t.ensures.seat r.ensures.became
