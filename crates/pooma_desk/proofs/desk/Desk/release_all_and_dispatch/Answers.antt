use Rattle.std.proofs.Common.{◌≡◌, ◌<◌, ◌++◌, ◌↔◌, All, ℕ, IsTrue, false, length, sym, ap, ◌∙◌, subst}
use Rattle.pooma_machine.specs.declared.step.EventKind.TheVariants as kind
use Rattle.pooma_machine.specs.Steps.{IsLeastReady}
use Rattle.pooma_machine.specs.Values.{IsComplete, asks_of}
use Rattle.pooma_desk.specs.Readied.{NoneReady}
use Rattle.pooma_desk.specs.Tokens.{Started, AddsAll, IsLoanOf, plan_of, history_of, all_called, entries_of}
use Rattle.pooma_desk.proofs.Asking.{plan_told}
use Rattle.pooma_desk.proofs.Turning.{told_of}
use Rattle.pooma_desk.proofs.Several.{adds_more_at, calls_called}
use Rattle.pooma_desk.proofs.Handing.{ends_handed}
use Rattle.pooma_desk.proofs.desk.Desk.release_all_and_dispatch.Goals as goal

pub dispatch_ready-short-requires-clause-start : goal.dispatch_ready-short-requires-clause-start
dispatch_ready-short-requires-clause-start g c = ap (λ (s : Started _ _). s.machine) (c.enter_and_release_all-turn.ensures.adds.same.from ∙ c.requires.desk)

pub returns-clause-adds : goal.returns-clause-adds
returns-clause-adds g c =
    let t = c.enter_and_release_all-turn in
    let d = c.dispatch_ready-short in
    let released = all_called kind.Release c.args.pass.seat (entries_of c.args.done.items) in
    let loans = entries_of d.new.loans.items in
    let adds = adds_more_at c.args.self.now.desk c.args.pass c.leave.result t.result.place.me.0 t.result.seat t.result.next released (all_called kind.Dispatch t.result.seat loans) _ _ t.ensures.turn.placed (λ seats is. calls_called seats kind.Dispatch t.result.seat loans is) t.ensures.adds d.ensures.noted c.leave.ensures.pass in
    subst (λ s. AddsAll c.args.pass c.leave.result (released ++ all_called kind.Dispatch s loans)) t.ensures.seat adds

pub returns-clause-least : goal.returns-clause-least
returns-clause-least g c =
    let t = c.enter_and_release_all-turn in
    let d = c.dispatch_ready-short in
    ends_handed g.W.Work.meaning c.args.self.now.desk c.leave.result t.result.place.me d.new.turn.place.me c.args.pass.seat t.result.seat c.args.from (entries_of d.new.loans.items) d.ensures.noted t.ensures.seat c.leave.ensures.pass d.ensures.least

pub returns-clause-loans : goal.returns-clause-loans
returns-clause-loans g c = subst (λ t. All (IsLoanOf g.W.Work.meaning t) c.dispatch_ready-short.new.loans.items) (sym c.leave.ensures.pass) c.dispatch_ready-short.ensures.loans

pub returns-clause-none : goal.returns-clause-none
returns-clause-none g c = subst (λ t. c.dispatch_ready-short.result ≡ false → length c.dispatch_ready-short.new.loans.items < c.args.most → NoneReady (asks_of g.W.Work.meaning (plan_of t)) (history_of t) c.args.from) (sym c.leave.ensures.pass) c.dispatch_ready-short.ensures.none

pub returns-clause-short : goal.returns-clause-short
returns-clause-short g c = subst (λ t. IsTrue c.dispatch_ready-short.result → (length c.dispatch_ready-short.new.loans.items < c.args.most) × (j : ℕ) × IsLeastReady (asks_of g.W.Work.meaning (plan_of t)) (history_of t) c.args.from j) (sym c.leave.ensures.pass) c.dispatch_ready-short.ensures.short

pub returns-clause-issued : goal.returns-clause-issued
returns-clause-issued g c =
    let d = c.dispatch_ready-short in
    c.issued-issued.ensures ∙ ap length (sym (plan_told c.args.self.now.desk c.leave.result d.new.turn.place.me.0 d.new.turn.machine c.leave.ensures.pass d.ensures.after))

pub returns-clause-all_released : goal.returns-clause-all_released
returns-clause-all_released g c =
    let d = c.dispatch_ready-short in
    told_of c.args.self.now.desk c.leave.result d.new.turn.place.me.0 d.new.turn.machine (λ plan history. IsTrue c.all_released-all_released.result ↔ IsComplete plan history) c.leave.ensures.pass d.ensures.after c.all_released-all_released.ensures
