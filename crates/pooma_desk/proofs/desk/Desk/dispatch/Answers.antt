use Rattle.std.proofs.Common.{◌≡◌, Some, refl, sym, ap, ◌∙◌, subst, slice_get}
use Rattle.pooma_machine.specs.declared.step.EventKind.TheVariants as kind
use Rattle.pooma_machine.specs.Causes.{Explains}
use Rattle.pooma_machine.specs.Values.{asks_of}
use Rattle.pooma_desk.specs.Tokens.{Adds, Looks, HasOut, called, plan_of, history_of, values_after, token_of}
use Rattle.pooma_desk.proofs.Turning.{adds_at}
use Rattle.pooma_desk.proofs.Lending.{issued_in_turn}
use Rattle.pooma_desk.proofs.desk.Desk.dispatch.Goals as goal

pub dispatch_in_turn-requires-clause-issued : goal.dispatch_in_turn-requires-clause-issued
dispatch_in_turn-requires-clause-issued g c = issued_in_turn c.args.self.now.desk c.args.pass c.enter-turn.result.place.me.0 c.args.j c.enter-turn.ensures.looks c.requires.issued

pub returns-in-Ok-clause-ok : goal.returns-in-Ok-clause-ok
returns-in-Ok-clause-ok g c =
    let t = c.enter-turn in
    let adds = adds_at c.args.self.now.desk c.args.pass c.leave.result t.result.place.me.0 t.result.seat t.result.next (called kind.Dispatch c.args.j t.result.seat) _ _ t.ensures.turn.placed refl t.ensures.looks c.in-Ok.ensures.noted c.leave.ensures.pass in
    subst (λ s. Adds c.args.pass c.leave.result (called kind.Dispatch c.args.j s)) t.ensures.seat adds

pub returns-in-Ok-clause-out : goal.returns-in-Ok-clause-out
returns-in-Ok-clause-out g c = subst (λ t. HasOut t c.args.j) (sym c.leave.ensures.pass) c.in-Ok.ensures.out

pub returns-in-Ok-clause-work : goal.returns-in-Ok-clause-work
returns-in-Ok-clause-work g c = subst (λ t. slice_get (plan_of t) c.args.j ≡ Some c.in-Ok.loan.work) (sym c.leave.ensures.pass) c.in-Ok.ensures.work

pub returns-in-Ok-clause-lent : goal.returns-in-Ok-clause-lent
returns-in-Ok-clause-lent g c = subst (λ t. c.in-Ok.loan.lent ≡ (values_after g.W.Work.meaning t).lent c.args.j) (sym c.leave.ensures.pass) c.in-Ok.ensures.lent

pub returns-in-Err-clause-err : goal.returns-in-Err-clause-err
returns-in-Err-clause-err g c = subst (Looks c.args.pass) (sym (c.leave-in-Err.ensures.pass ∙ ap (λ m. token_of c.args.self.now.desk m.0) c.in-Err.ensures.err)) c.enter-turn.ensures.looks

pub returns-in-Err-clause-refused : goal.returns-in-Err-clause-refused
returns-in-Err-clause-refused g c = subst (λ t. Explains (asks_of g.W.Work.meaning (plan_of t)) (history_of t) c.args.j c.in-Err.error) (sym c.leave-in-Err.ensures.pass) c.in-Err.ensures.refused
