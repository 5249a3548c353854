use Rattle.std.proofs.Common.{◌≡◌, Some, sym, ap, ◌∙◌, subst, slice_get}
use Rattle.pooma_machine.specs.declared.step.EventKind.TheVariants as kind
use Rattle.pooma_machine.specs.Steps.{IsReady}
use Rattle.pooma_machine.specs.Values.{asks_of}
use Rattle.pooma_desk.specs.Tokens.{Adds, AddsTwo, HasOut, called, plan_of, values_after}
use Rattle.pooma_worker.proofs.Doing.{IsUnderway, underway_first, underway_next, underway_last, works_from_none}
use Rattle.pooma_worker.proofs.worker.follow.Goals as goal

pub returns-in-Err-clause-works : goal.returns-in-Err-clause-works
returns-in-Err-clause-works g c = works_from_none c.args.pass c.dispatch-lent.result.0 c.args.entry (rw c.in-Err.is at c.dispatch-lent.ensures.err)

pub loop-init : goal.loop-init
loop-init g c =
    let pass = c.dispatch-lent.result.0 in
    let loan = c.in-Ok.loan in
    let e = c.dispatch-lent.ensures in
    let entry = rw c.in-Ok.is at e.entry in (
      tt,
      tt,
      subst (IsUnderway c.args.pass pass c.args.entry) (sym entry) (underway_first c.args.pass pass c.args.entry (rw c.in-Ok.is at e.ok)),
      subst (HasOut pass) (sym entry) (rw c.in-Ok.is at e.out),
      subst (λ j. slice_get (plan_of pass) j ≡ Some loan.work) (sym entry) (rw c.in-Ok.is at e.work),
      subst (λ j. loan.lent ≡ (values_after g.W.Work.meaning pass).lent j) (sym entry) (rw c.in-Ok.is at e.lent),
    )

pub release_and_dispatch-after-requires-clause-desk : goal.release_and_dispatch-after-requires-clause-desk
release_and_dispatch-after-requires-clause-desk g c = c.loop.invariant.2.same.from ∙ c.requires.desk

pub release_and_dispatch-after-requires-clause-out : goal.release_and_dispatch-after-requires-clause-out
release_and_dispatch-after-requires-clause-out g c = subst (HasOut c.loop.pass) (sym c.perform.ensures.entry) c.loop.invariant.3

pub release_and_dispatch-after-requires-clause-work : goal.release_and_dispatch-after-requires-clause-work
release_and_dispatch-after-requires-clause-work g c = subst (λ j. slice_get (plan_of c.loop.pass) j ≡ Some c.perform.result.work) (sym c.perform.ensures.entry) (c.loop.invariant.4 ∙ ap Some (sym c.perform.ensures.work))

pub release_and_dispatch-after-requires-clause-lent : goal.release_and_dispatch-after-requires-clause-lent
release_and_dispatch-after-requires-clause-lent g c = subst (λ j. c.perform.result.lent ≡ (values_after g.W.Work.meaning c.loop.pass).lent j) (sym c.perform.ensures.entry) (c.perform.ensures.lent ∙ c.loop.invariant.5)

pub returns-in_default-clause-works : goal.returns-in_default-clause-works
returns-in_default-clause-works g c =
    let after = c.release_and_dispatch-after.result.0 in
    let adds = rw c.in_default.is at c.release_and_dispatch-after.ensures.err in
    underway_last c.args.pass c.loop.pass after c.args.entry c.loop.loan.entry c.loop.invariant.2 (subst (λ j. Adds c.loop.pass after (called kind.Release j c.loop.pass.seat)) c.perform.ensures.entry adds)

pub returns-in_default-clause-short : goal.returns-in_default-clause-short
returns-in_default-clause-short g c =
    let after = c.release_and_dispatch-after.result.0 in
    let ready = rw c.in_default.is at c.release_and_dispatch-after.ensures.ready in
    λ short. (ready.2.0, subst (λ h. IsReady (asks_of g.W.Work.meaning (plan_of after)) h ready.2.0) (sym ready.1) ready.2.1.readied.0)

pub returns-in_default-next-clause-works : goal.returns-in_default-next-clause-works
returns-in_default-next-clause-works g c =
    let after = c.release_and_dispatch-after.result.0 in
    let adds = rw (c.in-Ok-answer.is, c.in_default-next.is) at c.release_and_dispatch-after.ensures.released in
    underway_last c.args.pass c.loop.pass after c.args.entry c.loop.loan.entry c.loop.invariant.2 (subst (λ j. Adds c.loop.pass after (called kind.Release j c.loop.pass.seat)) c.perform.ensures.entry adds)

pub loop-preserved : goal.loop-preserved
loop-preserved g c =
    let after = c.release_and_dispatch-after.result.0 in
    let e = c.release_and_dispatch-after.ensures in
    let next = c.in-Some-next.next in
    let two = rw (c.in-Ok-answer.is, c.in-Some-next.is) at e.next in (
      tt,
      tt,
      underway_next c.args.pass c.loop.pass after c.args.entry c.loop.loan.entry next.entry c.loop.invariant.2
          (subst (λ j. AddsTwo c.loop.pass after (called kind.Release j c.loop.pass.seat) (called kind.Dispatch next.entry c.loop.pass.seat)) c.perform.ensures.entry two),
      rw (c.in-Ok-answer.is, c.in-Some-next.is) at e.out,
      rw (c.in-Ok-answer.is, c.in-Some-next.is) at e.work,
      rw (c.in-Ok-answer.is, c.in-Some-next.is) at e.lent,
    )
