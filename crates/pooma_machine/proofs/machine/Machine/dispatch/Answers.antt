use Rattle.std.proofs.Common.{◌∙◌, ap, sym, Err}
use Rattle.std.specs.Arc.{arc_value}
use Rattle.pooma_machine.specs.Values.{Loaned, asks_of}
use Rattle.pooma_machine.proofs.Dispatching.{all_home, lent_now, lent_fits}
use Rattle.pooma_machine.proofs.Keeps.{explained_once, held_back_blocked}
use Rattle.pooma_machine.proofs.Lending.{err_is}
use Rattle.pooma_machine.specs.declared.refusal.DispatchError.TheVariants.{NotReady}
use Rattle.pooma_machine.proofs.Worth.{matches_dispatch, lent_own, length_put}
use Rattle.pooma_machine.proofs.machine.Machine.dispatch.Goals as goal

pub returns-in_err-check-clause-not_ready : goal.returns-in_err-check-clause-not_ready
returns-in_err-check-clause-not_ready g c object by held =
    err_is c.from_residual.result c.in_err-check.field-0.0 c.from_residual.ensures.1 ∙ ap Err (explained_once (asks_of g.W.Work.meaning c.self.inside.table.plan) c.self.inside.table.history c.args.j c.in_err-check.field-0.0 (NotReady object by) c.in_err-check.ensures.refused (rw (← c.self.view_is) at held))

pub lend-requires-clause-home : goal.lend-requires-clause-home
lend-requires-clause-home g c = all_home g.W.Work.meaning c.self.inside.table.plan _ c.self.inside.table.history c.self.inside.objects c.self.inside.outcomes.items (arc_value c.shared_work.result.now) c.args.j c.self.invariant.0 c.shared_work.ensures c.in_ok-check.ensures.ready

pub lend-requires-clause-fits : goal.lend-requires-clause-fits
lend-requires-clause-fits g c = lent_fits g.W.Work.meaning c.self.inside.table.plan _ c.self.inside.table.history c.self.inside.objects c.self.inside.outcomes.items (arc_value c.shared_work.result.now) c.args.j c.self.invariant.0 c.shared_work.ensures c.in_ok-check.ensures.ready

pub returns-in_default-clause-not_ready : goal.returns-in_default-clause-not_ready
returns-in_default-clause-not_ready g c object by held =
    absurd (held_back_blocked (asks_of g.W.Work.meaning c.self.inside.table.plan) c.self.inside.table.history c.args.j object by (rw (← c.self.view_is) at held) c.in_ok-check.ensures.ready.1)

pub invariant_of-self-2 : goal.invariant_of-self-2
invariant_of-self-2 g c =
    let e = c.dispatch.ensures in
    rw (e.plan, e.history, e.objects, e.spare, c.in-Ok.ensures.away) (
      matches_dispatch g.W.Work.meaning c.self.inside.table.plan _ c.self.inside.table.history c.self.inside.objects c.self.inside.outcomes.items (arc_value c.shared_work.result.now) c.args.j c.args.seat c.self.invariant.0 c.shared_work.ensures c.in_ok-check.ensures.ready,
      c.self.invariant.1 ∙ sym (length_put c.self.inside.objects _ _),
      c.self.invariant.2,
    )

pub returns-clause-ready : goal.returns-clause-ready
returns-clause-ready g c = rw (← c.self.view_is) c.in_ok-check.ensures.ready

pub returns-clause-not_ready : goal.returns-clause-not_ready
returns-clause-not_ready g c object by held =
    absurd (held_back_blocked (asks_of g.W.Work.meaning c.self.inside.table.plan) c.self.inside.table.history c.args.j object by (rw (← c.self.view_is) at held) c.in_ok-check.ensures.ready.1)

pub returns-clause-lent : goal.returns-clause-lent
returns-clause-lent g c =
    rw (c.dispatch.ensures.plan, c.dispatch.ensures.history)
    (ap (λ (l : Loaned g.row.W.Denot g.row.W-Content.Denot). l.lent) c.in-Ok.ensures.loan
    ∙ (lent_now g.W.Work.meaning c.self.inside.table.plan _ c.self.inside.table.history c.self.inside.objects c.self.inside.outcomes.items (arc_value c.shared_work.result.now) c.args.j c.self.invariant.0 c.shared_work.ensures c.in_ok-check.ensures.ready
    ∙ lent_own g.W.Work.meaning c.self.inside.table.plan _ c.self.inside.table.history c.args.j c.args.seat (arc_value c.shared_work.result.now) c.shared_work.ensures))
