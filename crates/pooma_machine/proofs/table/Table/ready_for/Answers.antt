use Rattle.std.proofs.Common.{◌∙◌, sym, subst, arith, false, get_or, Contains}
use Rattle.std.proofs.lemmas.List.{length-map}
use Rattle.std.specs.Arc.{arc_value}
use Rattle.pooma_queue.specs.declared.queue.Asked.{Asked}
use Rattle.pooma_queue.specs.declared.queue.Mode.TheVariants.{Read}
use Rattle.pooma_machine.specs.Lines.{line}
use Rattle.pooma_machine.specs.Steps.{is_released, status_of}
use Rattle.pooma_machine.specs.Values.{asks_of}
use Rattle.pooma_machine.proofs.Keeps.{asks_of_works}
use Rattle.std.proofs.lemmas.List.Elements.{Contains-get_or}
use Rattle.pooma_machine.proofs.Queues.{on_ok_holds}
use Rattle.pooma_machine.proofs.Waking.{asked_in_plan, front_in}
use Rattle.pooma_machine.proofs.Awaited.{first_ready_least, none_ready_for, none_ready_more}
use Rattle.pooma_machine.proofs.table.Table.ready_for.Goals as goal

pub check-requires : goal.check-requires
check-requires g c =
    let d : Asked = record { entry = 0; mode = Read; released = false } in
    let rest = c.not_earlier_than-asked-items in
    let one = get_or rest.result.now c.loop-asked.asked-index d in
    let in_front = (rest.ensures.of_these one (Contains-get_or rest.result.now c.loop-asked.asked-index d c.loop-asked-test.true)).0 in
    let there = front_in (line c.self.inside.lines c.args.object) one (subst (λ xs. Contains xs one) c.front.ensures.requests in_front) in
    let long = asks_of_works arc_value g.W.Work.meaning.requests c.self.inside.works.items in
    let below = asked_in_plan _ (λ i. is_released (status_of c.self.inside.history.items i)) c.self.inside.lines c.args.object one c.self.invariant.0.tied there in
    rw (← c.self.view_is) (omega (arith, length-map c.self.inside.works.items (arc_value {X = g.row.W.Denot}), long, below))

pub returns-then-is_ok-clause-least : goal.returns-then-is_ok-clause-least
returns-then-is_ok-clause-least g c =
    let d : Asked = record { entry = 0; mode = Read; released = false } in
    let rest = c.not_earlier_than-asked-items in
    let none = rw (← c.self.view_is) at c.loop-asked.invariant in
    let ready = on_ok_holds c.check.result _ c.check.ensures.ready (sym c.is_ok.ensures.value ∙ c.if-is_ok.true) in
    rw (← c.self.view_is) (first_ready_least _ c.self.inside.history.items c.self.inside.lines c.front.result.now rest.result.now c.args.object c.args.from c.front.ensures.requests c.front.ensures.may_go_on
    c.self.invariant.0.tied rest.ensures.of_these rest.ensures.all rest.ensures.order c.loop-asked.asked-index d c.loop-asked-test.true none (rw (← c.self.view_is) at ready))

pub loop-asked-preserved : goal.loop-asked-preserved
loop-asked-preserved g c =
    let d : Asked = record { entry = 0; mode = Read; released = false } in
    none_ready_more (asks_of g.W.Work.meaning c.args.self.now.plan) c.args.self.now.history c.not_earlier_than-asked-items.result.now c.loop-asked.asked-index d c.loop-asked-test.true c.loop-asked.invariant
    (λ ready. absurd (cc (sym c.if-is_ok.false ∙ (c.is_ok.ensures.value ∙ c.check.ensures.succeeds ready))))

pub returns-clause-least : goal.returns-clause-least
returns-clause-least g c =
    let rest = c.not_earlier_than-asked-items in
    let none = rw (← c.self.view_is) at c.loop-asked.invariant in
    rw (← c.self.view_is) (none_ready_for _ c.self.inside.history.items c.self.inside.lines c.front.result.now rest.result.now c.args.object c.args.from c.front.ensures.requests c.front.ensures.may_go_on
    c.self.invariant.0.tied rest.ensures.of_these rest.ensures.all c.loop-asked.asked-index c.loop-asked-test.false none)
