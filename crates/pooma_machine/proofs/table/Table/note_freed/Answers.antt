use Rattle.std.proofs.Common.{◌∙◌, sym, subst, arith, map, get_or, Contains, false}
use Rattle.std.proofs.lemmas.List.{length-map, take_all}
use Rattle.std.specs.Arc.{arc_value}
use Rattle.pooma_queue.specs.declared.queue.Asked.{Asked}
use Rattle.pooma_queue.specs.declared.queue.Mode.TheVariants.{Read}
use Rattle.pooma_machine.specs.Lines.{line}
use Rattle.pooma_machine.specs.Steps.{is_released, status_of}
use Rattle.pooma_machine.proofs.Keeps.{asks_of_works}
use Rattle.std.proofs.lemmas.List.Elements.{Contains-get_or}
use Rattle.pooma_machine.proofs.Waking.{object_there, asked_in_plan, front_in, freed_noted, freed_passed, freed_over, notes_same, FreedAmong}
use Rattle.pooma_machine.specs.Values.{asks_of}
use Rattle.pooma_machine.specs.Became.{Notes, IsFreedOver}
use Rattle.pooma_machine.proofs.table.Table.note_freed.Goals.{then-is_freed, else-is_freed}
use Rattle.pooma_machine.proofs.table.Table.note_freed.Goals as goal

pub front-requires : goal.front-requires
front-requires g c =
    let asks = rw (← c.self.view_is) at c.requires in
    object_there _ c.self.inside.history.items c.self.inside.statuses.items c.self.inside.lines c.args.j c.args.request.object c.args.request.mode c.self.invariant.0 asks

pub is_freed-requires : goal.is_freed-requires
is_freed-requires g c =
    let d : Asked = record { entry = 0; mode = Read; released = false } in
    let held = c.held_back-asked-items in
    let one = get_or held.result.now c.loop-asked.asked-index d in
    let in_front = held.ensures.of_these one (Contains-get_or held.result.now c.loop-asked.asked-index d c.loop-asked-test.true) in
    let there = front_in (line c.self.inside.lines c.args.request.object) one (subst (λ xs. Contains xs one) c.front.ensures.requests in_front) in
    let long = asks_of_works arc_value g.W.Work.meaning.requests c.self.inside.works.items in
    let below = (asked_in_plan _ (λ i. is_released (status_of c.self.inside.history.items i)) c.self.inside.lines c.args.request.object one c.self.invariant.0.tied there) in
    rw (← c.self.view_is) (omega (arith, length-map c.self.inside.works.items (arc_value {X = g.row.W.Denot}), long, below))

pub loop-asked-preserved : goal.loop-asked-preserved
loop-asked-preserved g c =
    let d : Asked = record { entry = 0; mode = Read; released = false } in
    let plan = asks_of g.W.Work.meaning c.args.self.now.plan in
    let history = c.args.self.now.history in
    let held = c.held_back-asked-items.result.now in
    let i = c.loop-asked.asked-index in
    elim c.if-is_freed.branch [
      | then-is_freed w ↦
          rw w.became-is (freed_noted plan history c.args.j c.args.request.mode held i d c.args.became.now c.loop-asked.became w.note.new.self c.loop-asked-test.true (c.is_freed.ensures.0 w.if-is_freed.true) c.loop-asked.invariant w.note.ensures.entries w.note.ensures.more)
      | else-is_freed w ↦
          rw w.became-is (freed_passed plan history c.args.j c.args.request.mode held i d c.args.became.now c.loop-asked.became c.loop-asked-test.true (λ f. absurd (cc (sym w.if-is_freed.false ∙ c.is_freed.ensures.1 f))) c.loop-asked.invariant)
    ]

pub returns : goal.returns
returns g c =
    let plan = asks_of g.W.Work.meaning (map arc_value c.self.inside.works.items) in
    let history = c.self.inside.history.items in
    let request = c.args.request in
    let kept = c.self.invariant.0 in
    let front = c.front in
    let held = c.held_back-asked-items in
    let asks = rw (← c.self.view_is) at c.requires in
    let seen = take_all c.loop-asked.asked-index held.result.now c.loop-asked-test.false in
    let noted = rw (← c.self.view_is) at c.loop-asked.invariant in
    rw (← c.self.view_is) (
    notes_same (FreedAmong plan history c.args.j request.mode held.result.now) (IsFreedOver plan history c.args.j request.object) c.args.became.now c.loop-asked.became
    (λ k. freed_over plan history c.self.inside.lines front.result.now held.result.now c.args.j request.object request.mode k front.ensures.requests front.ensures.may_go_on held.ensures.of_these held.ensures.all kept.tied kept.sound.form asks)
    (subst (λ xs. Notes (FreedAmong plan history c.args.j request.mode xs) c.args.became.now c.loop-asked.became) seen noted)
    )
