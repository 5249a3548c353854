use Rattle.std.proofs.Common.{◌<◌, ◌∙◌, ap, sym, subst, length, map, get_or, Contains, []}
use Rattle.std.proofs.lemmas.List.{length-map, take_all}
use Rattle.std.specs.Arc.{arc_value}
use Rattle.pooma_queue.specs.declared.queue.Mode.TheVariants.{Read}
use Rattle.pooma_machine.specs.declared.step.Request.{Request}
use Rattle.pooma_machine.specs.Values.{asks_of}
use Rattle.pooma_machine.specs.Became.{IsFreedBy}
use Rattle.pooma_machine.proofs.Keeps.{asks_read}
use Rattle.std.proofs.lemmas.List.Elements.{Contains-get_or}
use Rattle.pooma_logic.proofs.Elements.{contains_none}
use Rattle.pooma_machine.proofs.Waking.{FreedOverSome, names_nothing, freed_over_more, freed_by, names_those_same}
use Rattle.pooma_machine.proofs.table.Table.freed_by.Goals as goal

pub loop-request-init : goal.loop-request-init
loop-request-init g c =
    names_nothing (FreedOverSome (asks_of g.W.Work.meaning c.args.self.now.plan) c.args.self.now.history c.args.j []) c.none-became.result (λ k h. contains_none h.0 h.1) c.none-became.ensures.entries c.none-became.ensures.more

pub note_freed-requires : goal.note_freed-requires
note_freed-requires g c =
    let within : c.args.j < length c.self.inside.works.items = rw (← c.self.view_is, length-map) at c.requires in
    let asks = c.requests-request-items.ensures.requests ∙ (ap g.W.Work.meaning.requests c.deref.ensures ∙ sym (asks_read arc_value g.W.Work.meaning.requests c.self.inside.works.items c.args.j c.index.result.now within c.index.ensures)) in
    let d : Request = record { object = 0; mode = Read } in
    rw (← c.self.view_is) (subst (λ rs. Contains rs (get_or c.requests-request-items.result.now c.loop-request.request-index d)) asks (Contains-get_or c.requests-request-items.result.now c.loop-request.request-index d c.loop-request-test.true))

pub loop-request-preserved : goal.loop-request-preserved
loop-request-preserved g c =
    let d : Request = record { object = 0; mode = Read } in
    freed_over_more (asks_of g.W.Work.meaning c.args.self.now.plan) c.args.self.now.history c.args.j c.requests-request-items.result.now c.loop-request.request-index d c.loop-request.became c.note_freed.new.became c.loop-request-test.true c.loop-request.invariant c.note_freed.ensures

pub returns : goal.returns
returns g c =
    let within : c.args.j < length c.self.inside.works.items = rw (← c.self.view_is, length-map) at c.requires in
    let plan = asks_of g.W.Work.meaning (map arc_value c.self.inside.works.items) in
    let history = c.self.inside.history.items in
    let asks = c.requests-request-items.ensures.requests ∙ (ap g.W.Work.meaning.requests c.deref.ensures ∙ sym (asks_read arc_value g.W.Work.meaning.requests c.self.inside.works.items c.args.j c.index.result.now within c.index.ensures)) in
    let all = take_all c.loop-request.request-index c.requests-request-items.result.now c.loop-request-test.false in
    let named = rw (← c.self.view_is, all) at c.loop-request.invariant in
    rw (← c.self.view_is) (names_those_same (FreedOverSome plan history c.args.j c.requests-request-items.result.now) (IsFreedBy plan history c.args.j) c.loop-request.became (λ k. freed_by plan history c.args.j c.requests-request-items.result.now k asks) named)
