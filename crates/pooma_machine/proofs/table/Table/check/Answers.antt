use Rattle.std.proofs.Common.{◌<◌, ◌∙◌, ap, sym, length, arith}
use Rattle.std.proofs.lemmas.List.{length-map}
use Rattle.std.specs.Arc.{arc_value}
use Rattle.pooma_machine.proofs.Keeps.{in_range, asks_read, searched, asks_of_works, held_back_blocked}
use Rattle.pooma_machine.proofs.table.Table.check.Goals as goal

pub held-requires : goal.held-requires
held-requires g c =
    let within : c.args.j < length c.self.inside.works.items = rw (← c.self.view_is, length-map) at c.requires in
    let asks = c.requests.ensures.requests ∙ (ap g.W.Work.meaning.requests c.deref.ensures ∙ sym (asks_read arc_value g.W.Work.meaning.requests c.self.inside.works.items c.args.j c.index-2.result.now within c.index-2.ensures)) in
    rw asks (in_range _ c.self.inside.history.items c.self.inside.statuses.items c.self.inside.lines c.args.j c.self.invariant.0)

pub returns-in-Some-held-clause-succeeds : goal.returns-in-Some-held-clause-succeeds
returns-in-Some-held-clause-succeeds g c =
    let within : c.args.j < length c.self.inside.works.items = rw (← c.self.view_is, length-map) at c.requires in
    let asks = c.requests.ensures.requests ∙ (ap g.W.Work.meaning.requests c.deref.ensures ∙ sym (asks_read arc_value g.W.Work.meaning.requests c.self.inside.works.items c.args.j c.index-2.result.now within c.index-2.ensures)) in
    let longs = asks_of_works arc_value g.W.Work.meaning.requests c.self.inside.works.items in
    let found = searched _ c.self.inside.history.items c.self.inside.statuses.items c.self.inside.lines c.args.j c.index.result.now c.requests.result.now c.self.invariant.0 (omega (arith, longs, within)) c.index.ensures (sym c.seat.ensures ∙ c.in_default.is) asks in
    rw (← c.self.view_is) (λ ready. absurd (held_back_blocked _ _ c.args.j _ _ (found.1 c.in-Some-held.field-0 (sym c.held.ensures ∙ c.in-Some-held.is)) ready.1))

pub returns-in-Some-held-clause-refused : goal.returns-in-Some-held-clause-refused
returns-in-Some-held-clause-refused g c =
    let within : c.args.j < length c.self.inside.works.items = rw (← c.self.view_is, length-map) at c.requires in
    let asks = c.requests.ensures.requests ∙ (ap g.W.Work.meaning.requests c.deref.ensures ∙ sym (asks_read arc_value g.W.Work.meaning.requests c.self.inside.works.items c.args.j c.index-2.result.now within c.index-2.ensures)) in
    let longs = asks_of_works arc_value g.W.Work.meaning.requests c.self.inside.works.items in
    let found = searched _ c.self.inside.history.items c.self.inside.statuses.items c.self.inside.lines c.args.j c.index.result.now c.requests.result.now c.self.invariant.0 (omega (arith, longs, within)) c.index.ensures (sym c.seat.ensures ∙ c.in_default.is) asks in
    rw (← c.self.view_is) (found.1 c.in-Some-held.field-0 (sym c.held.ensures ∙ c.in-Some-held.is))

pub returns-in-None-clause-ready : goal.returns-in-None-clause-ready
returns-in-None-clause-ready g c =
    let within : c.args.j < length c.self.inside.works.items = rw (← c.self.view_is, length-map) at c.requires in
    let asks = c.requests.ensures.requests ∙ (ap g.W.Work.meaning.requests c.deref.ensures ∙ sym (asks_read arc_value g.W.Work.meaning.requests c.self.inside.works.items c.args.j c.index-2.result.now within c.index-2.ensures)) in
    let longs = asks_of_works arc_value g.W.Work.meaning.requests c.self.inside.works.items in
    let found = searched _ c.self.inside.history.items c.self.inside.statuses.items c.self.inside.lines c.args.j c.index.result.now c.requests.result.now c.self.invariant.0 (omega (arith, longs, within)) c.index.ensures (sym c.seat.ensures ∙ c.in_default.is) asks in
    rw (← c.self.view_is) (found.0 (sym c.held.ensures ∙ c.in-None.is))
