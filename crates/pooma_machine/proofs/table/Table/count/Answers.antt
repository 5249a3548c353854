use Rattle.std.proofs.Common.{◌<◌, ◌∙◌, ap, sym, subst, length, [], arith}
use Rattle.std.proofs.lemmas.List.{length-map}
use Rattle.std.specs.Arc.{arc_value}
use Rattle.pooma_machine.specs.Counts.{IsCount}
use Rattle.pooma_machine.proofs.Keeps.{in_range, asks_read, asks_of_works}
use Rattle.pooma_machine.proofs.Counting.{asks_here, counted_is, in_turn}
use Rattle.pooma_machine.proofs.table.Table.count.Goals as goal

pub count-requires-clause-objects : goal.count-requires-clause-objects
count-requires-clause-objects g c =
    let within : c.args.j < length c.self.inside.works.items = rw (← c.self.view_is, length-map) at c.requires in
    let asks = c.requests.ensures.requests ∙ (ap g.W.Work.meaning.requests c.deref.ensures ∙ sym (asks_read arc_value g.W.Work.meaning.requests c.self.inside.works.items c.args.j c.index.result.now within c.index.ensures)) in
    rw asks (in_range _ c.self.inside.history.items c.self.inside.statuses.items c.self.inside.lines c.args.j c.self.invariant.0)

pub count-requires-clause-in_turn : goal.count-requires-clause-in_turn
count-requires-clause-in_turn g c o = in_turn _ c.self.inside.history.items c.self.inside.lines o c.self.invariant.0.sound c.self.invariant.0.tied

pub count-requires-clause-asks : goal.count-requires-clause-asks
count-requires-clause-asks g c =
    let within : c.args.j < length c.self.inside.works.items = rw (← c.self.view_is, length-map) at c.requires in
    let asks = c.requests.ensures.requests ∙ (ap g.W.Work.meaning.requests c.deref.ensures ∙ sym (asks_read arc_value g.W.Work.meaning.requests c.self.inside.works.items c.args.j c.index.result.now within c.index.ensures)) in
    rw asks (asks_here _ _ c.self.inside.lines c.args.j c.self.invariant.0.tied)

pub returns : goal.returns
returns g c =
    let within : c.args.j < length c.self.inside.works.items = rw (← c.self.view_is, length-map) at c.requires in
    let asks = c.requests.ensures.requests ∙ (ap g.W.Work.meaning.requests c.deref.ensures ∙ sym (asks_read arc_value g.W.Work.meaning.requests c.self.inside.works.items c.args.j c.index.result.now within c.index.ensures)) in
    let longs = asks_of_works arc_value g.W.Work.meaning.requests c.self.inside.works.items in
    let form = c.self.invariant.0.sound.form c.args.j [] (omega (arith, longs, within)) in
    let all = counted_is _ c.self.inside.history.items c.self.inside.lines c.args.j c.self.invariant.0.tied form in
    rw (← c.self.view_is) (subst (IsCount _ _ c.args.j) (sym (rw asks at c.count.ensures)) all)
