use Rattle.std.proofs.Common.{◌<◌, ◌∙◌, ap, sym, length, arith, [], ◌∷◌, rules, length-append}
use Rattle.std.proofs.lemmas.List.{length-map}
use Rattle.std.specs.Arc.{arc_value}
use Rattle.pooma_machine.specs.declared.step.EventKind.TheVariants as kind
use Rattle.pooma_machine.specs.Steps.{event_of}
use Rattle.pooma_machine.specs.Kept.{first_open}
use Rattle.pooma_machine.proofs.Keeps.{in_range, asks_read, asks_of_works, release_upheld}
use Rattle.pooma_machine.proofs.Firsts.{released_further}
use Rattle.pooma_machine.proofs.table.Table.mark_released.Goals as goal

pub let_go-requires-clause-objects : goal.let_go-requires-clause-objects
let_go-requires-clause-objects g c =
    let within : c.args.j < length c.self.inside.works.items = rw (← c.self.view_is, length-map) at c.requires.within in
    let asks = c.requests.ensures.requests ∙ (ap g.W.Work.meaning.requests c.deref.ensures ∙ sym (asks_read arc_value g.W.Work.meaning.requests c.self.inside.works.items c.args.j c.index.result.now within c.index.ensures)) in
    rw asks (in_range _ c.self.inside.history.items c.self.inside.statuses.items c.self.inside.lines c.args.j c.self.invariant.0)

pub first_unreleased-self-inside-requires : goal.first_unreleased-self-inside-requires
first_unreleased-self-inside-requires g c =
    let within : c.args.j < length c.self.inside.works.items = rw (← c.self.view_is, length-map) at c.requires.within in
    let longs = asks_of_works arc_value g.W.Work.meaning.requests c.self.inside.works.items in
    let out = rw (← c.self.view_is) at c.requires.out in
    let low = released_further _ c.self.inside.history.items c.self.inside.statuses.items c.self.inside.lines c.args.j c.index_mut.result.now c.release.new.self c.self.invariant.0 (omega (arith, longs, within)) out c.index_mut.ensures.value c.release.ensures in
    rw c.deref-2.ensures.value (omega (arith, low, c.self.invariant.3))

pub push_reserved-requires : goal.push_reserved-requires
push_reserved-requires g c =
    let within : c.args.j < length c.self.inside.works.items = rw (← c.self.view_is, length-map) at c.requires.within in
    let asks = c.requests.ensures.requests ∙ (ap g.W.Work.meaning.requests c.deref.ensures ∙ sym (asks_read arc_value g.W.Work.meaning.requests c.self.inside.works.items c.args.j c.index.result.now within c.index.ensures)) in
    let longs = asks_of_works arc_value g.W.Work.meaning.requests c.self.inside.works.items in
    let out = rw (← c.self.view_is) at c.requires.out in
    let upheld = release_upheld _ c.self.inside.history.items c.self.inside.statuses.items c.self.inside.lines c.let_go.new.self c.args.j c.args.seat _ _ _ _ _ _ c.index_mut.result.now c.release.new.self c.self.invariant.0 c.self.invariant.1
    (omega (arith, longs, within)) out c.index_mut.ensures.value c.release.ensures (rw asks at c.let_go.ensures.lines) c.let_go.ensures.rooms c.let_go.ensures.count in
    search (rules, upheld.0)

pub invariant_of-self : goal.invariant_of-self
invariant_of-self g c =
    let within : c.args.j < length c.self.inside.works.items = rw (← c.self.view_is, length-map) at c.requires.within in
    let asks = c.requests.ensures.requests ∙ (ap g.W.Work.meaning.requests c.deref.ensures ∙ sym (asks_read arc_value g.W.Work.meaning.requests c.self.inside.works.items c.args.j c.index.result.now within c.index.ensures)) in
    let longs = asks_of_works arc_value g.W.Work.meaning.requests c.self.inside.works.items in
    let out = rw (← c.self.view_is) at c.requires.out in
    let upheld = release_upheld _ c.self.inside.history.items c.self.inside.statuses.items c.self.inside.lines c.let_go.new.self c.args.j c.args.seat _ _ _ _ _ _ c.index_mut.result.now c.release.new.self c.self.invariant.0 c.self.invariant.1
    (omega (arith, longs, within)) out c.index_mut.ensures.value c.release.ensures (rw asks at c.let_go.ensures.lines) c.let_go.ensures.rooms c.let_go.ensures.count in
    rw (c.push_reserved.ensures.items, c.push_reserved.ensures.capacity, length-append c.self.inside.history.items (event_of kind.Release c.args.j c.args.seat ∷ [])) (
      upheld.1,
      upheld.2,
      c.self.invariant.2,
      c.first_unreleased-self-inside.ensures ∙ ap first_open c.deref-2.ensures.value,
    )
