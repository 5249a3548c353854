use Rattle.std.proofs.Common.{◌<◌, ◌∙◌, ap, sym, refl, length, arith, [], ◌∷◌, ◌++◌, rules, length-append}
use Rattle.std.proofs.lemmas.List.{length-map}
use Rattle.std.specs.Arc.{arc_value}
use Rattle.pooma_machine.specs.declared.step.EventKind.TheVariants as kind
use Rattle.pooma_machine.specs.declared.step.Status.TheVariants as status
use Rattle.pooma_machine.specs.Steps.{event_of}
use Rattle.pooma_machine.specs.Kept.{Schedule}
use Rattle.pooma_machine.proofs.Keeps.{kept_dispatch, asks_of_works, owes_less}
use Rattle.pooma_machine.proofs.Firsts.{open_kept}
use Rattle.pooma_machine.proofs.table.Table.dispatch.Goals as goal

pub push_reserved-requires : goal.push_reserved-requires
push_reserved-requires g c =
    let kept = c.self.invariant.0 in
    let ready = rw (← c.self.view_is) at c.requires.ready in
    let room = owes_less _ _ _ _ _ _ c.self.inside.statuses.items c.self.inside.lines c.args.j status.Waiting (status.Out c.args.seat) c.self.invariant.1 (sym (kept.stands c.args.j) ∙ ready.0) refl in
    search (rules, room.0)

pub invariant_of-self : goal.invariant_of-self
invariant_of-self g c =
    let kept = c.self.invariant.0 in
    let ready = rw (← c.self.view_is) at c.requires.ready in
    let longs = asks_of_works arc_value g.W.Work.meaning.requests c.self.inside.works.items in
    let within : c.args.j < length c.self.inside.works.items = rw (← c.self.view_is, length-map) at c.requires.within in
    let room = owes_less _ _ _ _ _ _ c.self.inside.statuses.items c.self.inside.lines c.args.j status.Waiting (status.Out c.args.seat) c.self.invariant.1 (sym (kept.stands c.args.j) ∙ ready.0) refl in
    let longer = length-append c.self.inside.history.items (event_of kind.Dispatch c.args.j c.args.seat ∷ []) in
    rw (c.push_reserved.ensures.items, c.push_reserved.ensures.capacity) (
      kept_dispatch _ c.self.inside.history.items c.self.inside.statuses.items c.self.inside.lines c.args.j c.args.seat kept (omega (arith, longs, within)) ready,
      rw longer room.1,
      c.self.invariant.2,
      c.self.invariant.3 ∙ open_kept c.self.inside.statuses.items c.args.j status.Waiting (status.Out c.args.seat) (sym (kept.stands c.args.j) ∙ ready.0) refl refl,
    )

pub returns-clause-history : goal.returns-clause-history
returns-clause-history g c = c.push_reserved.ensures.items ∙ ap (λ (s : Schedule g.row.W.Denot). s.history ++ event_of kind.Dispatch c.args.j c.args.seat ∷ []) c.self.view_is
