use Rattle.std.proofs.Common.{◌≡◌, ◌∙◌, ap, sym, refl, length, arith, map, [], ◌∷◌, length-append}
use Rattle.std.proofs.lemmas.List.{length-map}
use Rattle.std.specs.Arc.{arc_value}
use Rattle.pooma_machine.specs.declared.step.Status.TheVariants as status
use Rattle.pooma_machine.proofs.Keeps.{lines_grown, asks_of_works, request_upheld, entries_before}
use Rattle.pooma_machine.proofs.Firsts.{open_pushed}
use Rattle.pooma_machine.proofs.table.Table.request.Goals as goal

pub invariant_of-self-in_default-make_room : goal.invariant_of-self-in_default-make_room
invariant_of-self-in_default-make_room g c =
    let grown = lines_grown _ c.self.inside.history.items c.self.inside.statuses.items c.self.inside.lines c.make_room.new.self _ _ _ _ _ _ _ _ _ c.self.invariant.0 c.self.invariant.1
    c.make_room.ensures.lines c.make_room.ensures.rooms c.make_room.ensures.count c.room_for.ensures.rooms.0 c.room_for.ensures.rooms.1 c.room_for.ensures.rooms.2 in
    rw (c.room_for.ensures.works, c.room_for.ensures.statuses, c.room_for.ensures.history) (grown.0, grown.1, c.self.invariant.2, c.self.invariant.3)

pub enter-requires-clause-later : goal.enter-requires-clause-later
enter-requires-clause-later g c o =
    let longs = asks_of_works arc_value g.W.Work.meaning.requests c.self.inside.works.items in
    let before = entries_before _ c.self.inside.history.items c.self.inside.statuses.items c.self.inside.lines o c.self.invariant.0 in
    let works = ap length c.room_for.ensures.works in
    let entry : c.len-entry.result ≡ length (map g.W.Work.meaning.requests (map arc_value c.self.inside.works.items)) = omega (arith, longs, works, c.len-entry.ensures, c.room_for.new.works.ok.0) in
    rw (c.make_room.ensures.lines o, entry) before

pub invariant_of-self-2 : goal.invariant_of-self-2
invariant_of-self-2 g c =
    let grown = lines_grown _ c.self.inside.history.items c.self.inside.statuses.items c.self.inside.lines c.make_room.new.self _ _ _ _ _ _ _ _ _ c.self.invariant.0 c.self.invariant.1
    c.make_room.ensures.lines c.make_room.ensures.rooms c.make_room.ensures.count c.room_for.ensures.rooms.0 c.room_for.ensures.rooms.1 c.room_for.ensures.rooms.2 in
    let room = c.in-Ok.ensures.ok in
    let longs = asks_of_works arc_value g.W.Work.meaning.requests c.self.inside.works.items in
    let works = ap length c.room_for.ensures.works in
    let entry : c.len-entry.result ≡ length c.self.inside.works.items = omega (arith, works, c.len-entry.ensures, c.room_for.new.works.ok.0) in
    let asks = c.requests-2.ensures.requests ∙ ap g.W.Work.meaning.requests c.deref-2.ensures in
    let count = c.self.invariant.0.count in
    let upheld = request_upheld arc_value g.W.Work.meaning.requests c.self.inside.works.items c.push_reserved.new.self.items c.args.work c.self.inside.history.items c.push_reserved-3.new.self.items c.self.inside.statuses.items c.push_reserved-2.new.self.items c.make_room.new.self c.enter.new.self c.args.seat c.len-entry.result c.self.inside.spare _ _ _
    grown.0 grown.1 (rw asks at c.requests-2.ensures.form) entry
    (rw (c.push_reserved.ensures.items, c.room_for.ensures.works) refl)
    (rw (c.push_reserved-3.ensures.items, c.room_for.ensures.history) refl)
    (rw (c.push_reserved-2.ensures.items, c.room_for.ensures.statuses) refl)
    (rw asks at c.enter.ensures.lines) c.enter.ensures.rooms c.enter.ensures.count
    (omega (arith, room.0, c.self.inside.works.ok.0))
    (omega (arith, room.1, c.self.inside.statuses.ok.0, longs))
    (omega (arith, room.2, c.self.inside.works.ok.0)) in
    let fewer = rw (← c.self.view_is, length-map) at c.requires.fewer in
    rw (c.push_reserved.ensures.capacity, c.push_reserved-2.ensures.capacity, c.push_reserved-3.ensures.capacity, c.saturating_sub-self-inside.ensures) (
      upheld.0,
      upheld.1,
      rw (c.push_reserved.ensures.items, c.room_for.ensures.works, length-append c.self.inside.works.items (c.args.work ∷ [])) fewer,
      rw (c.push_reserved-2.ensures.items, c.room_for.ensures.statuses) (c.self.invariant.3 ∙ sym (open_pushed c.self.inside.statuses.items status.Waiting refl)),
    )
