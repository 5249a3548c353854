use Rattle.std.proofs.Common.{arith}
use Rattle.std.specs.Arc.{arc_value}
use Rattle.pooma_machine.proofs.Keeps.{lines_grown, asks_of_works}
use Rattle.pooma_machine.proofs.Ends.{room_spare}
use Rattle.pooma_machine.proofs.table.Table.reserve.Goals as goal

pub invariant_of-self-in_err-reserve : goal.invariant_of-self-in_err-reserve
invariant_of-self-in_err-reserve g c =
    let rooms = c.room_for.ensures.rooms in
    let grown = lines_grown _ c.self.inside.history.items c.self.inside.statuses.items c.self.inside.lines c.reserve.new.self _ _ _ _ _ _ _ _ _ c.self.invariant.0 c.self.invariant.1
    c.reserve.ensures.lines c.reserve.ensures.rooms c.reserve.ensures.count rooms.0 rooms.1 rooms.2 in
    rw (c.room_for.ensures.works, c.room_for.ensures.statuses, c.room_for.ensures.history) (grown.0, grown.1, c.self.invariant.2, c.self.invariant.3)

pub invariant_of-self-2 : goal.invariant_of-self-2
invariant_of-self-2 g c =
    let rooms = c.room_for.ensures.rooms in
    let grown = lines_grown _ c.self.inside.history.items c.self.inside.statuses.items c.self.inside.lines c.reserve.new.self _ _ _ _ _ _ _ _ _ c.self.invariant.0 c.self.invariant.1
    c.reserve.ensures.lines c.reserve.ensures.rooms c.reserve.ensures.count rooms.0 rooms.1 rooms.2 in
    let longs = asks_of_works arc_value g.W.Work.meaning.requests c.self.inside.works.items in
    let count = c.self.invariant.0.count in
    let room = c.in_ok-room_for.ensures.ok in
    rw (c.room_for.ensures.works, c.room_for.ensures.statuses, c.room_for.ensures.history) (
      grown.0,
      room_spare _ _ _ c.args.entries c.max-self-inside.result _ _ _ _ c.reserve.new.self grown.1 (omega (arith, room.0, c.self.inside.works.ok.0)) (omega (arith, room.1, c.self.inside.statuses.ok.0, count, longs)) (omega (arith, room.2, c.self.inside.works.ok.0)) c.in_ok-reserve.ensures.ok c.max-self-inside.ensures,
      c.self.invariant.2,
      c.self.invariant.3,
    )
