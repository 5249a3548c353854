use Rattle.std.proofs.Common.{◌<◌, ◌≤◌, length, arith, map}
use Rattle.std.proofs.lemmas.List.{length-map}
use Rattle.std.specs.Arc.{arc_value}
use Rattle.pooma_machine.specs.Kept.{first_open}
use Rattle.pooma_machine.proofs.Keeps.{asks_of_works}
use Rattle.pooma_machine.proofs.Firsts.{open_least, open_none}
use Rattle.pooma_machine.proofs.table.Table.least_unreleased.Goals as goal

pub returns-then-self-len : goal.returns-then-self-len
returns-then-self-len g c =
    let first = c.self.invariant.3 in
    let longs = asks_of_works arc_value g.W.Work.meaning.requests c.self.inside.works.items in
    let works = length-map c.self.inside.works.items (arc_value {X = g.row.W.Denot}) in
    let there = c.if-self-len.true in
    let len = c.len.ensures in
    let below : first_open c.self.inside.statuses.items < length c.self.inside.statuses.items = omega (arith, first, there, len, c.self.inside.statuses.ok.0) in
    rw (← c.self.view_is, first) (open_least _ c.self.inside.history.items c.self.inside.statuses.items c.self.inside.lines (length (map arc_value c.self.inside.works.items)) c.self.invariant.0 (omega (arith, longs, works)) below)

pub returns-else-self-len : goal.returns-else-self-len
returns-else-self-len g c =
    let first = c.self.invariant.3 in
    let longs = asks_of_works arc_value g.W.Work.meaning.requests c.self.inside.works.items in
    let works = length-map c.self.inside.works.items (arc_value {X = g.row.W.Denot}) in
    let past = c.if-self-len.false in
    let len = c.len.ensures in
    let above : length c.self.inside.statuses.items ≤ first_open c.self.inside.statuses.items = omega (arith, first, past, len, c.self.inside.statuses.ok.0) in
    rw (← c.self.view_is) (λ j h. open_none _ c.self.inside.history.items c.self.inside.statuses.items c.self.inside.lines c.self.invariant.0 above j (omega (arith, longs, works, h)))
