use Rattle.std.proofs.Common.{arith}
use Rattle.std.proofs.lemmas.List.{length-map}
use Rattle.std.specs.Arc.{arc_value}
use Rattle.pooma_machine.proofs.Keeps.{asks_of_works}
use Rattle.pooma_machine.proofs.table.Table.issued.Goals as goal

pub returns-clause-ended : goal.returns-clause-ended
returns-clause-ended g c =
    let longs = asks_of_works arc_value g.W.Work.meaning.requests c.self.inside.works.items in
    let works = length-map c.self.inside.works.items arc_value in
    rw (← c.self.view_is) (λ j past. c.self.invariant.0.sound.ended j (omega (arith, longs, works, past)))
