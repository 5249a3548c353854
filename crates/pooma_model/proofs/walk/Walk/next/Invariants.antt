use Rattle.pooma_model.proofs.Walks.{lines_left, Walks}
use Rattle.pooma_model.proofs.walk.Walk.next.Given as goal

abbrev pub invariant-walking : goal.invariant-walking
invariant-walking l = Walks l.self-inside.lines.now l.self-inside.place l.self-inside.turns l.fn.self

abbrev pub decreases-walking : goal.decreases-walking
decreases-walking l = lines_left l.self-inside.lines.now l.self-inside.place l.self-inside.turns
