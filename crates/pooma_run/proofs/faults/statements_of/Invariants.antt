use Rattle.std.proofs.Common.{◌≡◌, map, take}
use Rattle.std.specs.Arc.{arc_value}
use Rattle.pooma_run.proofs.faults.statements_of.Given as goal

abbrev pub invariant-works : goal.invariant-works
invariant-works l = l.numbers.items ≡ map (λ piece. piece.statement) (map arc_value (take l.work-index l.works))
