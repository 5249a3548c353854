use Rattle.std.proofs.Common.{◌≡◌, take}
use Rattle.pooma_piece.specs.Plans.{plan_fault}
use Rattle.pooma_run.specs.Outcomes.{fault_seen}
use Rattle.pooma_run.proofs.faults.first_fault.Given as goal

abbrev pub invariant-outcomes : goal.invariant-outcomes
invariant-outcomes l = fault_seen l.first ≡ plan_fault (take l.k l.statements) (take l.k l.outcomes)
