use Rattle.std.proofs.Common.{◌∙◌, sym, ap}
use Rattle.pooma_run.specs.Outcomes.{fault_seen}
use Rattle.pooma_run.proofs.Earliest.{known_further, with_fault}
use Rattle.pooma_run.proofs.faults.first_fault.Goals as goal
use Rattle.pooma_run.proofs.faults.first_fault.Goals.{in-Some, in_default}

pub outcomes-preserved : goal.outcomes-preserved
outcomes-preserved c =
    known_further c.args.statements.now c.args.outcomes.now c.outcomes.k c.index-outcomes-k.result (fault_seen c.outcomes.first) (fault_seen c.fault_in.result) (fault_seen c.match-fault_in.first)
    c.requires (c.outcomes-test.true) c.index-outcomes-k.is c.outcomes.invariant c.fault_in.ensures
    (elim c.match-fault_in.branch [
      | in-Some w ↦ ap fault_seen w.first-is ∙ (w.earlier_of.ensures ∙ ap (λ found. with_fault (fault_seen c.outcomes.first) (fault_seen found)) (sym w.in-Some.is))
      | in_default w ↦ ap fault_seen w.first-is ∙ ap (λ found. with_fault (fault_seen c.outcomes.first) (fault_seen found)) (sym w.in_default.is)
    ])
