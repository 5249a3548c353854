use Rattle.std.proofs.Common.{◌+◌, sym, subst, refl}
use Rattle.pooma_expr.specs.Reductions.{Kept}
use Rattle.pooma_run.proofs.Merging.{AreMerged, count_fits, merged_next, none_other, reduction_same, stands_there}
use Rattle.pooma_run.proofs.gather.gathered.Goals as goal
use Rattle.pooma_run.proofs.gather.gathered.Goals.{in-Value, in_default}

pub merge-requires-clause-reduction : goal.merge-requires-clause-reduction
merge-requires-clause-reduction c =
    reduction_same c.args.reduction c.args.outcomes.now c.parts.outcome-index c.parts.all c.in-Value.part c.requires
    (stands_there c.args.outcomes.now c.parts.outcome-index c.outcome-item.result _ c.parts-test.true c.outcome-item.is c.in-Value.is) c.parts.invariant

pub merge-requires-clause-count : goal.merge-requires-clause-count
merge-requires-clause-count c =
    count_fits c.args.reduction c.args.outcomes.now c.parts.outcome-index c.parts.all c.in-Value.part c.requires
    (stands_there c.args.outcomes.now c.parts.outcome-index c.outcome-item.result _ c.parts-test.true c.outcome-item.is c.in-Value.is) c.parts.invariant

pub parts-preserved : goal.parts-preserved
parts-preserved c =
    elim c.match-outcome.branch [
      | in-Value w ↦
          subst (λ (all : Kept). AreMerged c.args.reduction c.args.outcomes.now (c.parts.outcome-index + 1) all) (sym w.all-is)
          (merged_next c.args.reduction c.args.outcomes.now c.parts.outcome-index c.parts.all w.in-Value.part w.merge.new.self
          (stands_there c.args.outcomes.now c.parts.outcome-index c.outcome-item.result _ c.parts-test.true c.outcome-item.is w.in-Value.is) c.parts.invariant
          w.merge.ensures.reduction w.merge.ensures.count w.merge.ensures.numbers)
      | in_default w ↦
          absurd (none_other c.args.reduction c.args.outcomes.now c.parts.outcome-index _ c.requires
          (stands_there c.args.outcomes.now c.parts.outcome-index c.outcome-item.result _ c.parts-test.true c.outcome-item.is refl) w.in_default.not-Value)
    ]
