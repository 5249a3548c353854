use Rattle.pooma_model.specs.declared.statement.Action.TheVariants as action
use Rattle.pooma_run.proofs.Doing.{becomes_here, fault_is, is_done, no_other_fault, view_shown}
use Rattle.pooma_run.proofs.works_laws.statements_in_works.Goals as goal

pub returns : goal.returns
returns c = record {
  faults = λ stale objects world number does fault can is. fault_is c.laws_below.ensures stale objects world number does can fault is;
  no_other = λ stale objects world number does fault can none effect. no_other_fault c.laws_below.ensures stale objects world number does can fault none effect;
  becomes = λ stale objects world new number does can none effect. becomes_here c.laws_below.ensures stale objects world number does can new none effect;
  gathers = λ stale objects world number scalar reduction positions value can none.
      (is_done c.laws_below.ensures stale objects world number (action.Reduce scalar reduction positions value) can none).1;
  shows = λ stale objects world number view p can at. view_shown c.laws_below.ensures stale objects world number view p can at;
}
