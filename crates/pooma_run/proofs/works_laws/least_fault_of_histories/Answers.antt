use Rattle.std.proofs.Common.{◌≡◌, ◌∙◌, sym, List}
use Rattle.pooma_field.specs.Numbered.{Numbered}
use Rattle.pooma_law.specs.Histories.{IsHistoryOf}
use Rattle.pooma_machine.specs.declared.step.Event.{Event}
use Rattle.pooma_machine.specs.Values.{IsComplete}
use Rattle.pooma_piece.specs.Meaning.{pieces}
use Rattle.pooma_piece.specs.Pieces.{Pieced}
use Rattle.pooma_split.specs.Statements.{done_in_order, fault_among}
use Rattle.pooma_run.specs.Doing.{fault_in_history}
use Rattle.pooma_run.proofs.Histories.{fault_in_order}
use Rattle.pooma_run.proofs.works_laws.least_fault_of_histories.Goals as goal

pub returns : goal.returns
returns c =
    let in_order : (plan : List Pieced) (opening : List Numbered) (history : List Event) → IsHistoryOf pieces plan history → IsComplete plan history
    → fault_in_history plan opening history ≡ fault_among plan (done_in_order plan opening) =
    λ plan opening history legal complete.
    fault_in_order plan opening history (c.ser_composes.ensures.outcome_count plan opening) (c.legal_histories_agree.ensures.all_outcomes plan opening history legal complete) in
    record {
      in_order = in_order;
      same = λ plan opening one other legal_one complete_one legal_other complete_other.
          in_order plan opening one legal_one complete_one ∙ sym (in_order plan opening other legal_other complete_other);
    }
