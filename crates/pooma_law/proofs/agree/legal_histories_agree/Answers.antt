use Rattle.pooma_machine.specs.Values.{asks_of}
use Rattle.pooma_law.specs.Writers.{released_writers, up_to_last}
use Rattle.pooma_law.proofs.Agreement.{agrees}
use Rattle.pooma_law.proofs.Statuses.{steady_of, dispatched_has_seat}
use Rattle.pooma_law.proofs.Fronts.{released_in_front, released_below_last}
use Rattle.pooma_law.proofs.Whole.{whole_objects, whole_outcomes}
use Rattle.pooma_law.proofs.agree.legal_histories_agree.Goals as goal

pub returns : goal.returns
returns g c =
    let m = g.W.Work.meaning in
    record {
      writers = λ plan opening history legal o. released_in_front (asks_of m plan) history o (steady_of (asks_of m plan) history legal);
      objects = λ plan opening history legal o.
          (agrees m plan opening history legal).objects o (up_to_last (released_writers (asks_of m plan) history o)) (released_below_last (asks_of m plan) history o (steady_of (asks_of m plan) history legal));
      lent = λ plan opening history legal j dispatched. (agrees m plan opening history legal).lent j (dispatched_has_seat history j dispatched);
      outcomes = λ plan opening history legal. (agrees m plan opening history legal).outcomes;
      all_objects = λ plan opening history legal complete. whole_objects m plan opening history (agrees m plan opening history legal) complete;
      all_outcomes = λ plan opening history legal complete. whole_outcomes m plan opening history (agrees m plan opening history legal) complete;
    }
