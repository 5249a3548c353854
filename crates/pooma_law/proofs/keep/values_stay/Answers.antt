use Rattle.pooma_law.proofs.Agreement.{values_more}
use Rattle.pooma_law.proofs.Stays.{values_longer, values_issued, lent_kept, outcome_kept, answered}
use Rattle.pooma_law.proofs.keep.values_stay.Goals as goal

pub returns : goal.returns
returns g c =
    let m = g.W.Work.meaning in
    record {
      next = values_more m;
      longer_plan = λ plan opening history legal more. values_longer m plan more opening history legal;
      issued_alone = values_issued m;
      lent = lent_kept m;
      outcome = outcome_kept m;
      answered = answered m;
    }
