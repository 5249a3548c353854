use Rattle.std.proofs.Common.{add-one}
use Rattle.pooma_law.proofs.OneByOne.{ser_objects, ser_outcomes, length-ser_outcomes, length-ser_objects, ser_further, outcome_at, untouched}
use Rattle.pooma_law.proofs.compose.ser_composes.Goals as goal

pub returns : goal.returns
returns g c =
    let m = g.W.Work.meaning in
    record {
      objects = ser_objects m;
      outcomes = ser_outcomes m;
      next = λ plan opening j work at. rw add-one (ser_further m plan opening j work at);
      outcome_count = length-ser_outcomes m;
      object_count = length-ser_objects m;
      outcome = outcome_at m;
      unwritten = untouched m;
    }
