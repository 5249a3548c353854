use Rattle.std.proofs.Common.{◌∷◌, [], None}
use Rattle.std.proofs.lemmas.List.Sums.{fold-append}
use Rattle.pooma_machine.specs.Steps.{status_after}
use Rattle.pooma_machine.specs.Values.{asks_of}
use Rattle.pooma_law.proofs.Growth.{legal_next, legal_front, legal_comes, seat_kept, released_kept}
use Rattle.pooma_law.proofs.Stays.{longer_asks, issued_asks}
use Rattle.pooma_law.proofs.grow.legal_histories_grow.Goals as goal

pub returns : goal.returns
returns g c =
    let m = g.W.Work.meaning in
    record {
      next = λ plan. legal_next (asks_of m plan);
      front = λ plan. legal_front (asks_of m plan);
      comes = λ plan history later event. legal_comes (asks_of m plan) history event later;
      longer_plan = longer_asks m;
      issued_alone = issued_asks m;
      status = λ history event j. fold-append (status_after j) None history (event ∷ []);
      seat = λ plan. seat_kept (asks_of m plan);
      released = λ plan. released_kept (asks_of m plan);
    }
