use Rattle.std.proofs.Common.{arith}
use Rattle.std.proofs.lemmas.List.{length-map}
use Rattle.pooma_machine.specs.Steps.{status_of}
use Rattle.pooma_machine.specs.Values.{asks_of}
use Rattle.pooma_law.proofs.Statuses.{steady_of, seat_of_dispatched, dispatched_of_seat}
use Rattle.pooma_law.proofs.Told.{issued_is_known, dispatched_is_told, released_is_told, dispatched_is_out, each_once}
use Rattle.pooma_law.proofs.Counts.{three_at_most, three_each}
use Rattle.pooma_law.proofs.tell.legal_histories_tell.Goals as goal

pub returns : goal.returns
returns g c =
    let m = g.W.Work.meaning in
    record {
      within = λ plan history legal. omega (arith, (steady_of (asks_of m plan) history legal).within, length-map plan m.requests);
      issued = λ plan. issued_is_known (asks_of m plan);
      dispatched = λ plan. dispatched_is_told (asks_of m plan);
      released = λ plan. released_is_told (asks_of m plan);
      out = λ plan. dispatched_is_out (asks_of m plan);
      seat = λ history j. (seat_of_dispatched history j, λ at. dispatched_of_seat (status_of history j) at.0 at.1);
      once = λ plan. each_once (asks_of m plan);
      events = λ plan history legal. omega (arith, three_at_most (asks_of m plan) history legal, length-map plan m.requests);
      all_events = λ plan history legal complete.
          omega (arith, three_each (asks_of m plan) history legal (λ j h. complete j (omega (arith, length-map plan m.requests))), length-map plan m.requests);
    }
