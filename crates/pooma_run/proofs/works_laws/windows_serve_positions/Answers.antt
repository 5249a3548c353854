use Rattle.pooma_run.proofs.Served.{Asks, all_served, are_executed, ask_in_order, rise}
use Rattle.pooma_run.proofs.works_laws.windows_serve_positions.Goals as goal

pub returns : goal.returns
returns c =
    let asks : Asks = record { form = c.objects_lend.ensures.form; serves = c.positions_are_served.ensures } in
    record {
      served = λ program windows last number s p sound first there far at here. all_served c.laws_below.ensures asks program sound windows first last number s p there far at here;
      ordered = λ program windows sound first. rise c.laws_below.ensures asks program sound windows first;
      executed = λ program windows sound first. are_executed c.laws_below.ensures asks program sound windows first;
      requests = λ program windows sound first. ask_in_order c.laws_below.ensures asks program sound windows first;
    }
