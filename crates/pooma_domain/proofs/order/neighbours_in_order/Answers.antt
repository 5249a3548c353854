use Rattle.std.proofs.Common.{arith, pos}
use Rattle.std.proofs.lemmas.Int.{ints}
use Rattle.pooma_domain.proofs.Beside.{stands_beside, steps_apart}
use Rattle.pooma_domain.proofs.order.neighbours_in_order.Goals as goal

pub returns : goal.returns
returns c = record {
  steps = steps_apart;
  next = λ axes cell k beside at there. stands_beside axes 0 (pos 1) cell k _ there at beside (omega (arith, ints));
  inside = λ axes n by cell j k there at beside far. stands_beside axes n by cell j k there at beside far;
}
