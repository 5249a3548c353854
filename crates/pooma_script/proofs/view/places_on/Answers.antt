use Rattle.std.proofs.Common.{◌-ℤ◌, arith}
use Rattle.std.proofs.lemmas.Int.{ints}
use Rattle.pooma_script.proofs.Ranges.{places_ahead}
use Rattle.pooma_script.proofs.view.places_on.Goals as goal

pub returns : goal.returns
returns c = rw c.from-4.ensures (places_ahead (c.args.high -ℤ c.args.low) c.args.step _ (omega (arith, ints, c.from.ensures, c.from-2.ensures, c.from-3.ensures)))
