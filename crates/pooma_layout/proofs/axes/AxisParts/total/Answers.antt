use Rattle.std.proofs.Common.{arith}
use Rattle.std.proofs.lemmas.Int.{ints}
use Rattle.pooma_layout.proofs.Counting.{same_interval}
use Rattle.pooma_layout.proofs.axes.AxisParts.total.Goals as goal

pub returns : goal.returns
returns c = rw (← c.self.view_is) (same_interval _ _ (omega (arith, ints)) (omega (arith, ints)))
