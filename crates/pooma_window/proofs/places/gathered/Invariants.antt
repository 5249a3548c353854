use Rattle.std.proofs.Common.{length}
use Rattle.pooma_window.proofs.Seated.{HasGathered}
use Rattle.pooma_window.proofs.places.gathered.Given as goal

abbrev pub invariant-loop-place : goal.invariant-loop-place
invariant-loop-place g l = HasGathered l.desk l.fn.places.items l.places.items l.pass

abbrev pub decreases-loop-place : goal.decreases-loop-place
decreases-loop-place g l = length l.places.items
