use Rattle.std.proofs.Common.{◌≡◌, length, suc}
use Rattle.pooma_window.proofs.Seated.{HasDealt}
use Rattle.pooma_window.proofs.places.dealt.Given as goal

abbrev pub invariant-loop : goal.invariant-loop
invariant-loop g l = HasDealt l.desk l.seats l.places.items l.first × (suc (length l.places.items) ≡ l.counter)
