use Rattle.std.proofs.Common.{◌≡◌, ◌<◌, ℕ, pos, if◌then◌else◌}
use Rattle.std.specs.Ordering.{int_eq}
use Rattle.pooma_lanes.specs.Rows.{at_place, number_at}
use Rattle.pooma_lanes.proofs.choice.select_rows.Given as goal

abbrev pub invariant-loop-k : goal.invariant-loop-k
invariant-loop-k l = (j : ℕ) → j < l.k → at_place l.out j ≡ (if int_eq (number_at l.chosen j) (pos 0) then number_at l.b j else number_at l.a j)
