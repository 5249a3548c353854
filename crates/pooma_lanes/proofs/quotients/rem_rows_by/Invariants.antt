use Rattle.std.proofs.Common.{◌≡◌, ◌<◌, ℕ}
use Rattle.std.specs.Prelude.{int_rem}
use Rattle.pooma_lanes.specs.Rows.{at_place, number_at}
use Rattle.pooma_lanes.proofs.quotients.rem_rows_by.Given as goal

abbrev pub invariant-loop-k : goal.invariant-loop-k
invariant-loop-k l = (j : ℕ) → j < l.k → at_place l.out j ≡ int_rem (number_at l.a j) l.by
