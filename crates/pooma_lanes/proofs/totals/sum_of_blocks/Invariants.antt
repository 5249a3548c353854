use Rattle.std.proofs.Common.{◌-◌, length, map, w64, to_z}
use Rattle.pooma_lanes.proofs.RowTotals.{IsSummed}
use Rattle.pooma_lanes.proofs.totals.sum_of_blocks.Given as goal

abbrev pub invariant-loop-at : goal.invariant-loop-at
invariant-loop-at l = IsSummed l.numbers l.at l.total (map (to_z w64) l.sums)

abbrev pub decreases-loop-at : goal.decreases-loop-at
decreases-loop-at l = length l.numbers - l.at
