use Rattle.std.proofs.Common.{◌≡◌, ◌≤◌, ◌*◌, ◌^◌, take}
use Rattle.std.specs.Prelude.{unsigned_abs}
use Rattle.pooma_lanes.specs.Totals.{sum_of}
use Rattle.pooma_lanes.proofs.totals.sum_one_by_one.Given as goal

abbrev pub invariant-loop-number : goal.invariant-loop-number
invariant-loop-number l = (l.total ≡ sum_of (take l.number-index l.numbers)) × (unsigned_abs l.total ≤ l.number-index * 2 ^ 63)
