use Rattle.std.proofs.Common.{◌≡◌, take, map}
use Rattle.std.specs.Prelude.{sum_by}
use Rattle.pooma_domain.specs.Cells.{axis_length}
use Rattle.pooma_layout.specs.Axes.{allocated_part, parts}
use Rattle.pooma_layout.proofs.axes.AxisParts.allocated_len.Given as goal

abbrev pub invariant-loop-k : goal.invariant-loop-k
invariant-loop-k l = l.len ≡ sum_by axis_length (take l.k (map (allocated_part l.self) (parts l.self)))
