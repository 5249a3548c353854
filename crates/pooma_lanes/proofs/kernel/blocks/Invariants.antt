use Rattle.std.proofs.Common.{◌≤◌, ◌-◌, length}
use Rattle.pooma_lanes.specs.Rows.{IsDoneUpTo, number_at}
use Rattle.pooma_lanes.proofs.kernel.blocks.Given as goal

abbrev pub invariant-loop-out : goal.invariant-loop-out
invariant-loop-out g l = (l.at ≤ length l.out) × IsDoneUpTo (λ k r. g.K.Checked.answers (number_at l.a k) (number_at l.b k) r) l.initial.out l.out l.at

abbrev pub decreases-loop-out : goal.decreases-loop-out
decreases-loop-out g l = length l.initial.out - l.at
