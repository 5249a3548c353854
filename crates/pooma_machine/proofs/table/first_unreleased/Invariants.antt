use Rattle.std.proofs.Common.{length, ◌-◌, ◌≤◌}
use Rattle.pooma_machine.specs.Kept.{first_open}
use Rattle.pooma_machine.proofs.table.first_unreleased.Given as goal

abbrev pub invariant-loop-first : goal.invariant-loop-first
invariant-loop-first l = l.first ≤ first_open l.statuses

abbrev pub decreases-loop-first : goal.decreases-loop-first
decreases-loop-first l = length l.statuses - l.first
