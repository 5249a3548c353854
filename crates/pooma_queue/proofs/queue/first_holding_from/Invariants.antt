use Rattle.std.proofs.Common.{length, ◌-◌, ◌≤◌}
use Rattle.pooma_queue.specs.Requests.{first_holding}
use Rattle.pooma_queue.proofs.queue.first_holding_from.Given as goal

abbrev pub invariant-loop-place : goal.invariant-loop-place
invariant-loop-place l = l.place ≤ first_holding l.mode l.requests

abbrev pub decreases-loop-place : goal.decreases-loop-place
decreases-loop-place l = length l.requests - l.place
