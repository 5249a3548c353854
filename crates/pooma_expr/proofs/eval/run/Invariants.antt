use Rattle.std.proofs.Common.{ℕ, ◌-◌, ◌≤◌, [], length, drop}
use Rattle.pooma_expr.specs.Machine.{outcome}
use Rattle.pooma_expr.proofs.Runs.{IsAt}
use Rattle.pooma_expr.proofs.eval.run.Given as goal

abbrev pub invariant-loop-at : goal.invariant-loop-at
invariant-loop-at g l =
    let number = λ (read : ℕ). g.R.Reads.number l.reads read l.p in
    record {
      within : l.top ≤ length l.places;
      is_at : IsAt number l.p (λ read. g.R.Reads.can_ask l.reads read l.p) (length l.places) l.operations (outcome number l.p l.operations 0 []) l.at (drop l.top l.places);
    }

abbrev pub decreases-loop-at : goal.decreases-loop-at
decreases-loop-at g l = length l.operations - l.at
