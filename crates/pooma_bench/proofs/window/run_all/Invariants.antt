use Rattle.std.proofs.Common.{ℕ, ◌*◌, ◌-◌, length}
use Rattle.pooma_bench.specs.Windows.{HasReleased}
use Rattle.pooma_bench.proofs.window.run_all.Given as goal

abbrev pub invariant-loop-entry : goal.invariant-loop-entry
invariant-loop-entry l = (released : ℕ) × HasReleased l.machine (length l.fn.machine.plan) released

abbrev pub decreases-loop-entry : goal.decreases-loop-entry
decreases-loop-entry l = 3 * length l.fn.machine.plan - length l.machine.history
