use Rattle.std.proofs.Common.{◌≡◌, length}
use Rattle.pooma_model.specs.Fit.{AreFit}
use Rattle.pooma_statement_tests.proofs.scene.run_program.Given as goal

abbrev pub invariant-loop-statement : goal.invariant-loop-statement
invariant-loop-statement l = record {
  same : l.scene ≡ l.program.declared;
  fit : AreFit l.program.declared l.walk;
}

abbrev pub decreases-loop-statement : goal.decreases-loop-statement
decreases-loop-statement l = length l.walk
