use Rattle.std.proofs.Common.{◌<◌, ℕ}
use Rattle.pooma_run.proofs.Declared.{IsCutAt}
use Rattle.pooma_run.proofs.sound.program_is_sound.Given as goal

abbrev pub invariant-arrays : goal.invariant-arrays
invariant-arrays l = (k : ℕ) → k < l.array → IsCutAt l.program.declared.shapes l.program.declared.layouts k
