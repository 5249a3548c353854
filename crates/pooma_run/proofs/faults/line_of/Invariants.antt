use Rattle.std.proofs.Common.{◌≡◌, drop}
use Rattle.pooma_run.proofs.faults.line_of.Given as goal

abbrev pub invariant-passing : goal.invariant-passing
invariant-passing l = l.walk ≡ drop l._passed l.program.order
