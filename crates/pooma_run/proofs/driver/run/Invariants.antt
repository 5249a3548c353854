use Rattle.std.proofs.Common.{◌≡◌, ◌≤◌, drop, length}
use Rattle.pooma_run.specs.Told.{TellsUpTo}
use Rattle.pooma_run.specs.Underway.{IsUnderway}
use Rattle.pooma_run.proofs.driver.run.Given as goal

abbrev pub invariant-statements : goal.invariant-statements
invariant-statements g l = record {
  underway : IsUnderway l.program l.running l.number;
  rest : l.walk ≡ drop l.number l.program.order;
  within : l.number ≤ length l.program.order;
  stays : g.C.Completer.stays l.fn.completer l.completer;
  ready : g.C.Completer.ready l.completer;
  tells : TellsUpTo g.C.Completer.tells l.program l.running l.number (g.C.Completer.told l.fn.completer) (g.C.Completer.told l.completer) l.fn.completer l.completer;
}

abbrev pub decreases-statements : goal.decreases-statements
decreases-statements g l = length l.walk
