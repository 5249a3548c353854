use Rattle.std.proofs.Common.{◌-◌, ◌≤◌, length}
use Rattle.pooma_text.specs.Tokens.{Runs}
use Rattle.pooma_text.proofs.Readings.{NoBlankAt}
use Rattle.pooma_text.proofs.token.tokens.Given as goal

abbrev pub invariant-loop-at : goal.invariant-loop-at
invariant-loop-at l = record {
  runs : Runs l.line 0 l.found.items l.at;
  no_blank : NoBlankAt l.line l.at;
  few : length l.found.items ≤ 4096;
}

abbrev pub decreases-loop-at : goal.decreases-loop-at
decreases-loop-at l = length l.line - l.at
