use Rattle.std.proofs.Common.{◌-◌, length}
use Rattle.pooma_text.specs.Tokens.{AreBlanks}
use Rattle.pooma_text.proofs.scan.skip_blanks.Given as goal

abbrev pub invariant-loop-at : goal.invariant-loop-at
invariant-loop-at l = AreBlanks l.line l.from l.at

abbrev pub decreases-loop-at : goal.decreases-loop-at
decreases-loop-at l = length l.line - l.at
