use Rattle.pooma_text.proofs.Cuts.{IsCutSoFar}
use Rattle.pooma_text.proofs.line.lines.Given as goal

abbrev pub invariant-loop-at : goal.invariant-loop-at
invariant-loop-at l = IsCutSoFar l.bytes l.spans.items l.start l.at
