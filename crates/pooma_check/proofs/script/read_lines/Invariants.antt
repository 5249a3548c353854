use Rattle.std.proofs.Common.{◌+◌, ◌<◌}
use Rattle.pooma_text.specs.Lines.{lines_of}
use Rattle.pooma_script.specs.Known.{nothing_known}
use Rattle.pooma_script.specs.Scripts.{Read}
use Rattle.pooma_check.specs.Kept.{IsKept, known_of}
use Rattle.pooma_check.proofs.Along.{ReadSoFar}
use Rattle.pooma_check.proofs.script.read_lines.Given as goal

-- what is left to read makes up what all lines do
abbrev pub invariant-loop-n : goal.invariant-loop-n
invariant-loop-n l = record {
  kept : IsKept l.known;
  scalars : l.known.draft.declared.scalars < l.n + 1;
  sofar : ReadSoFar (lines_of l.bytes) (Read 1 nothing_known (lines_of l.bytes)) l.n (known_of l.known);
}
