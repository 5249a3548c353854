use Rattle.std.proofs.Common.{◌≡◌, ◌*◌, ◌++◌, map}
use Rattle.std.specs.List.{range_with_len}
use Rattle.pooma_text.specs.Lines.{ended}
use Rattle.pooma_maker.specs.Draws.{number_after}
use Rattle.pooma_maker.specs.Script.{drawn_line, head}
use Rattle.pooma_maker.proofs.made.script.Given as goal

abbrev pub invariant-loop-line : goal.invariant-loop-line
invariant-loop-line l = record {
  made : l.text.items ≡ ended head ++ ended (map (drawn_line l.seed) (range_with_len 0 l._line));
  drawn : l.draws.last ≡ number_after l.seed (2 * l._line);
}
