use Rattle.std.proofs.Common.{◌≡◌, ◌++◌, take, drop}
use Rattle.pooma_fill.specs.Kept.{layouts_of, marks_of, shapes_of}
use Rattle.pooma_fill.specs.Marks.{marks_after}
use Rattle.pooma_fill.proofs.stale.mark_all.Given as goal

abbrev pub invariant-loop-k : goal.invariant-loop-k
invariant-loop-k l = record {
  shapes : shapes_of l.arrays ≡ shapes_of l.initial.arrays;
  layouts : layouts_of l.arrays ≡ layouts_of l.initial.arrays;
  marks : marks_of l.arrays ≡ take l.k (marks_after l.action 0 (shapes_of l.initial.arrays) (marks_of l.initial.arrays)) ++ drop l.k (marks_of l.initial.arrays);
}
