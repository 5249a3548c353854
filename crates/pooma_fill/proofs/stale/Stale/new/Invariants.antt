use Rattle.std.proofs.Common.{◌≡◌, length, map, take}
use Rattle.std.specs.Prelude.{All}
use Rattle.pooma_field.specs.ShapeOf.{shape_of}
use Rattle.pooma_piece.specs.Words.{HaveWords}
use Rattle.pooma_fill.specs.Kept.{layouts_of, marks_of, shapes_of}
use Rattle.pooma_fill.specs.Marks.{first_mark}
use Rattle.pooma_fill.proofs.stale.Stale.new.Given as goal

abbrev pub invariant-loop-array : goal.invariant-loop-array
invariant-loop-array l = record {
  shapes : map (λ array. shape_of array.shape) l.arrays.items ≡ take l.array l.program.declared.shapes;
  layouts : layouts_of l.arrays.items ≡ take l.array l.program.declared.layouts;
  marks : marks_of l.arrays.items ≡ map first_mark (shapes_of l.arrays.items);
  words : All HaveWords (shapes_of l.arrays.items);
  count : length l.arrays.items ≡ l.array;
}
