use Rattle.std.proofs.Common.{◌≡◌, ◌≤◌, length}
use Rattle.pooma_field.specs.ShapeOf.{shape_of}
use Rattle.pooma_fill.proofs.Taken.{AreKept}
use Rattle.pooma_fill.proofs.boxes.taken_from.Given as goal

-- the cells kept are those whose source is on the axes so far
abbrev pub invariant-loop-axis : goal.invariant-loop-axis
invariant-loop-axis l = record {
  cells : AreKept (shape_of l.shape) l.slab l.part l.from l.axis l.kept;
  dims : length l.kept ≡ length l.part;
  there : l.axis ≤ length l.part;
}
