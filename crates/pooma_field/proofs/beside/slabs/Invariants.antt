use Rattle.std.proofs.Common.{◌≡◌, take}
use Rattle.std.specs.Prelude.{filter}
use Rattle.pooma_field.specs.ShapeOf.{shape_of}
use Rattle.pooma_field.specs.Slabs.{is_deep, slabs_beside}
use Rattle.pooma_field.proofs.beside.slabs.Given as goal

-- the slabs of the axes so far
abbrev pub invariant-loop-axis : goal.invariant-loop-axis
invariant-loop-axis l = l.list.items ≡ filter is_deep (slabs_beside (shape_of l.shape) 0 (take l.axis l.faces))
