use Rattle.std.proofs.Common.{◌≡◌, List, map, take}
use Rattle.pooma_field.specs.declared.shapes.Shape.{Shape}
use Rattle.pooma_field.specs.ShapeOf.{shape_of}
use Rattle.pooma_run.proofs.driver.arrays_have_shapes.Given as goal

abbrev pub invariant-arrays : goal.invariant-arrays
invariant-arrays l = (shapes : List Shape) × (map shape_of shapes ≡ take l.array l.program.declared.shapes)
