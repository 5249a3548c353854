-- A shape of the code as the plain record.
use Rattle.pooma_field.specs.declared.shapes.Shape.{Shape}
use Rattle.pooma_field.specs.Shapes.{Shaped}

abbrev pub shape_of : Shape → Shaped
shape_of s = record { physical = s.physical; total = s.total; faces = s.faces }
