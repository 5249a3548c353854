-- What is kept of the arrays, as what contracts see.
use Rattle.std.specs.Prelude.{List, map}
use Rattle.pooma_field.specs.declared.shapes.Shape.{Shape}
use Rattle.pooma_layout.specs.Axes.{CutAxis}
use Rattle.pooma_fill.specs.declared.stale.Array.{Array}
use Rattle.pooma_fill.specs.declared.stale.Mark.{Mark}

abbrev pub shapes_of : List Array → List Shape
shapes_of arrays = map (λ array. array.shape) arrays

abbrev pub layouts_of : List Array → List (List CutAxis)
layouts_of arrays = map (λ array. array.layout) arrays

abbrev pub marks_of : List Array → List Mark
marks_of arrays = map (λ array. array.mark) arrays
