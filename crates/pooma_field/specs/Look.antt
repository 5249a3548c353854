-- Looking a cell up: its own number where it is physical or the array is plain, else what the updaters make of such numbers.
use Rattle.std.specs.Prelude.{ℤ, Option, Some, None, List, [], ◌∷◌, if◌then◌else◌, int_lt}
use Rattle.pooma_domain.specs.Cells.{Interval}
use Rattle.pooma_field.specs.declared.faces.Ends.{Ends}
use Rattle.pooma_field.specs.Shapes.{Shaped}
use Rattle.pooma_field.specs.Updaters.{updated}

-- the value at a number on an axis or beside it
abbrev pub along : Interval → Ends → (ℤ → ℤ) → ℤ → ℤ
along axis ends value x =
    if int_lt x axis.first then updated ends.low axis value x
    else (if int_lt axis.last x then updated ends.high axis value x else value x)

-- the value at a cell, by the axes from the greatest down: along each, a number takes what the lower axes give to those inside
abbrev pub along_all : List Interval → List Ends → (List ℤ → ℤ) → List ℤ → ℤ
along_all [] faces numbers c = numbers c
along_all (axis ∷ axes) [] numbers c = numbers c
along_all (axis ∷ axes) (ends ∷ faces) numbers [] = numbers []
along_all (axis ∷ axes) (ends ∷ faces) numbers (x ∷ xs) =
    along_all axes faces (λ rest. along axis ends (λ y. numbers (y ∷ rest)) x) xs

-- the same, where an array may have no faces: then each cell has its own number
abbrev pub looked_up : List Interval → Option (List Ends) → (List ℤ → ℤ) → List ℤ → ℤ
looked_up axes None numbers c = numbers c
looked_up axes (Some faces) numbers c = along_all axes faces numbers c

-- the value at a cell of an array of this shape, where its cells have these numbers
abbrev pub look : Shaped → (List ℤ → ℤ) → List ℤ → ℤ
look shape numbers c = looked_up shape.physical shape.faces numbers c
