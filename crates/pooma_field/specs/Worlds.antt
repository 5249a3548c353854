-- Worlds: flat arrays and scalars. There are no patches in a world, and no guards.
use Rattle.std.specs.Prelude.{ℕ, ℤ, pos, ◌<◌, List, [], length, map, replicate, slice_index_or, slice_set}
use Rattle.pooma_domain.specs.Cells.{cells_of, IsIn}
use Rattle.pooma_field.specs.Look.{look}
use Rattle.pooma_field.specs.Numbered.{Numbered, Change, number_at, with_changes}
use Rattle.pooma_field.specs.Shapes.{Shaped, own_area}

-- for each array the box of the cells that it has numbers for, with these numbers; and a number for each scalar
pub record World : Type 0 where
  pub arrays : List Numbered
  pub scalars : List ℤ

-- what a world has of an array; of an array that it does not know, no number
abbrev pub array_of : World → ℕ → Numbered
array_of world array = slice_index_or world.arrays array (record { area = []; numbers = [] })

-- the number of an array's cell; 0 where the world has none
abbrev pub number_of : World → ℕ → List ℤ → ℤ
number_of world array c = number_at (array_of world array) c

-- the world has a number for this cell of the array
abbrev pub HasCell : World → ℕ → List ℤ → Type 0
HasCell world array c = (array < length world.arrays) × IsIn (array_of world array).area c

-- the value that a world gives to a cell of an array of this shape
abbrev pub look_in : World → Shaped → ℕ → List ℤ → ℤ
look_in world shape array c = look shape (number_of world array) c

-- the world where some cells of an array got other numbers, and all else is as it was
abbrev pub changed : World → ℕ → List Change → World
changed world array changes =
    record world { arrays = slice_set world.arrays array (with_changes (array_of world array) changes) }

abbrev pub scalar_of : World → ℕ → ℤ
scalar_of world scalar = slice_index_or world.scalars scalar (pos 0)

abbrev pub with_scalar : World → ℕ → ℤ → World
with_scalar world scalar n = record world { scalars = slice_set world.scalars scalar n }

-- an array whose cells all have the number 0
abbrev pub zeros : Shaped → Numbered
zeros shape = record { area = own_area shape; numbers = replicate (length (cells_of (own_area shape))) (pos 0) }

-- the world before the first statement: arrays of these shapes, and so many scalars, all numbers 0
abbrev pub opening_world : List Shaped → ℕ → World
opening_world shapes scalars = record { arrays = map zeros shapes; scalars = replicate scalars (pos 0) }
