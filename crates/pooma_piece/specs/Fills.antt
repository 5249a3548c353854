-- What a fill makes of the patches that are lent to it.
use Rattle.std.specs.Prelude.{ℕ, ℤ, Option, List, [], ◌∷◌}
use Rattle.pooma_field.specs.declared.shapes.Slab.{Slab}
use Rattle.pooma_field.specs.Numbered.{Numbered, Change}
use Rattle.pooma_field.specs.Shapes.{Shaped}
use Rattle.pooma_field.specs.Slabs.{cell_sources, cell_value}
use Rattle.pooma_piece.specs.Lent.{lent_for, number_in}
use Rattle.pooma_piece.specs.Pieces.{Pieced}

-- the numbers of these cells, each in the patch of the object that is named for it
abbrev pub numbers_lent : Pieced → Option Numbered → List Numbered → List ℕ → List (List ℤ) → List ℤ
numbers_lent piece written reads [] cells = []
numbers_lent piece written reads (object ∷ objects) [] = []
numbers_lent piece written reads (object ∷ objects) (c ∷ cells) =
    number_in (lent_for piece written reads object) c ∷ numbers_lent piece written reads objects cells

-- what the slab's updater makes for a cell of the numbers at its sources
abbrev pub filled_at : Shaped → Slab → Pieced → Option Numbered → List Numbered → List ℤ → ℤ
filled_at shape slab piece written reads c =
    cell_value shape slab c (numbers_lent piece written reads piece.reads (cell_sources shape slab c))

abbrev pub fill_change : Shaped → Slab → Pieced → Option Numbered → List Numbered → List ℤ → Change
fill_change shape slab piece written reads c = record { cell = c; number = filled_at shape slab piece written reads c }
