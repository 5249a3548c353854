-- What a program declares, and the values that its expressions have in a world.
use Rattle.std.specs.Prelude.{◌≡◌, ◌+◌, ◌≤◌, ℕ, ℤ, None, List, [], ◌∷◌, ◌++◌, length, slice_index_or}
use Rattle.std.specs.List.{AllZip}
use Rattle.pooma_domain.specs.Cells.{cells_of}
use Rattle.pooma_field.specs.Shapes.{Shaped}
use Rattle.pooma_field.specs.Worlds.{World, look_in}
use Rattle.pooma_layout.specs.Axes.{CutAxis}
use Rattle.pooma_layout.specs.Patches.{physical_of, total_of}
use Rattle.pooma_expr.specs.declared.tree.Expr.{Expr}
use Rattle.pooma_expr.specs.Values.{Checked, Contents, value}

-- of each array its shape and its layout, by the array's number; and how many scalars there are
pub record Declared : Type 0 where
  pub shapes : List Shaped
  pub layouts : List (List CutAxis)
  pub scalars : ℕ

-- the shape of an array; of one that is not there, a shape without axes
abbrev pub shape_at : Declared → ℕ → Shaped
shape_at declared array = slice_index_or declared.shapes array (record { physical = []; total = []; faces = None })

abbrev pub layout_at : Declared → ℕ → List CutAxis
layout_at declared array = slice_index_or declared.layouts array []

-- nothing is declared
abbrev pub no_declarations : Declared
no_declarations = record { shapes = []; layouts = []; scalars = 0 }

-- one array more, with the next number
abbrev pub with_array : Shaped → List CutAxis → Declared → Declared
with_array shape layout declared =
    record declared { shapes = declared.shapes ++ shape ∷ []; layouts = declared.layouts ++ layout ∷ [] }

abbrev pub with_one_scalar : Declared → Declared
with_one_scalar declared = record declared { scalars = declared.scalars + 1 }

abbrev pub MOST_ARRAYS : ℕ
MOST_ARRAYS = 256

abbrev pub MOST_CELLS : ℕ
MOST_CELLS = 4194304

-- a shape and a layout that an array may have: they have the same domains, and not too many cells
pub record IsArray (shape : Shaped) (layout : List CutAxis) : Type 0 where
  pub physical : physical_of layout ≡ shape.physical
  pub total : total_of layout ≡ shape.total
  pub few_cells : length (cells_of shape.total) ≤ MOST_CELLS

-- what a program may declare: each array has a shape and a layout
pub record IsDeclaring (declared : Declared) : Type 0 where
  pub few_arrays : length declared.shapes ≤ MOST_ARRAYS
  pub arrays : AllZip IsArray declared.shapes declared.layouts

-- what the array of a view has at a cell
abbrev pub seen_in : Declared → World → Contents
seen_in declared world view c = look_in world (shape_at declared view.array) view.array c

-- the value of an expression at a position
abbrev pub value_in : Declared → World → Expr → List ℤ → Checked
value_in declared world e p = value world.scalars (seen_in declared world) e p
