-- Which arrays are stale, which fills a statement needs, and what is stale after it.
use Rattle.std.specs.Prelude.{◌≡◌, ◌==◌, ℕ, suc, Bool, true, false, ◌&&◌, not, is_some, List, [], ◌∷◌, ◌++◌, length, map, take, if◌then◌else◌}
use Rattle.pooma_field.specs.declared.shapes.Shape.{Shape}
use Rattle.pooma_field.specs.ShapeOf.{shape_of}
use Rattle.pooma_layout.specs.Axes.{CutAxis}
use Rattle.pooma_model.specs.declared.statement.Action.{Action}
use Rattle.pooma_model.specs.declared.statement.Action.TheVariants as action
use Rattle.pooma_model.specs.Declarations.{Declared}
use Rattle.pooma_piece.specs.Pieces.{Pieced}
use Rattle.pooma_store.specs.Stored.{Stored}
use Rattle.pooma_fill.specs.declared.stale.Mark.{Mark}
use Rattle.pooma_fill.specs.Filling.{fills_of_field}
use Rattle.pooma_fill.specs.Reading.{reads_external}

-- what is kept of each array, by its number: its shape, its layout and its mark; and how many scalars there are
pub record Staled : Type 0 where
  pub shapes : List Shape
  pub layouts : List (List CutAxis)
  pub marks : List Mark
  pub scalars : ℕ

-- the arrays and scalars that it knows
abbrev pub declared_of : Staled → Declared
declared_of stale = record { shapes = map shape_of stale.shapes; layouts = stale.layouts; scalars = stale.scalars }

-- whether the action needs the fills of this array: it is stale, and read in an external cell
abbrev pub is_needed : Action → ℕ → Shape → Mark → Bool
is_needed does array shape mark = mark.external && (is_some shape.faces && reads_external (shape_of shape) array does)

-- the fills that the action needs of one array
abbrev pub fills_if : List (List CutAxis) → ℕ → Action → ℕ → Shape → Mark → List Pieced
fills_if layouts number does array shape mark = if is_needed does array shape mark then fills_of_field layouts number shape array else []

-- the fills that the action needs of these arrays, the first of which has this number
abbrev pub fills_from : List (List CutAxis) → ℕ → Action → ℕ → List Shape → List Mark → List Pieced
fills_from layouts number does array [] marks = []
fills_from layouts number does array (shape ∷ shapes) [] = []
fills_from layouts number does array (shape ∷ shapes) (mark ∷ marks) =
    fills_if layouts number does array shape mark ++ fills_from layouts number does (suc array) shapes marks

-- the fills that an action needs, by the arrays' numbers, where the arrays of a store have these layouts
abbrev pub fills_before : List (List CutAxis) → Staled → ℕ → Action → List Pieced
fills_before layouts stale number does = fills_from layouts number does 0 stale.shapes stale.marks

-- at the start each field is stale
abbrev pub first_mark : Shape → Mark
first_mark shape = record { external = is_some shape.faces }

-- whether the action gives cells of this array numbers
abbrev pub is_target : Action → ℕ → Bool
is_target (action.Assign target value mask) array = target.array == array
is_target (action.Reduce scalar reduction positions value) array = false
is_target (action.PrintView view) array = false
is_target (action.PrintScalar scalar) array = false
is_target action.Block array = false

-- after an action and its fills: a field of which cells were given numbers is stale, and of the others one that was filled is fresh
abbrev pub mark_after : Action → ℕ → Shape → Mark → Mark
mark_after does array shape mark =
    record { external = is_some shape.faces && (if is_target does array then true else (mark.external && not (is_needed does array shape mark))) }

abbrev pub marks_after : Action → ℕ → List Shape → List Mark → List Mark
marks_after does array [] marks = []
marks_after does array (shape ∷ shapes) [] = []
marks_after does array (shape ∷ shapes) (mark ∷ marks) = mark_after does array shape mark ∷ marks_after does (suc array) shapes marks

-- the store has these arrays before all others
pub record HasArrays (store : Stored) (stale : Staled) : Type 0 where
  pub shapes : take (length stale.shapes) store.shapes ≡ map shape_of stale.shapes
  pub layouts : take (length stale.layouts) store.layouts ≡ stale.layouts
