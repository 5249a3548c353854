-- When an action can be done on the arrays and scalars that are declared.
use Rattle.std.specs.Prelude.{◌≡◌, ◌≤◌, ◌<◌, ℕ, ℤ, pos, List, ◌∷◌, All, length}
use Rattle.pooma_domain.specs.Cells.{Interval, cells_of, IsBox, IsIn}
use Rattle.pooma_view.specs.Slots.{cell_named, positions_of}
use Rattle.pooma_view.specs.Overlap.{IsOverlap}
use Rattle.pooma_view.specs.Views.{Viewed}
use Rattle.pooma_field.specs.Shapes.{own_area}
use Rattle.pooma_expr.specs.declared.tree.Expr.{Expr}
use Rattle.pooma_expr.specs.Trees.{axes_needed, depth_of, scalars_needed, views_of}
use Rattle.pooma_model.specs.declared.statement.Action.{Action}
use Rattle.pooma_model.specs.declared.statement.Action.TheVariants as action
use Rattle.pooma_model.specs.declared.statement.Statement.{Statement}
use Rattle.pooma_model.specs.Assigning.{whole_value}
use Rattle.pooma_model.specs.Declarations.{Declared, shape_at}
use Rattle.pooma_model.specs.Parts.{parts_of}

abbrev pub MOST_POSITIONS : ℕ
MOST_POSITIONS = 4194304

abbrev pub MOST_PARTS : ℕ
MOST_PARTS = 65536

abbrev pub MOST_DEPTH : ℕ
MOST_DEPTH = 256

abbrev pub MOST_READS : ℕ
MOST_READS = 64

-- the array of a view is there, the view has a slot for each of its axes, and names only cells of this box
pub record LiesIn (declared : Declared) (box : List Interval) (view : Viewed) : Type 0 where
  pub there : view.array < length declared.shapes
  pub slots : length view.slots ≡ length (shape_at declared view.array).total
  pub cells : (p : List ℤ) → IsIn (positions_of view.slots) p → IsIn box (cell_named view.slots p)

-- a view that may be read: of all cells of its array
abbrev pub IsReadable : Declared → Viewed → Type 0
IsReadable declared view = LiesIn declared (shape_at declared view.array).total view

-- a view that may be written: of a field's physical cells, or of all cells of a plain array
abbrev pub IsWritable : Declared → Viewed → Type 0
IsWritable declared view = LiesIn declared (own_area (shape_at declared view.array)) view

-- there are so few positions that they can be gone through
pub record AreFew (positions : List Interval) : Type 0 where
  pub box : IsBox positions
  pub few : length (cells_of positions) ≤ MOST_POSITIONS

-- an expression that can be found at each of these positions
pub record IsValueOver (declared : Declared) (positions : List Interval) (e : Expr) : Type 0 where
  pub scalars : scalars_needed e ≤ declared.scalars
  pub axes : axes_needed e ≤ length positions
  pub views : All (IsReadable declared) (views_of e)
  pub equal : All (λ view. positions_of view.slots ≡ positions) (views_of e)
  pub shallow : depth_of e ≤ MOST_DEPTH
  pub few_reads : length (views_of e) ≤ MOST_READS

-- no cell that is written at a position is read at another one
abbrev pub ReadsApart : Viewed → Expr → Type 0
ReadsApart target e = All (λ view. IsOverlap view target → ⊥) (views_of e)

pub record IsAssignFit (declared : Declared) (target : Viewed) (whole : Expr) : Type 0 where
  pub writable : IsWritable declared target
  pub few_positions : AreFew (positions_of target.slots)
  pub value : IsValueOver declared (positions_of target.slots) whole
  pub parts : length (parts_of declared (target ∷ views_of whole) (positions_of target.slots)) ≤ MOST_PARTS
  pub apart : ReadsApart target whole

pub record IsReduceFit (declared : Declared) (scalar : ℕ) (positions : List Interval) (whole : Expr) : Type 0 where
  pub there : scalar < declared.scalars
  pub from_zero : All (λ axis. axis.first ≡ pos 0) positions
  pub few_positions : AreFew positions
  pub value : IsValueOver declared positions whole
  pub parts : length (parts_of declared (views_of whole) positions) ≤ MOST_PARTS

pub record IsPrintFit (declared : Declared) (view : Viewed) : Type 0 where
  pub readable : IsReadable declared view
  pub few_positions : AreFew (positions_of view.slots)

-- an action fits what is declared
abbrev pub IsFit : Declared → Action → Type 0
IsFit declared (action.Assign target value mask) = IsAssignFit declared target (whole_value target value mask)
IsFit declared (action.Reduce scalar reduction positions value) = IsReduceFit declared scalar positions value
IsFit declared (action.PrintView view) = IsPrintFit declared view
IsFit declared (action.PrintScalar scalar) = scalar < declared.scalars
IsFit declared action.Block = Unit {0}

abbrev pub AreFit : Declared → List Statement → Type 0
AreFit declared statements = All (λ statement. IsFit declared statement.action) statements
