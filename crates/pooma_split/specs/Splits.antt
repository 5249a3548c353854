-- The pieces of an action: one for each part of its positions.
use Rattle.std.specs.Prelude.{◌≡◌, ◌≤◌, ◌<◌, ℕ, ℤ, Option, Some, None, List, [], ◌∷◌, length, map, All}
use Rattle.pooma_domain.specs.Cells.{Interval, cells_of, IsIn}
use Rattle.pooma_view.specs.Slots.{cell_named, positions_of}
use Rattle.pooma_view.specs.Views.{Viewed}
use Rattle.pooma_layout.specs.Patches.{total_of, IsLayout}
use Rattle.pooma_expr.specs.declared.tree.Expr.{Expr}
use Rattle.pooma_expr.specs.Trees.{axes_needed, bound, views_of}
use Rattle.pooma_model.specs.declared.statement.Action.{Action}
use Rattle.pooma_model.specs.declared.statement.Action.TheVariants as action
use Rattle.pooma_model.specs.Assigning.{whole_value}
use Rattle.pooma_model.specs.Declarations.{Declared, layout_at}
use Rattle.pooma_model.specs.Parts.{parts_of}
use Rattle.pooma_store.specs.Standing.{owner_object}
use Rattle.pooma_store.specs.Stored.{Stored}
use Rattle.pooma_piece.specs.declared.task.Task.{Task}
use Rattle.pooma_piece.specs.declared.task.Task.TheVariants as task
use Rattle.pooma_piece.specs.Pieces.{AreApart, MOST_POSITIONS, Pieced}

-- what a store's arrays declare, beside so many scalars
abbrev pub declared_in : Stored → ℕ → Declared
declared_in store scalars = record { shapes = store.shapes; layouts = store.layouts; scalars = scalars }

-- the views of which the parts are those of one patch: the target, where there is one, and the read views
abbrev pub views_with : Task → List Viewed → List Viewed
views_with (task.Assign target) views = target ∷ views
views_with _ views = views

-- the object whose patch owns the cell that the view names at the first position of the box
abbrev pub object_for : Declared → List Interval → Viewed → ℕ
object_for declared box view = owner_object declared.layouts view.array (cell_named view.slots (map (λ axis. axis.first) box))

-- the object in whose patch a task sets cells
abbrev pub written_for : Declared → List Interval → Task → Option ℕ
written_for declared box (task.Assign target) = Some (object_for declared box target)
written_for declared box _ = None

-- the piece of a part: it writes the patch that owns the target's cells, and reads those that own the views' cells
abbrev pub piece_of : Declared → ℕ → Task → Expr → List Interval → Pieced
piece_of declared number task code box =
    record {
      statement = number;
      positions = box;
      task = task;
      code = code;
      write = written_for declared box task;
      reads = map (object_for declared box) (views_of code);
    }

-- one piece for each part, in the order of the parts' first positions
abbrev pub pieces_with : Declared → ℕ → Task → Expr → List Interval → List Pieced
pieces_with declared number task code positions =
    map (piece_of declared number task code) (parts_of declared (views_with task (views_of code)) positions)

-- The pieces of the executed statement of this number, where the scalars have these numbers. A print and a block have none.
abbrev pub pieces_of : Declared → List ℤ → ℕ → Action → List Pieced
pieces_of declared scalars number (action.Assign target value mask) =
    pieces_with declared number (task.Assign target) (bound scalars (whole_value target value mask)) (positions_of target.slots)
pieces_of declared scalars number (action.Reduce scalar reduction positions value) =
    pieces_with declared number (task.Reduce reduction) (bound scalars value) positions
pieces_of declared scalars number (action.PrintView view) = []
pieces_of declared scalars number (action.PrintScalar scalar) = []
pieces_of declared scalars number action.Block = []

-- the task is one that a statement is cut for
abbrev pub IsCut : Task → Type 0
IsCut (task.Assign target) = Unit {0}
IsCut (task.Reduce reduction) = Unit {0}
IsCut (task.Fill shape slab array) = ⊥
IsCut (task.Guard array) = ⊥

-- the view has these positions, and names cells of its array, which is there
pub record IsPlaced (declared : Declared) (positions : List Interval) (view : Viewed) : Type 0 where
  pub there : view.array < length declared.layouts
  pub layout : IsLayout (layout_at declared view.array)
  pub slots : length (layout_at declared view.array) ≡ length view.slots
  pub places : positions_of view.slots ≡ positions
  pub cells : (p : List ℤ) → IsIn positions p → IsIn (total_of (layout_at declared view.array)) (cell_named view.slots p)

-- what makes pieces of a task over these positions
pub record CanSplit (declared : Declared) (task : Task) (code : Expr) (positions : List Interval) : Type 0 where
  pub views : All (IsPlaced declared positions) (views_with task (views_of code))
  pub few : length (cells_of positions) ≤ MOST_POSITIONS
  pub axes : axes_needed code ≤ length positions
  pub apart : AreApart task code
  pub cuts : IsCut task
