-- Which requests serve an action at one of its positions.
use Rattle.std.specs.Prelude.{ℕ, ℤ, Option, Some, None, IfSome, List, [], All, Contains}
use Rattle.pooma_domain.specs.Cells.{IsIn}
use Rattle.pooma_view.specs.Slots.{cell_named, positions_of}
use Rattle.pooma_view.specs.Views.{Viewed}
use Rattle.pooma_expr.specs.Trees.{views_of}
use Rattle.pooma_queue.specs.declared.queue.Mode.{Mode}
use Rattle.pooma_queue.specs.declared.queue.Mode.TheVariants.{Write}
use Rattle.pooma_machine.specs.declared.step.Request.{Request}
use Rattle.pooma_model.specs.declared.statement.Action.{Action}
use Rattle.pooma_model.specs.declared.statement.Action.TheVariants as action
use Rattle.pooma_model.specs.Assigning.{whole_value}
use Rattle.pooma_model.specs.Declarations.{Declared}
use Rattle.pooma_store.specs.Numbering.{HasPatch, layout_at, object_of}
use Rattle.pooma_store.specs.Standing.{Allocates, owner_object}
use Rattle.pooma_piece.specs.Requests.{request}

-- the position is one of the action's; prints and blocks have none
abbrev pub IsPositionOf : Action → List ℤ → Type 0
IsPositionOf (action.Assign target value mask) p = IsIn (positions_of target.slots) p
IsPositionOf (action.Reduce scalar reduction positions value) p = IsIn positions p
IsPositionOf (action.PrintView view) p = ⊥
IsPositionOf (action.PrintScalar scalar) p = ⊥
IsPositionOf action.Block p = ⊥

-- the view whose cells the action sets, where it sets cells
abbrev pub target_of : Action → Option Viewed
target_of (action.Assign target value mask) = Some target
target_of (action.Reduce scalar reduction positions value) = None
target_of (action.PrintView view) = None
target_of (action.PrintScalar scalar) = None
target_of action.Block = None

-- the views of the value at each position, those of a mask among them
abbrev pub value_views : Action → List Viewed
value_views (action.Assign target value mask) = views_of (whole_value target value mask)
value_views (action.Reduce scalar reduction positions value) = views_of value
value_views (action.PrintView view) = []
value_views (action.PrintScalar scalar) = []
value_views action.Block = []

-- the requests ask to write the object whose patch owns the cell
abbrev pub AskToWrite : Declared → List Request → ℕ → List ℤ → Type 0
AskToWrite declared requests array c = Contains requests (request Write (owner_object declared.layouts array c))

-- the requests ask, to read or to write, for an object of the array whose patch allocates the cell
pub record AskFor (declared : Declared) (requests : List Request) (array : ℕ) (c : List ℤ) : Type 0 where
  pub patch : ℕ
  pub there : HasPatch declared.layouts array patch
  pub holds : Allocates (layout_at declared.layouts array) patch c
  pub mode : Mode
  pub asked : Contains requests (request mode (object_of declared.layouts array patch))

-- they ask to write the target's cell at the position, where there is a target, and for the cell that each view names there
pub record Serve (declared : Declared) (does : Action) (p : List ℤ) (requests : List Request) : Type 0 where
  pub writes : IfSome (target_of does) (λ target. AskToWrite declared requests target.array (cell_named target.slots p))
  pub reads : All (λ view. AskFor declared requests view.array (cell_named view.slots p)) (value_views does)
