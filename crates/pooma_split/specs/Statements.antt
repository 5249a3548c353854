-- What the pieces of a statement, done in order, come to.
use Rattle.std.specs.Prelude.{◌≡◌, ℕ, ℤ, Option, Some, None, List, map, All}
use Rattle.std.specs.List.Sorted.{IsPermutation}
use Rattle.pooma_domain.specs.Cells.{Interval, cells_of, IsIn}
use Rattle.pooma_view.specs.Slots.{cell_named, positions_of}
use Rattle.pooma_view.specs.Views.{Viewed}
use Rattle.pooma_field.specs.Numbered.{Numbered}
use Rattle.pooma_field.specs.Worlds.{World, HasCell}
use Rattle.pooma_expr.specs.declared.reduction.Reduction.{Reduction}
use Rattle.pooma_expr.specs.declared.tree.Expr.{Expr}
use Rattle.pooma_expr.specs.Reductions.{AllFit, result_over}
use Rattle.pooma_law.specs.Ser.{Results, ser}
use Rattle.pooma_model.specs.Assigning.{Becomes, Effect, Fault, Faults, Position}
use Rattle.pooma_model.specs.Declarations.{Declared, shape_at, value_in}
use Rattle.pooma_model.specs.Partitions.{numbers_at, numbers_in_turn}
use Rattle.pooma_model.specs.Reducing.{scalar_given}
use Rattle.pooma_store.specs.Numbering.{AreObjects}
use Rattle.pooma_store.specs.Standing.{IsFreshFor, IsOwn, StandsFor}
use Rattle.pooma_store.specs.Stored.{AreArrays}
use Rattle.pooma_piece.specs.declared.outcome.Outcome.{Outcome}
use Rattle.pooma_piece.specs.declared.outcome.Outcome.TheVariants.{Value}
use Rattle.pooma_piece.specs.Effects.{kept_of}
use Rattle.pooma_piece.specs.Meaning.{pieces}
use Rattle.pooma_piece.specs.Pieces.{Pieced}
use Rattle.pooma_piece.specs.Plans.{Faulted, plan_fault}

-- the world has each cell of the view that has a number of its own, and all physical cells of its array where the view names an
-- external one
pub record HasView (declared : Declared) (world : World) (view : Viewed) : Type 0 where
  pub own : (p : List ℤ) → IsIn (positions_of view.slots) p → IsOwn declared.shapes view p → HasCell world view.array (cell_named view.slots p)
  pub field : (p c : List ℤ) → IsIn (positions_of view.slots) p → ¬ (IsOwn declared.shapes view p) → IsIn (shape_at declared view.array).physical c → HasCell world view.array c

-- the objects stand for the world, which has what these views name, and fields are fresh where they name external cells
pub record Stands (declared : Declared) (objects : List Numbered) (world : World) (views : List Viewed) : Type 0 where
  pub arrays : AreArrays declared.shapes declared.layouts
  pub objects_are : AreObjects declared.layouts objects
  pub stands : StandsFor declared.layouts objects world
  pub has : All (HasView declared world) views
  pub fresh : All (IsFreshFor declared.shapes declared.layouts objects world) views

-- what is left and what was answered once the pieces were done, one after another
abbrev pub done_in_order : List Pieced → List Numbered → Results Numbered Outcome
done_in_order plan objects = ser pieces plan objects

-- the earliest fault that pieces answered
abbrev pub fault_among : List Pieced → Results Numbered Outcome → Option Faulted
fault_among plan results = plan_fault (map (λ piece. piece.statement) plan) results.outcomes

-- a fault that pieces answered, as a fault of their statement
abbrev pub as_fault : Faulted → Fault
as_fault faulted = record { place = Position faulted.position; kind = faulted.kind }

-- Either pieces answered a fault, and the earliest of theirs is the assignment's, or none did, and the objects stand for the
-- world that it becomes.
abbrev pub ComesTo : Declared → ℕ → Option Faulted → Results Numbered Outcome → Effect → Type 0
ComesTo declared number (Some faulted) results effect = (faulted.statement ≡ number) × (effect ≡ Faults (as_fault faulted))
ComesTo declared number None results effect =
    (new : World) × (effect ≡ Becomes new) × AreObjects declared.layouts results.objects × StandsFor declared.layouts results.objects new

-- each box's piece answered what the reduction keeps of the box's numbers
abbrev pub value_over : Reduction → (List Interval → List ℤ) → List Interval → Outcome
value_over reduction numbers box = Value (kept_of reduction (numbers box))

-- Either pieces answered a fault, and the earliest of theirs is the reduction's, or each answered what the reduction keeps of
-- the numbers at its positions, and the numbers of all boxes, in any order of these, come to the reduction's result or to its
-- fault at the sum. The numbers are of 64 bits.
abbrev pub GathersTo : Declared → ℕ → World → ℕ → Reduction → Expr → List (List Interval) → Option Faulted → List Outcome → Effect → Type 0
GathersTo declared number world scalar reduction value boxes (Some faulted) outcomes effect =
    (faulted.statement ≡ number) × (effect ≡ Faults (as_fault faulted))
GathersTo declared number world scalar reduction value boxes None outcomes effect =
    (outcomes ≡ map (value_over reduction (λ box. numbers_at (value_in declared world value) (cells_of box))) boxes)
    × ((order : List (List Interval)) → IsPermutation boxes order → AllFit (numbers_in_turn (value_in declared world value) order)
    → effect ≡ scalar_given world scalar (result_over reduction (numbers_in_turn (value_in declared world value) order)))
