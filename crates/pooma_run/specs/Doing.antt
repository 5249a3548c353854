-- Statements done by their works, their fills and then their pieces, and what a history of works answers.
use Rattle.std.specs.Prelude.{◌≡◌, ℕ, Option, List, length, map, drop, IsTrue, All}
use Rattle.std.specs.List.{filter_map, range_with_len}
use Rattle.pooma_expr.specs.Words.{IsWord}
use Rattle.pooma_field.specs.Numbered.{Numbered}
use Rattle.pooma_field.specs.Worlds.{World}
use Rattle.pooma_fill.specs.Marks.{Staled, declared_of, fills_before}
use Rattle.pooma_law.specs.Ser.{Results}
use Rattle.pooma_machine.specs.declared.step.Event.{Event}
use Rattle.pooma_machine.specs.Values.{values}
use Rattle.pooma_model.specs.declared.statement.Action.{Action}
use Rattle.pooma_model.specs.declared.statement.Action.TheVariants as action
use Rattle.pooma_model.specs.Fit.{IsFit}
use Rattle.pooma_piece.specs.declared.outcome.Outcome.{Outcome}
use Rattle.pooma_piece.specs.Meaning.{pieces}
use Rattle.pooma_piece.specs.Pieces.{Pieced}
use Rattle.pooma_piece.specs.Plans.{Faulted, plan_fault}
use Rattle.pooma_piece.specs.Words.{HaveWords}
use Rattle.pooma_split.specs.Statements.{done_in_order, fault_among}
use Rattle.pooma_split.specs.Words.{literals_fit_in}
use Rattle.pooma_store.specs.Stored.{AreArrays}
use Rattle.pooma_run.specs.Plan.{works_of}
use Rattle.pooma_run.specs.Underway.{IsHere}

-- The action fits, the objects stand for the world, each array that is not marked is fresh, and all numbers are of 64 bits.
pub record CanBeDone (stale : Staled) (objects : List Numbered) (world : World) (does : Action) : Type 0 where
  pub arrays : AreArrays (declared_of stale).shapes (declared_of stale).layouts
  pub as_many : length stale.marks ≡ length stale.shapes
  pub here : IsHere (declared_of stale) stale.marks objects world
  pub fit : IsFit (declared_of stale) does
  pub constants : All HaveWords stale.shapes
  pub scalars : All IsWord world.scalars
  pub literals : IsTrue (literals_fit_in does)

-- the action is a reduction
abbrev pub IsReduction : Action → Type 0
IsReduction (action.Assign target value mask) = ⊥
IsReduction (action.Reduce scalar reduction positions value) = Unit {0}
IsReduction (action.PrintView view) = ⊥
IsReduction (action.PrintScalar scalar) = ⊥
IsReduction action.Block = ⊥

-- what is left and what was answered once the works of the action are done, one after another
abbrev pub works_done : Staled → List Numbered → World → ℕ → Action → Results Numbered Outcome
works_done stale objects world number does = done_in_order (works_of stale world.scalars number does) objects

-- the earliest fault that they answered
abbrev pub works_fault : Staled → List Numbered → World → ℕ → Action → Option Faulted
works_fault stale objects world number does = fault_among (works_of stale world.scalars number does) (works_done stale objects world number does)

-- what its pieces answered, behind its fills
abbrev pub pieces_answers : Staled → List Numbered → World → ℕ → Action → List Outcome
pieces_answers stale objects world number does = drop (length (fills_before stale.layouts stale number does)) (works_done stale objects world number does).outcomes

-- what the entries of a plan answered in a history in which each of them was released, in the plan's order
abbrev pub answers_in : List Pieced → List Numbered → List Event → List Outcome
answers_in plan opening history = filter_map (values pieces plan opening history).outcome (range_with_len 0 (length plan))

-- the earliest fault among these
abbrev pub fault_in_history : List Pieced → List Numbered → List Event → Option Faulted
fault_in_history plan opening history = plan_fault (map (λ piece. piece.statement) plan) (answers_in plan opening history)
