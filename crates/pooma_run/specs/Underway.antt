-- How a run stands between two statements. Of public calls only a law cites this, for `IsHere` and `Gathers`.
use Rattle.std.specs.Prelude.{◌≡◌, ◌++◌, ◌+◌, ◌<◌, ℕ, ℤ, true, false, Option, None, Some, List, [], ◌∷◌, All, drop, length, slice_get}
use Rattle.pooma_domain.specs.Cells.{Interval}
use Rattle.pooma_expr.specs.declared.reduction.Reduction.{Reduction}
use Rattle.pooma_expr.specs.declared.tree.Expr.{Expr}
use Rattle.pooma_expr.specs.Reductions.{AllFit, result_over}
use Rattle.pooma_expr.specs.Words.{IsWord}
use Rattle.pooma_field.specs.Numbered.{Numbered}
use Rattle.pooma_field.specs.Worlds.{World}
use Rattle.pooma_fill.specs.declared.stale.Mark.{Mark}
use Rattle.pooma_fill.specs.Marks.{Staled, declared_of, fills_before}
use Rattle.pooma_law.specs.Ser.{Results}
use Rattle.pooma_machine.specs.Machine.{FitsShapes}
use Rattle.pooma_model.specs.declared.statement.Action.{Action}
use Rattle.pooma_model.specs.declared.statement.Action.TheVariants as action
use Rattle.pooma_model.specs.declared.statement.Statement.{Statement}
use Rattle.pooma_model.specs.Assigning.{Becomes, assigned}
use Rattle.pooma_model.specs.Declarations.{Declared}
use Rattle.pooma_model.specs.Fit.{IsFit}
use Rattle.pooma_model.specs.Order.{Programmed}
use Rattle.pooma_model.specs.Reducing.{reduced, scalar_given}
use Rattle.pooma_model.specs.Runs.{IsWorldOf}
use Rattle.pooma_model.specs.Serial.{Run, serial, serial_of}
use Rattle.pooma_model.specs.Texts.{fault_text}
use Rattle.pooma_piece.specs.declared.outcome.Outcome.{Outcome}
use Rattle.pooma_piece.specs.Meaning.{pieces}
use Rattle.pooma_piece.specs.Pieces.{Pieced}
use Rattle.pooma_piece.specs.Plans.{Faulted}
use Rattle.pooma_piece.specs.Words.{AllWords, HaveWords}
use Rattle.pooma_split.specs.Splits.{declared_in}
use Rattle.pooma_split.specs.Statements.{as_fault, done_in_order, fault_among}
use Rattle.pooma_store.specs.Numbering.{AreObjects, areas_of, object_count}
use Rattle.pooma_store.specs.Standing.{IsFresh, IsFreshFor, StandsFor}
use Rattle.pooma_store.specs.Stored.{AreArrays, Stored}
use Rattle.pooma_run.specs.Outcomes.{AreValues, joined}
use Rattle.pooma_run.specs.Plan.{fault_of_run, first_to_fault, stale_after, works_of}
use Rattle.pooma_window.specs.Windows.{AsksWithin}

-- the run behind these bytes
abbrev pub behind : List ℕ → Run → Run
behind bytes run = record { bytes = bytes ++ run.bytes; faulted = run.faulted }

-- what is kept
pub record Kept : Type 0 where
  pub stale : Staled
  pub store : Stored
  pub scalars : List ℤ
  pub pending : List Pieced
  pub bytes : List ℕ

-- what is left once all that is pending is done
abbrev pub left : Kept → Results Numbered Outcome
left kept = done_in_order kept.pending kept.store.objects

-- the same with the works of the next statement pending behind the others, and with what is stale after it
abbrev pub with_works : Kept → ℕ → Action → Kept
with_works kept number does =
    record kept {
      stale = stale_after kept.stale does;
      pending = kept.pending ++ works_of kept.stale kept.scalars number does;
    }

-- the place among all works at which its pieces begin
abbrev pub begins : Kept → ℕ → Action → ℕ
begins kept number does = length kept.pending + length (fills_before kept.stale.layouts kept.stale number does)

-- the same once what was pending is completed
abbrev pub completed : Kept → Kept
completed kept = record kept { store = record kept.store { objects = (left kept).objects }; pending = [] }

-- the objects stand for the world, each array that is not marked is fresh, and all numbers are of 64 bits
pub record IsHere (declared : Declared) (marks : List Mark) (objects : List Numbered) (world : World) : Type 0 where
  pub world_of : IsWorldOf declared world
  pub objects_are : AreObjects declared.layouts objects
  pub stands : StandsFor declared.layouts objects world
  pub fresh : (array : ℕ) (mark : Mark) → slice_get marks array ≡ Some mark → mark.external ≡ false
      → IsFresh declared.shapes declared.layouts objects world array
  pub words : AllWords objects

-- what is pending has no fault, and the run is what is written and then what these statements do from this world on
pub record GoesOn (program : Programmed) (kept : Kept) (number : ℕ) (rest : List Statement) (world : World) : Type 0 where
  pub run : serial_of program ≡ behind kept.bytes (serial program.declared rest world)
  pub first : fault_of_run program ≡ first_to_fault program.declared number rest world
  pub scalars : world.scalars ≡ kept.scalars

-- what is pending has this fault first, and the run ends by it
pub record EndsBy (program : Programmed) (kept : Kept) (fault : Faulted) : Type 0 where
  pub statement : Statement
  pub is : slice_get program.order fault.statement ≡ Some statement
  pub run : serial_of program ≡ record { bytes = kept.bytes ++ fault_text statement.line (as_fault fault); faulted = true }
  pub first : fault_of_run program ≡ Some fault.statement

-- the works that are pending, of statements before this number: each can be done on the objects
pub record ArePending (declared : Declared) (number : ℕ) (pending : List Pieced) : Type 0 where
  pub there : All (AsksWithin pieces (object_count declared.layouts)) pending
  pub fits : All (FitsShapes pieces (areas_of declared.layouts)) pending
  pub before : All (λ piece. piece.statement < number) pending

-- what does not change along a run
pub record IsOf (program : Programmed) (kept : Kept) : Type 0 where
  pub declared : declared_of kept.stale ≡ program.declared
  pub in_store : declared_in kept.store (length kept.scalars) ≡ program.declared
  pub arrays : AreArrays program.declared.shapes program.declared.layouts
  pub as_many : length kept.stale.marks ≡ length kept.stale.shapes
  pub constants : All HaveWords kept.stale.shapes
  pub home : kept.store.lent ≡ false
  pub words : All IsWord kept.scalars

-- where a run stands before the executed statement of this number
abbrev pub StandsBy : Programmed → Kept → ℕ → List Statement → Option Faulted → Type 0
StandsBy program kept number rest (Some fault) = EndsBy program kept fault
StandsBy program kept number rest None = (world : World) × GoesOn program kept number rest world × IsHere program.declared kept.stale.marks (left kept).objects world

pub record IsUnderway (program : Programmed) (kept : Kept) (number : ℕ) : Type 0 where
  pub of : IsOf program kept
  pub pending : ArePending program.declared number kept.pending
  pub stands : StandsBy program kept number (drop number program.order) (fault_among kept.pending (left kept))

-- what the pieces of a reduction answered, and what it makes of the world
pub record Gathers (declared : Declared) (scalar : ℕ) (reduction : Reduction) (positions : List Interval) (value : Expr) (world : World) (outcomes : List Outcome) : Type 0 where
  pub values : AreValues reduction outcomes
  pub fit : AllFit (joined values.lists)
  pub comes : reduced declared scalar reduction positions value world ≡ scalar_given world scalar (result_over reduction (joined values.lists))

-- what the works of an action without a fault left of a world before it, and what its pieces answered
abbrev pub IsDone : Declared → List Mark → List Numbered → World → Action → List Outcome → Type 0
IsDone declared marks objects world (action.Assign target value mask) outcomes =
    (new : World) × (assigned declared target value mask world ≡ Becomes new) × IsHere declared marks objects new
IsDone declared marks objects world (action.Reduce scalar reduction positions value) outcomes =
    IsHere declared marks objects world × Gathers declared scalar reduction positions value world outcomes
IsDone declared marks objects world (action.PrintView view) outcomes =
    IsHere declared marks objects world × IsFreshFor declared.shapes declared.layouts objects world view
IsDone declared marks objects world (action.PrintScalar scalar) outcomes = IsHere declared marks objects world
IsDone declared marks objects world action.Block outcomes = IsHere declared marks objects world

-- where a run stands once the works of the executed statement of this number are pending too, and its pieces answer this
abbrev pub AddedBy : Programmed → Kept → ℕ → Statement → List Outcome → Option Faulted → Type 0
AddedBy program kept number s outcomes (Some fault) = EndsBy program kept fault
AddedBy program kept number s outcomes None =
    (world : World) × GoesOn program kept number (s ∷ drop (number + 1) program.order) world
    × IsDone program.declared kept.stale.marks (left kept).objects world s.action outcomes

pub record IsAdded (program : Programmed) (kept : Kept) (number : ℕ) (s : Statement) (outcomes : List Outcome) : Type 0 where
  pub of : IsOf program kept
  pub fit : IsFit program.declared s.action
  pub pending : ArePending program.declared (number + 1) kept.pending
  pub stands : AddedBy program kept number s outcomes (fault_among kept.pending (left kept))

-- where it stands once these works were completed without a fault
pub record IsConcluding (program : Programmed) (kept : Kept) (number : ℕ) (s : Statement) (outcomes : List Outcome) : Type 0 where
  pub of : IsOf program kept
  pub fit : IsFit program.declared s.action
  pub none : kept.pending ≡ []
  pub world : World
  pub goes : GoesOn program kept number (s ∷ drop (number + 1) program.order) world
  pub done : IsDone program.declared kept.stale.marks kept.store.objects world s.action outcomes

-- the fault that ends a window, as its text is written
pub record WritesFault (program : Programmed) (kept : Kept) (bytes : List ℕ) : Type 0 where
  pub fault : Faulted
  pub is : fault_among kept.pending (left kept) ≡ Some fault
  pub statement : Statement
  pub at : slice_get program.order fault.statement ≡ Some statement
  pub written : bytes ≡ kept.bytes ++ fault_text statement.line (as_fault fault)
