-- Pieces of statements, and what makes one.
use Rattle.std.specs.Prelude.{◌≡◌, ◌≢◌, ◌≤◌, ℕ, ℤ, Bool, true, false, is_some, Option, Some, List, [], length, slice_get, All, Contains}
use Rattle.pooma_domain.specs.Cells.{Interval, cells_of, IsIn}
use Rattle.pooma_view.specs.Overlap.{IsOverlap}
use Rattle.pooma_view.specs.Slots.{positions_of}
use Rattle.pooma_view.specs.Views.{Viewed}
use Rattle.pooma_field.specs.ShapeOf.{shape_of}
use Rattle.pooma_field.specs.Slabs.{cell_sources, slabs_of}
use Rattle.pooma_expr.specs.declared.tree.Expr.{Expr}
use Rattle.pooma_expr.specs.Trees.{axes_needed, views_of}
use Rattle.pooma_machine.specs.declared.step.Request.{Request}
use Rattle.pooma_piece.specs.declared.task.Task.{Task}
use Rattle.pooma_piece.specs.declared.task.Task.TheVariants.{Assign, Reduce, Fill, Guard}
use Rattle.pooma_piece.specs.Requests.{requests_for}

-- what contracts see of a piece
pub record Pieced : Type 0 where
  -- the number of the executed statement that it is a part of
  pub statement : ℕ
  -- those of the statement's positions that are its own
  pub positions : List Interval
  pub task : Task
  -- the value at each position
  pub code : Expr
  -- the object in whose patch it sets cells, where it does
  pub write : Option ℕ
  -- for each view of the code, in order, the object in whose patch it is read
  pub reads : List ℕ

-- what it asks for
abbrev pub requests_of : Pieced → List Request
requests_of piece = requests_for piece.write piece.reads

abbrev pub MOST_POSITIONS : ℕ
MOST_POSITIONS = 4194304

-- whether a task sets cells
abbrev pub sets_cells : Task → Bool
sets_cells (Assign target) = true
sets_cells (Reduce reduction) = false
sets_cells (Fill shape slab array) = true
sets_cells (Guard array) = true

-- all of these positions are positions of the view
abbrev pub HasPositions : List Interval → Viewed → Type 0
HasPositions positions view = (p : List ℤ) → IsIn positions p → IsIn (positions_of view.slots) p

-- as many objects are read as the task reads views; a fill reads none, and for each source of a cell one object; a guard copy reads
-- none, and one object
abbrev pub AreReads : Task → Expr → List ℕ → Type 0
AreReads (Assign target) code reads = length reads ≡ length (views_of code)
AreReads (Reduce reduction) code reads = length reads ≡ length (views_of code)
AreReads (Fill shape slab array) code reads = (views_of code ≡ []) × ((c : List ℤ) → length reads ≡ length (cell_sources (shape_of shape) slab c))
AreReads (Guard array) code reads = (views_of code ≡ []) × (length reads ≡ 1)

-- the positions are some of the task's own; those of a fill are cells of one of the field's slabs, those of a guard copy any cells
abbrev pub AreOwn : Task → List Interval → Type 0
AreOwn (Assign target) positions = HasPositions positions target
AreOwn (Reduce reduction) positions = Unit {0}
AreOwn (Fill shape slab array) positions = Contains (slabs_of (shape_of shape)) slab × ((c : List ℤ) → IsIn positions c → IsIn slab.target c)
AreOwn (Guard array) positions = Unit {0}

-- no cell that is set at a position is read at another one
abbrev pub AreApart : Task → Expr → Type 0
AreApart (Assign target) code = All (λ view. IsOverlap view target → ⊥) (views_of code)
AreApart (Reduce reduction) code = Unit {0}
AreApart (Fill shape slab array) code = Unit {0}
AreApart (Guard array) code = Unit {0}

-- a view that stands in the code twice is read in one object
abbrev pub AreReadAlike : List Viewed → List ℕ → Type 0
AreReadAlike views reads =
    (j k : ℕ) (view : Viewed) → slice_get views j ≡ Some view → slice_get views k ≡ Some view → slice_get reads j ≡ slice_get reads k

-- the object that is written is read by views of the array whose cells are set, and by no others; by a guard copy it is not read
abbrev pub AreOfTarget : Task → Option ℕ → List Viewed → List ℕ → Type 0
AreOfTarget (Assign target) write views reads =
    (k : ℕ) (view : Viewed) → slice_get views k ≡ Some view → slice_get reads k ≡ write → view.array ≡ target.array
AreOfTarget (Reduce reduction) write views reads = Unit {0}
AreOfTarget (Fill shape slab array) write views reads = Unit {0}
AreOfTarget (Guard array) write views reads = All (λ object. write ≢ Some object) reads

-- what makes a piece
pub record IsPiece (piece : Pieced) : Type 0 where
  pub reads : AreReads piece.task piece.code piece.reads
  pub within : All (HasPositions piece.positions) (views_of piece.code)
  pub own : AreOwn piece.task piece.positions
  pub few : length (cells_of piece.positions) ≤ MOST_POSITIONS
  pub writes : is_some piece.write ≡ sets_cells piece.task
  pub axes : axes_needed piece.code ≤ length piece.positions
  pub apart : AreApart piece.task piece.code
  pub alike : AreReadAlike (views_of piece.code) piece.reads
  pub of_target : AreOfTarget piece.task piece.write (views_of piece.code) piece.reads
