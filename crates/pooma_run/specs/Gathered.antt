-- What the laws of the crates below say of works, of statements and of their worlds, in one place. No contract of a public call
-- cites it.
use Rattle.std.specs.Prelude.{◌≡◌, ◌≢◌, ◌++◌, ℕ, ℤ, false, None, Option, List, map, length, IsTrue, All, Contains}
use Rattle.std.specs.List.Sorted.{IsPermutation}
use Rattle.pooma_domain.specs.Cells.{Interval, cells_of}
use Rattle.pooma_view.specs.Views.{Viewed}
use Rattle.pooma_field.specs.Numbered.{IsFull, Numbered}
use Rattle.pooma_field.specs.Shapes.{Shaped}
use Rattle.pooma_field.specs.Worlds.{World, array_of, opening_world}
use Rattle.pooma_layout.specs.Axes.{CutAxis}
use Rattle.pooma_expr.specs.declared.reduction.Reduction.{Reduction}
use Rattle.pooma_expr.specs.declared.tree.Expr.{Expr}
use Rattle.pooma_expr.specs.Reductions.{AllFit}
use Rattle.pooma_expr.specs.Trees.{bound, views_of}
use Rattle.pooma_expr.specs.Words.{IsWord}
use Rattle.pooma_law.specs.Ser.{Results}
use Rattle.pooma_machine.specs.Journal.{entry_of}
use Rattle.pooma_machine.specs.Machine.{FitsShapes}
use Rattle.pooma_model.specs.declared.statement.Action.{Action}
use Rattle.pooma_model.specs.declared.statement.Action.TheVariants as action
use Rattle.pooma_model.specs.Assigning.{Becomes, assigned, whole_value}
use Rattle.pooma_model.specs.Declarations.{Declared, value_in}
use Rattle.pooma_model.specs.Fit.{IsFit, IsWritable}
use Rattle.pooma_model.specs.Partitions.{numbers_in_turn}
use Rattle.pooma_model.specs.Parts.{parts_of}
use Rattle.pooma_model.specs.Reducing.{reduced}
use Rattle.pooma_model.specs.Runs.{IsWorldOf}
use Rattle.pooma_model.specs.Serial.{effect_of}
use Rattle.pooma_piece.specs.declared.outcome.Outcome.{Outcome}
use Rattle.pooma_piece.specs.declared.outcome.Outcome.TheVariants.{Done}
use Rattle.pooma_piece.specs.Gathered.{HasMembers}
use Rattle.pooma_piece.specs.Meaning.{pieces}
use Rattle.pooma_piece.specs.Pieces.{Pieced}
use Rattle.pooma_piece.specs.Plans.{Faulted}
use Rattle.pooma_piece.specs.Words.{AllWords, HaveWords}
use Rattle.pooma_store.specs.Numbering.{AreObjects, areas_of, new_objects, object_count}
use Rattle.pooma_store.specs.Standing.{IsFresh, IsFreshFor, StandsFor}
use Rattle.pooma_store.specs.Stored.{AreArrays, Stored}
use Rattle.pooma_split.specs.Gathered.{SeesOwn}
use Rattle.pooma_split.specs.Splits.{pieces_of}
use Rattle.pooma_split.specs.Statements.{ComesTo, GathersTo, Stands, done_in_order, fault_among}
use Rattle.pooma_split.specs.Words.{literals_fit_in}
use Rattle.pooma_fill.specs.Freshened.{AreMarked, CanFill, filled}
use Rattle.pooma_fill.specs.Marks.{HasArrays, Staled, declared_of, fills_before, first_mark, is_target, marks_after}
use Rattle.pooma_fill.specs.Reading.{views_read}
use Rattle.pooma_window.specs.Windows.{AsksWithin}

-- works done one after another
pub record OfWorks : Type 0 where
  pub objects : (front rest : List Pieced) (opening : List Numbered)
      → (done_in_order (front ++ rest) opening).objects ≡ (done_in_order rest (done_in_order front opening).objects).objects
  pub outcomes : (front rest : List Pieced) (opening : List Numbered)
      → (done_in_order (front ++ rest) opening).outcomes ≡ (done_in_order front opening).outcomes ++ (done_in_order rest (done_in_order front opening).objects).outcomes
  pub count : (plan : List Pieced) (opening : List Numbered) → length (done_in_order plan opening).outcomes ≡ length plan

-- what is left and answered once the pieces of an action are done, and the first fault among their answers
abbrev pub pieces_done : Declared → List ℤ → ℕ → Action → List Numbered → Results Numbered Outcome
pieces_done declared scalars number does objects = done_in_order (pieces_of declared scalars number does) objects

abbrev pub pieces_fault : Declared → List ℤ → ℕ → Action → List Numbered → Option Faulted
pieces_fault declared scalars number does objects = fault_among (pieces_of declared scalars number does) (pieces_done declared scalars number does objects)

-- the pieces of a statement
pub record OfPieces : Type 0 where
  pub known : (declared : Declared) (scalars : List ℤ) (number : ℕ) (does : Action) (piece : Pieced) → AreArrays declared.shapes declared.layouts
      → IsFit declared does → Contains (pieces_of declared scalars number does) piece → AsksWithin pieces (object_count declared.layouts) piece
  pub fits : (declared : Declared) (scalars : List ℤ) (number : ℕ) (does : Action) (piece : Pieced) → AreArrays declared.shapes declared.layouts
      → IsFit declared does → Contains (pieces_of declared scalars number does) piece → FitsShapes pieces (areas_of declared.layouts) piece
  pub statement : (declared : Declared) (scalars : List ℤ) (number : ℕ) (does : Action) (piece : Pieced) → AreArrays declared.shapes declared.layouts
      → IsFit declared does → Contains (pieces_of declared scalars number does) piece → piece.statement ≡ number
  pub entries : (declared : Declared) (xs ys : List ℤ) (number : ℕ) (does : Action)
      → map (entry_of pieces) (pieces_of declared xs number does) ≡ map (entry_of pieces) (pieces_of declared ys number does)
  pub assigns : (declared : Declared) (objects : List Numbered) (world : World) (number : ℕ) (target : Viewed) (value : Expr) (mask : Option Expr)
      → IsFit declared (action.Assign target value mask) → Stands declared objects world (views_of (whole_value target value mask)) → IsFull (array_of world target.array)
      → ComesTo declared number
      (pieces_fault declared world.scalars number (action.Assign target value mask) objects)
      (pieces_done declared world.scalars number (action.Assign target value mask) objects) (assigned declared target value mask world)
  pub elsewhere : (declared : Declared) (objects : List Numbered) (world new : World) (number : ℕ) (target : Viewed) (value : Expr) (mask : Option Expr) (other : ℕ)
      → IsFit declared (action.Assign target value mask) → Stands declared objects world (views_of (whole_value target value mask)) → IsFull (array_of world target.array)
      → pieces_fault declared world.scalars number (action.Assign target value mask) objects ≡ None
      → assigned declared target value mask world ≡ Becomes new → other ≢ target.array → IsFresh declared.shapes declared.layouts objects world other
      → IsFresh declared.shapes declared.layouts (pieces_done declared world.scalars number (action.Assign target value mask) objects).objects new other
  pub reduces : (declared : Declared) (objects : List Numbered) (world : World) (number scalar : ℕ) (reduction : Reduction) (positions : List Interval) (value : Expr)
      → IsFit declared (action.Reduce scalar reduction positions value) → Stands declared objects world (views_of value)
      → GathersTo declared number world scalar reduction value (parts_of declared (views_of (bound world.scalars value)) positions)
      (pieces_fault declared world.scalars number (action.Reduce scalar reduction positions value) objects)
      (pieces_done declared world.scalars number (action.Reduce scalar reduction positions value) objects).outcomes
      (reduced declared scalar reduction positions value world)
  pub leaves : (declared : Declared) (scalars : List ℤ) (objects : List Numbered) (number scalar : ℕ) (reduction : Reduction) (positions : List Interval) (value : Expr)
      → (pieces_done declared scalars number (action.Reduce scalar reduction positions value) objects).objects ≡ objects
  pub counted : (declared : Declared) (objects : List Numbered) (world : World) (number scalar : ℕ) (reduction : Reduction) (positions : List Interval) (value : Expr)
      → IsFit declared (action.Reduce scalar reduction positions value) → Stands declared objects world (views_of value)
      → pieces_fault declared world.scalars number (action.Reduce scalar reduction positions value) objects ≡ None
      → length (numbers_in_turn (value_in declared world value) (parts_of declared (views_of (bound world.scalars value)) positions)) ≡ length (cells_of positions)
  pub words : (declared : Declared) (objects : List Numbered) (world : World) (scalar : ℕ) (reduction : Reduction) (positions : List Interval) (value : Expr)
      → IsFit declared (action.Reduce scalar reduction positions value) → Stands declared objects world (views_of value)
      → AllWords objects → All IsWord world.scalars → IsTrue (literals_fit_in (action.Reduce scalar reduction positions value))
      → (order : List (List Interval)) → IsPermutation (parts_of declared (views_of (bound world.scalars value)) positions) order
      → AllFit (numbers_in_turn (value_in declared world value) order)
  pub stay_words : (declared : Declared) (scalars : List ℤ) (objects : List Numbered) (number : ℕ) (does : Action)
      → IsFit declared does → All IsWord scalars → IsTrue (literals_fit_in does) → AllWords objects
      → AllWords (pieces_done declared scalars number does objects).objects

-- the fills that a statement needs, and the marks behind it
pub record OfFills : Type 0 where
  pub known : (store : Stored) (stale : Staled) (number : ℕ) (does : Action) (piece : Pieced) → AreArrays store.shapes store.layouts → HasArrays store stale
      → Contains (fills_before store.layouts stale number does) piece → AsksWithin pieces (object_count store.layouts) piece
  pub fits : (store : Stored) (stale : Staled) (number : ℕ) (does : Action) (piece : Pieced) → AreArrays store.shapes store.layouts → HasArrays store stale
      → Contains (fills_before store.layouts stale number does) piece → FitsShapes pieces (areas_of store.layouts) piece
  pub statement : (store : Stored) (stale : Staled) (number : ℕ) (does : Action) (piece : Pieced) → AreArrays store.shapes store.layouts → HasArrays store stale
      → Contains (fills_before store.layouts stale number does) piece → piece.statement ≡ number
  pub objects : (store : Stored) (stale : Staled) (number : ℕ) (does : Action) (objects : List Numbered) (world : World) → CanFill store stale objects world
      → AreObjects store.layouts (filled store stale number does objects).objects
  pub stands : (store : Stored) (stale : Staled) (number : ℕ) (does : Action) (objects : List Numbered) (world : World) → CanFill store stale objects world
      → StandsFor store.layouts (filled store stale number does objects).objects world
  pub kept : (store : Stored) (stale : Staled) (number : ℕ) (does : Action) (objects : List Numbered) (world : World) (array : ℕ) → CanFill store stale objects world
      → IsFresh store.shapes store.layouts objects world array → IsFresh store.shapes store.layouts (filled store stale number does objects).objects world array
  pub done : (store : Stored) (stale : Staled) (number : ℕ) (does : Action) (objects : List Numbered) (world : World) → CanFill store stale objects world
      → All (λ outcome. outcome ≡ Done) (filled store stale number does objects).outcomes
  pub fresh : (store : Stored) (stale : Staled) (number : ℕ) (does : Action) (objects : List Numbered) (world : World) → CanFill store stale objects world
      → IsFit (declared_of stale) does → All (IsFreshFor store.shapes store.layouts (filled store stale number does objects).objects world) (views_read does)
  pub whole : (store : Stored) (stale : Staled) (number : ℕ) (target : Viewed) (value : Expr) (mask : Option Expr) (objects : List Numbered) (world : World) → CanFill store stale objects world
      → IsFit (declared_of stale) (action.Assign target value mask)
      → All (IsFreshFor store.shapes store.layouts (filled store stale number (action.Assign target value mask) objects).objects world) (views_of (whole_value target value mask))
  pub words : (store : Stored) (stale : Staled) (number : ℕ) (does : Action) (objects : List Numbered) → AllWords objects → All HaveWords stale.shapes
      → AllWords (filled store stale number does objects).objects
  pub first : (store : Stored) (stale : Staled) (objects : List Numbered) (world : World) → HasArrays store stale
      → AreMarked store (map first_mark stale.shapes) objects world
  pub after : (store : Stored) (stale : Staled) (number : ℕ) (does : Action) (objects now : List Numbered) (world next : World) → CanFill store stale objects world
      → ((array : ℕ) → is_target does array ≡ false → IsFresh store.shapes store.layouts (filled store stale number does objects).objects world array → IsFresh store.shapes store.layouts now next array)
      → AreMarked store (marks_after does 0 stale.shapes stale.marks) now next
  pub as_many : (stale : Staled) (does : Action) → length stale.marks ≡ length stale.shapes → length (marks_after does 0 stale.shapes stale.marks) ≡ length stale.shapes

-- worlds, the cells of boxes, and the objects of new arrays
pub record OfWorlds : Type 0 where
  pub cells : HasMembers
  pub opening : (declared : Declared) → IsWorldOf declared (opening_world declared.shapes declared.scalars)
  pub next : (declared : Declared) (does : Action) (world new : World) → IsWorldOf declared world → effect_of declared does world ≡ Becomes new → IsWorldOf declared new
  pub scalars : (declared : Declared) (target : Viewed) (value : Expr) (mask : Option Expr) (world new : World) → assigned declared target value mask world ≡ Becomes new
      → new.scalars ≡ world.scalars
  pub full : (declared : Declared) (world : World) (view : Viewed) → IsWorldOf declared world → IsWritable declared view → IsFull (array_of world view.array)
  pub own : SeesOwn
  pub objects : (layouts : List (List CutAxis)) → AreObjects layouts (new_objects layouts)
  pub stands : (shapes : List Shaped) (layouts : List (List CutAxis)) (scalars : ℕ) → AreArrays shapes layouts → StandsFor layouts (new_objects layouts) (opening_world shapes scalars)

pub record HasLaws : Type 0 where
  pub works : OfWorks
  pub pieces : OfPieces
  pub fills : OfFills
  pub worlds : OfWorlds
