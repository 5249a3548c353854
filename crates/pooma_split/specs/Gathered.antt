-- What the laws of the crates below say of statements in parts and of the objects that they change, in one place. No contract
-- of a public call cites it.
use Rattle.std.specs.Prelude.{◌≡◌, ◌≢◌, ◌↔◌, ℕ, ℤ, Option, None, Some, List, ◌++◌, slice_get, All}
use Rattle.std.specs.List.Sorted.{IsPermutation}
use Rattle.pooma_domain.specs.Cells.{Interval, cells_of, IsIn}
use Rattle.pooma_view.specs.Slots.{cell_named, positions_of}
use Rattle.pooma_view.specs.Views.{Viewed}
use Rattle.pooma_field.specs.Numbered.{Change, Numbered, IsFull}
use Rattle.pooma_field.specs.Shapes.{Shaped, own_area}
use Rattle.pooma_field.specs.Worlds.{World, array_of, changed, number_of}
use Rattle.pooma_layout.specs.Axes.{CutAxis}
use Rattle.pooma_layout.specs.Patches.{Owns}
use Rattle.pooma_expr.specs.declared.reduction.Reduction.{Reduction}
use Rattle.pooma_expr.specs.declared.tree.Expr.{Expr}
use Rattle.pooma_expr.specs.Reductions.{AllFit, result_over}
use Rattle.pooma_expr.specs.Trees.{views_of}
use Rattle.pooma_expr.specs.Values.{Contents, value}
use Rattle.pooma_model.specs.Assigning.{Becomes, Fault, Faults, Given, assigned, given_at, whole_value}
use Rattle.pooma_model.specs.Declarations.{Declared, seen_in, shape_at, value_in}
use Rattle.pooma_model.specs.Fit.{IsAssignFit}
use Rattle.pooma_model.specs.Midway.{IsMidway, SeesMidway}
use Rattle.pooma_model.specs.Partitions.{IsLeastFault, IsOfOthers, IsPartition, changed_in_turn, changes_at, fault_at, numbers_in_turn}
use Rattle.pooma_model.specs.Parts.{parts_of}
use Rattle.pooma_model.specs.Reducing.{reduced, scalar_given}
use Rattle.pooma_piece.specs.Gathered.{OfCells, StayWords}
use Rattle.pooma_store.specs.Gathered.{AllocateOwn, StayObjects}
use Rattle.pooma_store.specs.Numbering.{AreObjects, EachCell, HasPatch, changed_at, layout_at, object_of}
use Rattle.pooma_store.specs.Standing.{IsFresh, StandsFor, shape_at as array_shape}

-- in its own area an array is seen as it is
abbrev pub SeesOwn : Type 0
SeesOwn = (declared : Declared) (world : World) (view : Viewed) (c : List ℤ) → IsIn (own_area (shape_at declared view.array)) c → seen_in declared world view c ≡ number_of world view.array c

pub record HasLaws : Type 0 where
  -- the positions and the parts
  pub cells : OfCells
  pub partition : (declared : Declared) (views : List Viewed) (positions : List Interval) → IsPartition positions (parts_of declared views positions)
  pub allocates : AllocateOwn
  pub any_order : (whole : List Interval) (boxes others : List (List Interval)) → IsPermutation boxes others → IsPartition whole boxes → IsPartition whole others
  -- the values
  pub by_reads : (scalars : List ℤ) (has other : Contents) (e : Expr) (p : List ℤ) → All (λ view. has view (cell_named view.slots p) ≡ other view (cell_named view.slots p)) (views_of e) → value scalars has e p ≡ value scalars other e p
  pub own : SeesOwn
  pub part : (declared : Declared) (target : Viewed) (whole : Expr) (boxes : List (List Interval)) (k : ℕ) (box : List Interval) (done : List (List ℤ)) (old new : World) (has : Contents) (p : List ℤ) → IsAssignFit declared target whole → IsPartition (positions_of target.slots) boxes → slice_get boxes k ≡ Some box → IsIn box p → All (IsOfOthers boxes k) done → IsMidway target done old new → All (SeesMidway declared old new has p) (views_of whole) → value old.scalars has whole p ≡ value_in declared old whole p
  pub masks : (declared : Declared) (target : Viewed) (value : Expr) (mask : Option Expr) (world : World) → IsAssignFit declared target (whole_value target value mask) → IsFull (array_of world target.array) → assigned declared target value mask world ≡ assigned declared target (whole_value target value mask) None world
  -- the world on the way
  pub goes_on : (target : Viewed) (done more : List (List ℤ)) (old new : World) (given : List ℤ → Given) → IsFull (array_of new target.array) → IsMidway target done old new → IsMidway target (done ++ more) old (changed new target.array (changes_at given target.slots more))
  pub area : (target : Viewed) (given : List ℤ → Given) (ps : List (List ℤ)) (world : World) (array : ℕ) → (array_of (changed world target.array (changes_at given target.slots ps)) array).area ≡ (array_of world array).area
  pub full : (target : Viewed) (given : List ℤ → Given) (ps : List (List ℤ)) (world : World) (array : ℕ) → IsFull (array_of world array) → IsFull (array_of (changed world target.array (changes_at given target.slots ps)) array)
  -- what parts come to
  pub none : (given : List ℤ → Given) (whole : List Interval) (boxes : List (List Interval)) → IsPartition whole boxes → (fault_at given (cells_of whole) ≡ None) ↔ All (λ box. fault_at given (cells_of box) ≡ None) boxes
  pub becomes : (declared : Declared) (target : Viewed) (value : Expr) (mask : Option Expr) (boxes : List (List Interval)) (world : World) → IsFull (array_of world target.array) → IsPartition (positions_of target.slots) boxes → All (λ box. fault_at (given_at declared world value mask) (cells_of box) ≡ None) boxes → assigned declared target value mask world ≡ Becomes (changed_in_turn world target (given_at declared world value mask) boxes)
  pub faults : (declared : Declared) (target : Viewed) (value : Expr) (mask : Option Expr) (boxes : List (List Interval)) (world : World) (fault : Fault) → IsPartition (positions_of target.slots) boxes → IsLeastFault (given_at declared world value mask) boxes fault → assigned declared target value mask world ≡ Faults fault
  pub finishes : (declared : Declared) (scalar : ℕ) (reduction : Reduction) (positions : List Interval) (value : Expr) (boxes : List (List Interval)) (world : World) → IsPartition positions boxes → All (λ box. fault_at (given_at declared world value None) (cells_of box) ≡ None) boxes → AllFit (numbers_in_turn (value_in declared world value) boxes) → reduced declared scalar reduction positions value world ≡ scalar_given world scalar (result_over reduction (numbers_in_turn (value_in declared world value) boxes))
  pub reduction_faults : (declared : Declared) (scalar : ℕ) (reduction : Reduction) (positions : List Interval) (value : Expr) (boxes : List (List Interval)) (world : World) (fault : Fault) → IsPartition positions boxes → IsLeastFault (given_at declared world value None) boxes fault → reduced declared scalar reduction positions value world ≡ Faults fault
  -- the objects
  pub still : StayObjects
  pub stands : (layouts : List (List CutAxis)) (objects : List Numbered) (world : World) (array p : ℕ) (changes : List Change) → AreObjects layouts objects → HasPatch layouts array p → IsFull (array_of world array) → EachCell changes (λ cell. Owns (layout_at layouts array) p cell) → StandsFor layouts objects world → StandsFor layouts (changed_at objects (object_of layouts array p) changes) (changed world array changes)
  pub fresh : (shapes : List Shaped) (layouts : List (List CutAxis)) (objects : List Numbered) (world : World) (array p : ℕ) (changes : List Change) (other : ℕ) → AreObjects layouts objects → HasPatch layouts array p → (other ≡ array → EachCell changes (λ cell. Owns (layout_at layouts array) p cell → IsIn (array_shape shapes other).physical cell)) → IsFresh shapes layouts objects world other → IsFresh shapes layouts (changed_at objects (object_of layouts array p) changes) world other
  pub fresh_elsewhere : (shapes : List Shaped) (layouts : List (List CutAxis)) (objects : List Numbered) (world : World) (array : ℕ) (changes : List Change) (other : ℕ) → other ≢ array → IsFresh shapes layouts objects world other → IsFresh shapes layouts objects (changed world array changes) other
  -- numbers of 64 bits
  pub words : StayWords
