-- What makes a piece of a part of the positions.
use Rattle.std.proofs.Common.{refl, sym, ap, ◌∙◌, subst, arith, get_or}
use Rattle.std.proofs.lemmas.Int.{ints}
use Rattle.std.proofs.lemmas.List.{length-map}
use Rattle.std.proofs.lemmas.List.Elements.{All-cons, All-head, All-tail, All-nil}
use Rattle.std.proofs.lemmas.Nat.{mul-le}
use Rattle.std.proofs.lemmas.Option.{get_or_from_slice_get, same_Some, slice_get-map, slice_get_within}
use Rattle.std.specs.Option.{option_map}
use Rattle.std.specs.Prelude.{◌≡◌, ℕ, ◌<◌, ◌≤◌, ℤ, is_some, Option, Some, List, [], ◌∷◌, ◌++◌, length, map, slice_get, All, Contains}
use Rattle.pooma_domain.specs.Cells.{Interval, axis_length, cells_of, IsAxis, IsBox, IsIn}
use Rattle.pooma_domain.proofs.CellOrder.{length-cells_of}
use Rattle.pooma_domain.proofs.PaddedBox.{length_of_axis}
use Rattle.pooma_domain.proofs.Within.{length_of_cell}
use Rattle.pooma_view.specs.Slots.{cell_named, positions_of}
use Rattle.pooma_view.specs.Views.{Viewed}
use Rattle.pooma_layout.specs.Patches.{owner_of, total_of}
use Rattle.pooma_layout.proofs.Stepping.{owner_below}
use Rattle.pooma_expr.specs.declared.tree.Expr.{Expr}
use Rattle.pooma_expr.specs.Trees.{views_of}
use Rattle.pooma_model.specs.Declarations.{Declared, layout_at}
use Rattle.pooma_model.specs.Partitions.{IsPartition}
use Rattle.pooma_store.specs.Numbering.{object_count}
use Rattle.pooma_store.proofs.ObjectNumbers.{object_there, objects_apart}
use Rattle.pooma_piece.specs.declared.task.Task.{Task}
use Rattle.pooma_piece.specs.declared.task.Task.TheVariants as task
use Rattle.pooma_piece.specs.Pieces.{AreOfTarget, AreOwn, AreReadAlike, AreReads, HasPositions, IsPiece, Pieced, sets_cells}
use Rattle.pooma_split.specs.Splits.{CanSplit, IsCut, IsPlaced, object_for, piece_of, views_with, written_for}

-- ---- a box of some of the positions

firsts_in : (box : List Interval) → All IsAxis box → IsIn box (map (λ axis. axis.first) box)
firsts_in [] valid = tt
firsts_in (axis ∷ box) valid =
    let here : IsAxis axis = All-head IsAxis axis box valid in
    (omega (arith, ints), here.ordered, firsts_in box (All-tail IsAxis axis box valid))

lasts_in : (box : List Interval) → All IsAxis box → IsIn box (map (λ axis. axis.last) box)
lasts_in [] valid = tt
lasts_in (axis ∷ box) valid =
    let here : IsAxis axis = All-head IsAxis axis box valid in
    (here.ordered, omega (arith, ints), lasts_in box (All-tail IsAxis axis box valid))

fewer_cells : (inner outer : List Interval) → All IsAxis inner → All IsAxis outer → IsIn outer (map (λ axis. axis.first) inner) → IsIn outer (map (λ axis. axis.last) inner) → length (cells_of inner) ≤ length (cells_of outer)
fewer_cells [] [] v w h k = omega arith
fewer_cells [] (b ∷ outer) v w h k = absurd h
fewer_cells (a ∷ inner) [] v w h k = absurd h
fewer_cells (a ∷ inner) (b ∷ outer) v w h k =
    let short : axis_length a ≤ axis_length b =
    omega (arith, ints, length_of_axis a (All-head IsAxis a inner v), length_of_axis b (All-head IsAxis b outer w), h.0, k.1) in
    let rest : length (cells_of inner) ≤ length (cells_of outer) = fewer_cells inner outer (All-tail IsAxis a inner v) (All-tail IsAxis b outer w) h.2 k.2 in
    omega (arith, mul-le (axis_length a) (length (cells_of inner)) (axis_length b) (length (cells_of outer)) short rest, length-cells_of a inner, length-cells_of b outer)

-- a box of which each cell is a position
pub record IsWithin (box positions : List Interval) : Type 0 where
  pub boxed : IsBox box
  pub all_boxed : IsBox positions
  pub inside : (p : List ℤ) → IsIn box p → IsIn positions p

pub first_inside : (box positions : List Interval) → IsWithin box positions → IsIn positions (map (λ axis. axis.first) box)
first_inside box positions within = within.inside (map (λ axis. axis.first) box) (firsts_in box within.boxed.whole)

few_cells : (box positions : List Interval) → IsWithin box positions → length (cells_of box) ≤ length (cells_of positions)
few_cells box positions within =
    fewer_cells box positions within.boxed.whole within.all_boxed.whole (first_inside box positions within) (within.inside (map (λ axis. axis.last) box) (lasts_in box within.boxed.whole))

same_dims : (box positions : List Interval) → IsWithin box positions → length box ≡ length positions
same_dims box positions within =
    sym (length-map box (λ axis. axis.first)) ∙ length_of_cell positions (map (λ axis. axis.first) box) (first_inside box positions within)

-- ---- the views of a task and a code

pub reads_placed : (P : Viewed → Type 0) (t : Task) (views : List Viewed) → All P (views_with t views) → All P views
reads_placed P (task.Assign target) views all = All-tail P target views all
reads_placed P (task.Reduce reduction) views all = all
reads_placed P (task.Fill shape slab array) views all = all
reads_placed P (task.Guard array) views all = all

module _ (declared : Declared) (positions box : List Interval) (within : IsWithin box positions) where
  pub has_positions : (view : Viewed) → IsPlaced declared positions view → HasPositions box view
  has_positions view placed p h = subst (λ b. IsIn b p) (sym placed.places) (within.inside p h)

  all_have : (views : List Viewed) → All (IsPlaced declared positions) views → All (HasPositions box) views
  all_have views placed = λ k d h. has_positions (get_or views k d) (placed k d h)

  -- the cell at the box's first position
  abbrev first_cell : Viewed → List ℤ
  first_cell view = cell_named view.slots (map (λ axis. axis.first) box)

  first_total : (view : Viewed) → IsPlaced declared positions view → IsIn (total_of (layout_at declared view.array)) (first_cell view)
  first_total view placed = placed.cells (map (λ axis. axis.first) box) (first_inside box positions within)

  -- one object belongs to one array
  same_array : (view target : Viewed) → IsPlaced declared positions view → IsPlaced declared positions target → object_for declared box view ≡ object_for declared box target → view.array ≡ target.array
  same_array view target placed target_placed same =
      (objects_apart declared.layouts view.array target.array (owner_of (layout_at declared view.array) (first_cell view)) (owner_of (layout_at declared target.array) (first_cell target))
      placed.there target_placed.there
      (owner_below (layout_at declared view.array) (first_cell view) (first_total view placed))
      (owner_below (layout_at declared target.array) (first_cell target) (first_total target target_placed))
      same).0

  pub object_known : (view : Viewed) → IsPlaced declared positions view → object_for declared box view < object_count declared.layouts
  object_known view placed =
      object_there declared.layouts view.array (owner_of (layout_at declared view.array) (first_cell view)) placed.there
      (owner_below (layout_at declared view.array) (first_cell view) (first_total view placed))

  own : (t : Task) (views : List Viewed) → IsCut t → All (IsPlaced declared positions) (views_with t views) → AreOwn t box
  own (task.Assign target) views cut placed = has_positions target (All-head (IsPlaced declared positions) target views placed)
  own (task.Reduce reduction) views cut placed = tt
  own (task.Fill shape slab array) views cut placed = absurd cut
  own (task.Guard array) views cut placed = absurd cut

  writes : (t : Task) → IsCut t → is_some (written_for declared box t) ≡ sets_cells t
  writes (task.Assign target) cut = refl
  writes (task.Reduce reduction) cut = refl
  writes (task.Fill shape slab array) cut = absurd cut
  writes (task.Guard array) cut = absurd cut

  are_reads : (t : Task) (code : Expr) → IsCut t → AreReads t code (map (object_for declared box) (views_of code))
  are_reads (task.Assign target) code cut = length-map (views_of code) (object_for declared box)
  are_reads (task.Reduce reduction) code cut = length-map (views_of code) (object_for declared box)
  are_reads (task.Fill shape slab array) code cut = absurd cut
  are_reads (task.Guard array) code cut = absurd cut

  pub read_at : (views : List Viewed) (k : ℕ) (view : Viewed) → slice_get views k ≡ Some view → slice_get (map (object_for declared box) views) k ≡ Some (object_for declared box view)
  read_at views k view at = slice_get-map (object_for declared box) views k ∙ ap (option_map (object_for declared box)) at

  pub read_alike : (views : List Viewed) → AreReadAlike views (map (object_for declared box) views)
  read_alike views j k view at_j at_k = read_at views j view at_j ∙ sym (read_at views k view at_k)

  of_target : (t : Task) (views : List Viewed) → All (IsPlaced declared positions) (views_with t views) → AreOfTarget t (written_for declared box t) views (map (object_for declared box) views)
  of_target (task.Assign target) views placed = λ k view at is.
      let rest : All (IsPlaced declared positions) views = All-tail (IsPlaced declared positions) target views placed in
      let there : IsPlaced declared positions view = subst (IsPlaced declared positions) (get_or_from_slice_get views k view view at) (rest k view (slice_get_within views k view at)) in
      same_array view target there (All-head (IsPlaced declared positions) target views placed) (same_Some _ _ (sym (read_at views k view at) ∙ is))
  of_target (task.Reduce reduction) views placed = tt
  of_target (task.Fill shape slab array) views placed = tt
  of_target (task.Guard array) views placed = λ k d h e. cc

  -- what makes a piece
  pub is_piece : (number : ℕ) (t : Task) (code : Expr) → CanSplit declared t code positions → IsPiece (piece_of declared number t code box)
  is_piece number t code can = record {
    reads = are_reads t code can.cuts;
    within = all_have (views_of code) (reads_placed (IsPlaced declared positions) t (views_of code) can.views);
    own = own t (views_of code) can.cuts can.views;
    few = omega (arith, few_cells box positions within, can.few);
    writes = writes t can.cuts;
    axes = omega (arith, same_dims box positions within, can.axes);
    apart = can.apart;
    alike = read_alike (views_of code);
    of_target = of_target t (views_of code) can.views;
  }

  -- ---- what is asked where the objects are found

  abbrev pub IsAsked : Viewed → Type 0
  IsAsked view = IsPlaced declared (positions_of view.slots) view × ((p : List ℤ) → IsIn box p → IsIn (positions_of view.slots) p)

  asked : (view : Viewed) → IsPlaced declared positions view → IsAsked view
  asked view placed = (subst (λ b. IsPlaced declared b view) (sym placed.places) placed, has_positions view placed)

  pub all_asked : (views : List Viewed) → All (IsPlaced declared positions) views → All IsAsked views
  all_asked views placed k d h = asked (get_or views k d) (placed k d h)

  pub target_asked : (t : Task) (views : List Viewed) → All (IsPlaced declared positions) (views_with t views) → All IsAsked (views_with t [])
  target_asked (task.Assign target) views placed = All-cons IsAsked target [] (asked target (All-head (IsPlaced declared positions) target views placed)) (All-nil IsAsked)
  target_asked (task.Reduce reduction) views placed = All-nil IsAsked
  target_asked (task.Fill shape slab array) views placed = All-nil IsAsked
  target_asked (task.Guard array) views placed = All-nil IsAsked

-- a part, by what is known of the boxes of the code
pub within_of : (positions box : List Interval) (boxes : List (List Interval)) → IsPartition positions boxes → Contains boxes box → IsBox box → IsBox positions → IsWithin box positions
within_of positions box boxes parts there boxed all = record {
  boxed = boxed;
  all_boxed = all;
  inside = λ p h. (parts.cells p).1 (there.0, box, there.1, there.2, h);
}

abbrev pub with_these : ℕ → Task → List Interval → Expr → Option ℕ → List ℕ → Pieced
with_these number t box code write reads = record { statement = number; positions = box; task = t; code = code; write = write; reads = reads }

pub piece_same : (declared : Declared) (number : ℕ) (t : Task) (code shared : Expr) (box : List Interval) (write : Option ℕ) (reads : List ℕ) → shared ≡ code → write ≡ written_for declared box t → reads ≡ map (object_for declared box) (views_of code)
    → with_these number t box shared write reads ≡ piece_of declared number t code box
piece_same declared number t code shared box write reads same written read =
    ap (λ e. with_these number t box e write reads) same ∙ ap (λ w. with_these number t box code w reads) written ∙ ap (with_these number t box code (written_for declared box t)) read

pub piece_made : (declared : Declared) (positions box : List Interval) (within : IsWithin box positions) (number : ℕ) (t : Task) (code shared : Expr) (write : Option ℕ) (reads : List ℕ) → CanSplit declared t code positions
    → shared ≡ code → write ≡ written_for declared box t → reads ≡ map (object_for declared box) (views_of code) → IsPiece (with_these number t box shared write reads)
piece_made declared positions box within number t code shared write reads can same written read =
    subst IsPiece (sym (piece_same declared number t code shared box write reads same written read)) (is_piece declared positions box within number t code can)

pub all_there : (declared : Declared) (positions : List Interval) (views : List Viewed) → All (IsPlaced declared positions) views → All (λ view. view.array < length declared.layouts) views
all_there declared positions views placed k d h = (placed k d h).there

-- the target alone, and then the read views
pub target_alone : (P : Viewed → Type 0) (t : Task) (views : List Viewed) → All P (views_with t views) → All P (views_with t [])
target_alone P (task.Assign target) views all = All-cons P target [] (All-head P target views all) (All-nil P)
target_alone P (task.Reduce reduction) views all = All-nil P
target_alone P (task.Fill shape slab array) views all = All-nil P
target_alone P (task.Guard array) views all = All-nil P

pub then_reads : {A : Type 0} (f : Viewed → A) (t : Task) (views : List Viewed) → map f (views_with t []) ++ map f views ≡ map f (views_with t views)
then_reads f (task.Assign target) views = refl
then_reads f (task.Reduce reduction) views = refl
then_reads f (task.Fill shape slab array) views = refl
then_reads f (task.Guard array) views = refl
