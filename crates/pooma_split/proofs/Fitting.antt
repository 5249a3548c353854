-- Each piece fits the areas of its objects' patches.
use Rattle.std.proofs.Common.{refl, sym, ap, ◌∙◌, subst, arith}
use Rattle.std.proofs.lemmas.List.Elements.{All-head}
use Rattle.std.proofs.lemmas.Option.{get_or_from_slice_get, slice_get-get_or, slice_get-map, slice_get_within}
use Rattle.std.specs.Option.{option_and_then, option_map}
use Rattle.std.specs.Prelude.{◌≡◌, ℕ, zero, suc, ◌<◌, ℤ, IsSomeAnd, Option, Some, List, [], ◌∷◌, length, map, slice_get, All, Contains}
use Rattle.pooma_logic.proofs.Members.{Member, contains_of, member_image, member_of}
use Rattle.pooma_domain.specs.Cells.{Interval, IsBox, IsIn}
use Rattle.pooma_view.specs.Slots.{cell_named, positions_of}
use Rattle.pooma_view.specs.Views.{Viewed}
use Rattle.pooma_layout.specs.Patches.{Owns, allocated_boxes, allocated_of, owned_boxes, owner_of}
use Rattle.pooma_layout.proofs.Owning.{owner_owns}
use Rattle.pooma_expr.specs.declared.tree.Expr.{Expr}
use Rattle.pooma_expr.specs.Trees.{bound, views_of}
use Rattle.pooma_machine.specs.Values.{lent_by}
use Rattle.pooma_model.specs.declared.statement.Action.{Action}
use Rattle.pooma_model.specs.declared.statement.Action.TheVariants as action
use Rattle.pooma_model.specs.Assigning.{whole_value}
use Rattle.pooma_model.specs.Declarations.{Declared, layout_at}
use Rattle.pooma_model.specs.Fit.{IsFit}
use Rattle.pooma_model.specs.Parts.{parts_of}
use Rattle.pooma_store.specs.Numbering.{areas_of, object_count}
use Rattle.pooma_store.specs.Stored.{AreArrays}
use Rattle.pooma_store.proofs.ObjectNumbers.{area_at, length-areas}
use Rattle.pooma_store.proofs.OwnerNumbers.{some_from}
use Rattle.pooma_piece.specs.declared.task.Task.{Task}
use Rattle.pooma_piece.specs.declared.task.Task.TheVariants as task
use Rattle.pooma_piece.specs.Lent.{HasCells, IsFitting, SetsIn}
use Rattle.pooma_piece.specs.Pieces.{Pieced, requests_of}
use Rattle.pooma_piece.proofs.Naming.{written_is}
use Rattle.pooma_split.specs.Gathered.{HasLaws}
use Rattle.pooma_split.specs.Splits.{CanSplit, IsCut, IsPlaced, object_for, piece_of, pieces_of, pieces_with, views_with, written_for}
use Rattle.pooma_split.proofs.Boxes.{part_within}
use Rattle.pooma_split.proofs.Lending.{all_known, lent_of_view}
use Rattle.pooma_split.proofs.Owning.{owns_cell}
use Rattle.pooma_split.proofs.Piecing.{IsWithin, first_inside, reads_placed}
use Rattle.pooma_split.proofs.Placing.{assign_splits, reduce_splits}

-- the read views are among those by which the positions are cut
pub listed : (t : Task) (views : List Viewed) (k : ℕ) (view : Viewed) → slice_get views k ≡ Some view → Contains (views_with t views) view
listed (task.Assign target) views k view at = (suc k, omega (arith, slice_get_within views k view at), get_or_from_slice_get views k view view at)
listed (task.Reduce reduction) views k view at = (k, slice_get_within views k view at, get_or_from_slice_get views k view view at)
listed (task.Fill shape slab array) views k view at = (k, slice_get_within views k view at, get_or_from_slice_get views k view view at)
listed (task.Guard array) views k view at = (k, slice_get_within views k view at, get_or_from_slice_get views k view view at)

module _ (laws : HasLaws) (declared : Declared) (number : ℕ) (t : Task) (code : Expr) (positions : List Interval) (valid : IsBox positions) (can : CanSplit declared t code positions)
    (box : List Interval) (here : Member (parts_of declared (views_with t (views_of code)) positions) box) where
  abbrev views : List Viewed
  views = views_with t (views_of code)

  within : IsWithin box positions
  within = part_within declared (views_with t (views_of code)) positions box (laws.partition declared (views_with t (views_of code)) positions) valid here

  abbrev work : Pieced
  work = piece_of declared number t code box

  counted : length (areas_of declared.layouts) ≡ object_count declared.layouts
  counted = length-areas declared.layouts

  -- the area of the patch that owns a view's cells
  area_for : (view : Viewed) → IsPlaced declared positions view → Contains (views_with t (views_of code)) view → HasCells (slice_get (areas_of declared.layouts) (object_for declared box view)) view box
  area_for view placed there =
      let layout = layout_at declared view.array in
      let first = cell_named view.slots (map (λ axis. axis.first) box) in
      let owner = owner_of (layout_at declared view.array) (cell_named view.slots (map (λ axis. axis.first) box)) in
      let found = some_from (λ owned. IsIn owned first) (slice_get (owned_boxes layout) owner) (owner_owns layout first (placed.cells (map (λ axis. axis.first) box) (first_inside box positions within))) in
      let allocated : slice_get (allocated_boxes layout) owner ≡ Some (allocated_of layout found.0) = slice_get-map (allocated_of layout) (owned_boxes layout) owner ∙ ap (option_map (allocated_of layout)) found.1 in
      let at : slice_get (areas_of declared.layouts) (object_for declared box view) ≡ Some (allocated_of layout found.0) = area_at declared.layouts view.array owner (allocated_of layout found.0) placed.there allocated in
      subst (λ o. HasCells o view box) (sym at)
      (λ p h.
      let owns : Owns (layout_at declared view.array) owner (cell_named view.slots p) =
      owns_cell declared (views_with t (views_of code)) positions view placed there box (contains_of (parts_of declared (views_with t (views_of code)) positions) box here) p h (within.inside p h) in
      laws.allocates layout owner found.0 (cell_named view.slots p) placed.layout.axes found.1
      (subst (λ (o : Option (List Interval)). IsSomeAnd o (λ owned. IsIn owned (cell_named view.slots p))) found.1 owns))

  sets : (u : Task) → IsCut u → (reads : List (List Interval)) → ((target : Viewed) → u ≡ task.Assign target → HasCells (slice_get (areas_of declared.layouts) (object_for declared box target)) target box)
      → SetsIn u (piece_of declared number u code box) (option_and_then (slice_get (areas_of declared.layouts)) (written_for declared box u)) reads
  sets (task.Assign target) cut reads has_target = has_target target refl
  sets (task.Reduce reduction) cut reads has_target = tt
  sets (task.Fill shape slab array) cut reads has_target = absurd cut
  sets (task.Guard array) cut reads has_target = absurd cut

  pub is_fitting : IsFitting work (lent_by (areas_of declared.layouts) (requests_of (piece_of declared number t code box))).written (lent_by (areas_of declared.layouts) (requests_of (piece_of declared number t code box))).reads
  is_fitting = record {
    read_there = λ view there.
        let at : slice_get (views_of code) there.0 ≡ Some view = slice_get-get_or (views_of code) there.0 view there.1 ∙ ap Some there.2 in
        let placed : IsPlaced declared positions view =
        subst (IsPlaced declared positions) there.2 (reads_placed (IsPlaced declared positions) t (views_of code) can.views there.0 view there.1) in
        subst (λ o. HasCells o view box) (sym (lent_of_view declared positions box within number t code can (areas_of declared.layouts) counted there.0 view at))
        (area_for view placed (listed t (views_of code) there.0 view at));
    set_there =
        subst (λ o. SetsIn t (piece_of declared number t code box) (option_and_then (slice_get (areas_of declared.layouts)) o) (lent_by (areas_of declared.layouts) (requests_of (piece_of declared number t code box))).reads) (sym (written_is (written_for declared box t) (map (object_for declared box) (views_of code))))
        (sets t can.cuts (lent_by (areas_of declared.layouts) (requests_of (piece_of declared number t code box))).reads (λ target is. area_for target (of_target t can.views target is) (first_of_views t target is)));
  }
    where
      of_target : (u : Task) → All (IsPlaced declared positions) (views_with u (views_of code)) → (target : Viewed) → u ≡ task.Assign target → IsPlaced declared positions target
      of_target u placed target is =
          All-head (IsPlaced declared positions) target (views_of code) (subst (λ w. All (IsPlaced declared positions) (views_with w (views_of code))) is placed)

      first_of_views : (u : Task) (target : Viewed) → u ≡ task.Assign target → Contains (views_with u (views_of code)) target
      first_of_views u target is = subst (λ w. Contains (views_with w (views_of code)) target) (sym is) (zero, omega arith, refl)

  pub asks_known : All (λ r. r.object < object_count declared.layouts) (requests_of work)
  asks_known = all_known declared positions box within number t code can

-- ---- the pieces of an action

pub record Suits (declared : Declared) (number : ℕ) (p : Pieced) : Type 0 where
  pub fitting : IsFitting p (lent_by (areas_of declared.layouts) (requests_of p)).written (lent_by (areas_of declared.layouts) (requests_of p)).reads
  pub known : All (λ r. r.object < object_count declared.layouts) (requests_of p)
  pub statement : p.statement ≡ number

all_suit : HasLaws → (declared : Declared) (number : ℕ) (t : Task) (code : Expr) (positions : List Interval) → IsBox positions → CanSplit declared t code positions → (p : Pieced) → Contains (pieces_with declared number t code positions) p → Suits declared number p
all_suit laws declared number t code positions valid can p there =
    let from = member_image (piece_of declared number t code) (parts_of declared (views_with t (views_of code)) positions) p (member_of (pieces_with declared number t code positions) p there) in
    subst (Suits declared number) from.2
    (record {
      fitting = is_fitting laws declared number t code positions valid can from.0 from.1;
      known = asks_known laws declared number t code positions valid can from.0 from.1;
      statement = refl;
    })

pub each_suits : HasLaws → (declared : Declared) (scalars : List ℤ) (number : ℕ) (act : Action) (p : Pieced) → AreArrays declared.shapes declared.layouts → IsFit declared act → Contains (pieces_of declared scalars number act) p → Suits declared number p
each_suits laws declared scalars number (action.Assign target value mask) p arrays fit there =
    all_suit laws declared number (task.Assign target) (bound scalars (whole_value target value mask)) (positions_of target.slots) fit.few_positions.box
    (assign_splits declared arrays target (whole_value target value mask) scalars fit) p there
each_suits laws declared scalars number (action.Reduce scalar reduction positions value) p arrays fit there =
    all_suit laws declared number (task.Reduce reduction) (bound scalars value) positions fit.few_positions.box
    (reduce_splits declared arrays reduction scalar positions value scalars fit) p there
each_suits laws declared scalars number (action.PrintView view) p arrays fit there = absurd (member_of [] p there)
each_suits laws declared scalars number (action.PrintScalar scalar) p arrays fit there = absurd (member_of [] p there)
each_suits laws declared scalars number action.Block p arrays fit there = absurd (member_of [] p there)

-- the positions of pieces are their parts
pub places_are : (declared : Declared) (number : ℕ) (t : Task) (code : Expr) (boxes : List (List Interval)) → map (λ p. p.positions) (map (piece_of declared number t code) boxes) ≡ boxes
places_are declared number t code [] = refl
places_are declared number t code (box ∷ boxes) = ap (λ rest. box ∷ rest) (places_are declared number t code boxes)
