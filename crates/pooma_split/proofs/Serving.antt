-- At each position of an action a piece asks for the target's cell and for each cell that is read.
use Rattle.std.proofs.Common.{refl, sym, ap, ◌∙◌, subst, inl, inr, ⊎_elim, cond, get_or}
use Rattle.std.proofs.lemmas.Bool.Decides.{Decides-eqb}
use Rattle.std.proofs.lemmas.List.{take-append-drop}
use Rattle.std.proofs.lemmas.List.Elements.{All-head}
use Rattle.std.proofs.lemmas.Option.{slice_get-get_or, slice_get-map}
use Rattle.std.specs.Option.{option_map}
use Rattle.std.specs.List.{insert, list_any, prefix_len}
use Rattle.std.specs.Prelude.{◌≡◌, ℕ, ◌==◌, nat_lt, ℤ, Bool, true, false, Some, List, [], ◌∷◌, fold, map, slice_get, take, drop, IsSomeAnd, All, Contains}
use Rattle.pooma_logic.proofs.Members.{Member, any_of, contains_of, member_at, member_cases, member_left, member_map, member_right}
use Rattle.pooma_domain.specs.Cells.{Interval, IsBox, IsIn}
use Rattle.pooma_view.specs.Slots.{cell_named, positions_of}
use Rattle.pooma_view.specs.Views.{Viewed}
use Rattle.pooma_layout.specs.Patches.{Owns, allocated_boxes, allocated_of, owned_boxes, owner_of}
use Rattle.pooma_expr.specs.declared.tree.Expr.{Expr}
use Rattle.pooma_expr.specs.Trees.{bound, views_of}
use Rattle.pooma_expr.proofs.Bound.{views_bound}
use Rattle.pooma_queue.specs.declared.queue.Mode.{Mode}
use Rattle.pooma_queue.specs.declared.queue.Mode.TheVariants.{Read, Write}
use Rattle.pooma_machine.specs.declared.step.Request.{Request}
use Rattle.pooma_model.specs.declared.statement.Action.{Action}
use Rattle.pooma_model.specs.declared.statement.Action.TheVariants as action
use Rattle.pooma_model.specs.Assigning.{whole_value}
use Rattle.pooma_model.specs.Declarations.{Declared, layout_at}
use Rattle.pooma_model.specs.Fit.{IsFit}
use Rattle.pooma_model.specs.Parts.{parts_of}
use Rattle.pooma_store.specs.Stored.{AreArrays}
use Rattle.pooma_store.specs.Standing.{Allocates}
use Rattle.pooma_store.proofs.OwnerNumbers.{some_from}
use Rattle.pooma_piece.specs.declared.task.Task.{Task}
use Rattle.pooma_piece.specs.declared.task.Task.TheVariants as task
use Rattle.pooma_piece.specs.Pieces.{Pieced, requests_of}
use Rattle.pooma_piece.specs.Requests.{request, requests_for, with_read, write_request}
use Rattle.pooma_split.specs.Gathered.{HasLaws}
use Rattle.pooma_split.specs.Serving.{AskFor, AskToWrite, IsPositionOf, Serve}
use Rattle.pooma_split.specs.Splits.{CanSplit, IsPlaced, object_for, piece_of, pieces_of, pieces_with, views_with, written_for}
use Rattle.pooma_split.proofs.Boxes.{part_within}
use Rattle.pooma_split.proofs.Fitting.{listed}
use Rattle.pooma_split.proofs.Owning.{has_patch, owns_cell, same_object}
use Rattle.pooma_split.proofs.Piecing.{IsWithin, first_inside, reads_placed}
use Rattle.pooma_split.proofs.Placing.{assign_splits, reduce_splits}

-- ---- each object that is named is asked for

-- some request is for the object
abbrev Asks : List Request → ℕ → Type 0
Asks requests object = (mode : Mode) × Member requests (request mode object)

asks_later : (r : Request) (requests : List Request) (object : ℕ) → Asks requests object → Asks (r ∷ requests) object
asks_later r requests object asks = (asks.0, inr asks.1)

found_asks : (requests : List Request) (object : ℕ) → list_any (λ r. r.object == object) requests ≡ true → Asks requests object
found_asks [] object e = cc
found_asks (r ∷ requests) object e = by (r.object == object) refl (found_asks requests object)
  where
    by : (b : Bool) → (r.object == object) ≡ b → (list_any (λ q. q.object == object) requests ≡ true → Asks requests object) → Asks (r ∷ requests) object
    by true same rest = (r.mode, inl (ap (request r.mode) ((Decides-eqb r.object object).0 same)))
    by false other rest = asks_later r requests object (rest (rw other at e))

-- a request stays behind one object more
stays : (requests : List Request) (object : ℕ) (r : Request) → Member requests r → Member (with_read requests object) r
stays requests object r m = by (list_any (λ q. q.object == object) requests)
  where
    put : (n : ℕ) → Member (insert requests n (request Read object)) r
    put n =
        ⊎_elim
        (λ left. member_left (take n requests) (request Read object ∷ drop n requests) r left)
        (λ right. member_right (take n requests) (request Read object ∷ drop n requests) r (inr right))
        (member_cases (take n requests) (drop n requests) r (subst (λ l. Member l r) (sym (take-append-drop n requests)) m))

    by : (b : Bool) → Member (cond b requests (insert requests (prefix_len (λ q. nat_lt q.object object) requests) (request Read object))) r
    by true = m
    by false = put (prefix_len (λ q. nat_lt q.object object) requests)

asked_now : (requests : List Request) (object : ℕ) → Asks (with_read requests object) object
asked_now requests object = by (list_any (λ q. q.object == object) requests) refl
  where
    put : (n : ℕ) → Asks (insert requests n (request Read object)) object
    put n = (Read, member_right (take n requests) (request Read object ∷ drop n requests) (request Read object) (inl refl))

    by : (b : Bool) → list_any (λ q. q.object == object) requests ≡ b
        → Asks (cond b requests (insert requests (prefix_len (λ q. nat_lt q.object object) requests) (request Read object))) object
    by true found = found_asks requests object found
    by false none = put (prefix_len (λ q. nat_lt q.object object) requests)

all_stay : (objects : List ℕ) (requests : List Request) (r : Request) → Member requests r → Member (fold with_read requests objects) r
all_stay [] requests r m = m
all_stay (o ∷ objects) requests r m = all_stay objects (with_read requests o) r (stays requests o r m)

all_asked : (objects : List ℕ) (requests : List Request) (object : ℕ) → Member objects object → Asks (fold with_read requests objects) object
all_asked [] requests object m = absurd m
all_asked (o ∷ objects) requests object m =
    ⊎_elim
    (λ same. subst (Asks (fold with_read (with_read requests o) objects)) same
    (let now = asked_now requests o in (now.0, all_stay objects (with_read requests o) (request now.0 o) now.1)))
    (λ later. all_asked objects (with_read requests o) object later) m

-- ---- the piece of a part

module _ (laws : HasLaws) (declared : Declared) (number : ℕ) (t : Task) (code : Expr) (positions : List Interval) (valid : IsBox positions) (can : CanSplit declared t code positions)
    (box : List Interval) (here : Member (parts_of declared (views_with t (views_of code)) positions) box) (p : List ℤ) (inside : IsIn box p) where
  abbrev part_requests : List Request
  part_requests = requests_for (written_for declared box t) (map (object_for declared box) (views_of code))

  within : IsWithin box positions
  within = part_within declared (views_with t (views_of code)) positions box (laws.partition declared (views_with t (views_of code)) positions) valid here

  -- a view's cell lies in what the patch allocates that owns it
  holds_cell : (view : Viewed) → IsPlaced declared positions view → Contains (views_with t (views_of code)) view
      → Allocates (layout_at declared view.array) (owner_of (layout_at declared view.array) (cell_named view.slots (map (λ axis. axis.first) box))) (cell_named view.slots p)
  holds_cell view placed there =
      let layout = layout_at declared view.array in
      let owner = owner_of (layout_at declared view.array) (cell_named view.slots (map (λ axis. axis.first) box)) in
      let owns : Owns layout owner (cell_named view.slots p) =
      owns_cell declared (views_with t (views_of code)) positions view placed there box (contains_of (parts_of declared (views_with t (views_of code)) positions) box here) p inside (within.inside p inside) in
      let found = some_from (λ owned. IsIn owned (cell_named view.slots p)) (slice_get (owned_boxes layout) owner) owns in
      let allocated : slice_get (allocated_boxes layout) owner ≡ Some (allocated_of layout found.0) = slice_get-map (allocated_of layout) (owned_boxes layout) owner ∙ ap (option_map (allocated_of layout)) found.1 in
      subst (λ o. IsSomeAnd o (λ area. IsIn area (cell_named view.slots p))) (sym allocated)
      (laws.allocates layout owner found.0 (cell_named view.slots p) placed.layout.axes found.1 found.2)

  asks_for : (view : Viewed) → IsPlaced declared positions view → Contains (views_with t (views_of code)) view → Member (views_of code) view
      → AskFor declared part_requests view.array (cell_named view.slots p)
  asks_for view placed there read =
      let asks = all_asked (map (object_for declared box) (views_of code)) (write_request (written_for declared box t)) (object_for declared box view) (member_map (object_for declared box) (views_of code) view read) in
      record {
        patch = owner_of (layout_at declared view.array) (cell_named view.slots (map (λ axis. axis.first) box));
        there = has_patch declared (views_with t (views_of code)) positions view placed there box (contains_of (parts_of declared (views_with t (views_of code)) positions) box here) (first_inside box positions within);
        holds = holds_cell view placed there;
        mode = asks.0;
        asked = contains_of part_requests (request asks.0 (object_for declared box view)) asks.1;
      }

  pub all_asked_for : All (λ view. AskFor declared part_requests view.array (cell_named view.slots p)) (views_of code)
  all_asked_for = λ k d few.
      let view = get_or (views_of code) k d in
      let at : slice_get (views_of code) k ≡ Some view = slice_get-get_or (views_of code) k d few in
      asks_for view (reads_placed (IsPlaced declared positions) t (views_of code) can.views k d few) (listed t (views_of code) k view at) (member_at (views_of code) k view at)

-- the piece of a part writes the target's cell where it is owned
asks_to_write : HasLaws → (declared : Declared) (target : Viewed) (code : Expr) (positions : List Interval) → CanSplit declared (task.Assign target) code positions
    → (box : List Interval) → Member (parts_of declared (target ∷ views_of code) positions) box → (p : List ℤ) → IsIn box p
    → AskToWrite declared (requests_for (Some (object_for declared box target)) (map (object_for declared box) (views_of code))) target.array (cell_named target.slots p)
asks_to_write laws declared target code positions can box here p inside =
    let reads = map (object_for declared box) (views_of code) in
    let written = request Write (object_for declared box target) in
    let placed : IsPlaced declared positions target = All-head (IsPlaced declared positions) target (views_of code) can.views in
    subst (λ o. Contains (requests_for (Some (object_for declared box target)) reads) (request Write o))
    (sym (same_object declared (target ∷ views_of code) positions target placed (contains_of (target ∷ views_of code) target (inl refl)) box
    (contains_of (parts_of declared (target ∷ views_of code) positions) box here) p inside))
    (contains_of (requests_for (Some (object_for declared box target)) reads) written (all_stay reads (written ∷ []) written (inl refl)))

-- ---- the pieces of an action

-- a piece has the position and serves the action there
abbrev IsServed : Declared → Action → List Pieced → List ℤ → Type 0
IsServed declared does works p = (piece : Pieced) × Contains works piece × IsIn piece.positions p × Serve declared does p (requests_of piece)

module _ (laws : HasLaws) (declared : Declared) (arrays : AreArrays declared.shapes declared.layouts) (scalars : List ℤ) (number : ℕ) where
  part_at : (t : Task) (code : Expr) (positions : List Interval) (p : List ℤ) → IsIn positions p
      → (box : List Interval) × Member (parts_of declared (views_with t (views_of code)) positions) box × IsIn box p
  part_at t code positions p h =
      any_of (λ box. IsIn box p) (parts_of declared (views_with t (views_of code)) positions)
      (((laws.partition declared (views_with t (views_of code)) positions).cells p).0 h)

  piece_there : (t : Task) (code : Expr) (positions box : List Interval) → Member (parts_of declared (views_with t (views_of code)) positions) box
      → Contains (pieces_with declared number t code positions) (piece_of declared number t code box)
  piece_there t code positions box m =
      contains_of (pieces_with declared number t code positions) (piece_of declared number t code box)
      (member_map (piece_of declared number t code) (parts_of declared (views_with t (views_of code)) positions) box m)

  pub all_served : (does : Action) (p : List ℤ) → IsFit declared does → IsPositionOf does p → IsServed declared does (pieces_of declared scalars number does) p
  all_served (action.Assign target value mask) p fit h =
      let whole = whole_value target value mask in
      let code = bound scalars whole in
      let positions = positions_of target.slots in
      let can : CanSplit declared (task.Assign target) code positions = assign_splits declared arrays target whole scalars fit in
      let part = part_at (task.Assign target) code positions p h in (
        piece_of declared number (task.Assign target) code part.0,
        piece_there (task.Assign target) code positions part.0 part.1,
        part.2,
        record {
          writes = asks_to_write laws declared target code positions can part.0 part.1 p part.2;
          reads =
              subst (All (λ view. AskFor declared (requests_of (piece_of declared number (task.Assign target) code part.0)) view.array (cell_named view.slots p))) (views_bound scalars whole)
              (all_asked_for laws declared number (task.Assign target) code positions fit.few_positions.box can part.0 part.1 p part.2);
        },
      )
  all_served (action.Reduce scalar reduction positions value) p fit h =
      let code = bound scalars value in
      let can : CanSplit declared (task.Reduce reduction) code positions = reduce_splits declared arrays reduction scalar positions value scalars fit in
      let part = part_at (task.Reduce reduction) code positions p h in (
        piece_of declared number (task.Reduce reduction) code part.0,
        piece_there (task.Reduce reduction) code positions part.0 part.1,
        part.2,
        record {
          writes = tt;
          reads =
              subst (All (λ view. AskFor declared (requests_of (piece_of declared number (task.Reduce reduction) code part.0)) view.array (cell_named view.slots p))) (views_bound scalars value)
              (all_asked_for laws declared number (task.Reduce reduction) code positions fit.few_positions.box can part.0 part.1 p part.2);
        },
      )
  all_served (action.PrintView view) p fit h = absurd h
  all_served (action.PrintScalar scalar) p fit h = absurd h
  all_served action.Block p fit h = absurd h
