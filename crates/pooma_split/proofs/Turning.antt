-- The pieces of an assignment, done one after another.
use Rattle.std.proofs.Common.{refl, sym, ap, ◌∙◌, subst, ⊎_elim, arith, get_or, append_assoc}
use Rattle.std.proofs.lemmas.List.Elements.{All-head, All-tail}
use Rattle.std.proofs.lemmas.List.{append-nil, length-set}
use Rattle.std.proofs.lemmas.Option.{get_or_from_slice_get, slice_get-get_or, slice_get_within}
use Rattle.std.specs.Option.{option_and_then, option_map, option_map_or}
use Rattle.std.specs.Prelude.{◌≡◌, ◌≢◌, ℕ, zero, suc, ◌+◌, ◌<◌, ℤ, Option, Some, None, IsSome, List, [], ◌∷◌, ◌++◌, length, map, fold, slice_get, All, Contains}
use Rattle.pooma_logic.proofs.Members.{Member, contains_of, member_at, member_cases}
use Rattle.pooma_domain.specs.Cells.{Interval, cells_of, IsIn}
use Rattle.pooma_view.specs.Slots.{cell_named, positions_of}
use Rattle.pooma_view.specs.Views.{Viewed}
use Rattle.pooma_field.specs.declared.faces.Ends.{Ends}
use Rattle.pooma_field.specs.Numbered.{Change, Numbered, IsFull, with_changes}
use Rattle.pooma_field.specs.Shapes.{own_area}
use Rattle.pooma_field.specs.Worlds.{World, HasCell, array_of, changed}
use Rattle.pooma_layout.specs.Patches.{Owns, owner_of}
use Rattle.pooma_expr.specs.declared.tree.Expr.{Expr}
use Rattle.pooma_expr.specs.Trees.{bound, views_of}
use Rattle.pooma_expr.specs.Values.{Checked}
use Rattle.pooma_expr.proofs.Bound.{value_bound, views_bound}
use Rattle.pooma_machine.specs.Values.{Lent, lent_by, new_value_of, outcome_of, put_back, written_object}
use Rattle.pooma_law.specs.Ser.{Results, with_work}
use Rattle.pooma_model.specs.Assigning.{Given, given_by}
use Rattle.pooma_model.specs.Declarations.{Declared, layout_at, shape_at, value_in}
use Rattle.pooma_model.specs.Fit.{IsAssignFit}
use Rattle.pooma_model.specs.Midway.{IsMidway, SeesMidway}
use Rattle.pooma_model.specs.Partitions.{IsOfOthers, IsPartition, changes_at}
use Rattle.pooma_model.specs.Parts.{parts_of}
use Rattle.pooma_store.specs.Numbering.{AreObjects, EachCell, HasPatch, changed_at, object_at, object_count}
use Rattle.pooma_store.specs.Standing.{IsFresh, IsFreshFor, StandsFor}
use Rattle.pooma_store.specs.Stored.{AreArrays}
use Rattle.pooma_store.proofs.OwnerNumbers.{objects_counted}
use Rattle.pooma_piece.specs.declared.outcome.Outcome.{Outcome}
use Rattle.pooma_piece.specs.declared.outcome.Outcome.TheVariants.{Done}
use Rattle.pooma_piece.specs.declared.task.Task.TheVariants as task
use Rattle.pooma_piece.specs.Effects.{before_fault, changes_over, content_by, first_fault_or, value_at}
use Rattle.pooma_piece.specs.Meaning.{pieces}
use Rattle.pooma_piece.specs.Pieces.{Pieced, requests_of}
use Rattle.pooma_piece.proofs.Naming.{written_is}
use Rattle.pooma_split.specs.Gathered.{HasLaws}
use Rattle.pooma_split.specs.Splits.{CanSplit, IsPlaced, object_for, piece_of}
use Rattle.pooma_split.specs.Statements.{HasView}
use Rattle.pooma_split.proofs.Agreeing.{AgreeOn, before_member, change_cells, same_before, same_changes, same_first}
use Rattle.pooma_split.proofs.Boxes.{part_within}
use Rattle.pooma_split.proofs.Owning.{has_patch, owns_cell, same_object}
use Rattle.pooma_split.proofs.Piecing.{IsWithin, first_inside, object_known}
use Rattle.pooma_split.proofs.Placing.{assign_splits}
use Rattle.pooma_split.proofs.Seeing.{has, sees}

module _ (laws : HasLaws) (declared : Declared) (arrays : AreArrays declared.shapes declared.layouts) (number : ℕ) (target : Viewed) (whole : Expr) (world : World) (fit : IsAssignFit declared target whole)
    (knows : All (HasView declared world) (views_of whole)) where
  abbrev pub positions : List Interval
  positions = positions_of target.slots

  abbrev pub code : Expr
  code = bound world.scalars whole

  abbrev pub boxes : List (List Interval)
  boxes = parts_of declared (target ∷ views_of code) positions

  can : CanSplit declared (task.Assign target) code positions
  can = assign_splits declared arrays target whole world.scalars fit

  abbrev pub value_of : List ℤ → Checked
  value_of p = value_in declared world whole p

  abbrev pub given : List ℤ → Given
  given p = given_by (value_of p)

  -- the positions of a box at which its piece sets cells
  abbrev pub done_at : List Interval → List (List ℤ)
  done_at box = before_fault value_of (cells_of box)

  abbrev pub next_world : World → List Interval → World
  next_world now box = changed now target.array (changes_at given target.slots (done_at box))

  parts : IsPartition positions boxes
  parts = laws.partition declared (target ∷ views_of code) positions

  is_cell : (box : List Interval) (p : List ℤ) → Member (cells_of box) p → IsIn box p
  is_cell box p m = (laws.cells.members box p).0 (contains_of (cells_of box) p m)

  -- how far the pieces have come: those of the first k boxes are done
  pub record Goes (k : ℕ) (now : World) (done : List (List ℤ)) (objects : List Numbered) : Type 0 where
    pub objects_are : AreObjects declared.layouts objects
    pub stands : StandsFor declared.layouts objects now
    pub fresh : All (IsFreshFor declared.shapes declared.layouts objects world) (views_of whole)
    pub midway : IsMidway target done world now
    pub full : IsFull (array_of now target.array)
    pub areas : (array : ℕ) → (array_of now array).area ≡ (array_of world array).area
    pub count : length now.arrays ≡ length world.arrays
    pub others : (q : List ℤ) → Member done q → (j : ℕ) × (b : List Interval) × (j < k) × (slice_get boxes j ≡ Some b) × IsIn b q

  module _ (k : ℕ) (box : List Interval) (at : slice_get boxes k ≡ Some box) (now : World) (done : List (List ℤ)) (objects : List Numbered) (goes : Goes k now done objects) where
    here : Member boxes box
    here = member_at boxes k box at

    within : IsWithin box positions
    within = part_within declared (target ∷ views_of code) positions box parts fit.few_positions.box here

    counted : length objects ≡ object_count declared.layouts
    counted = objects_counted declared.layouts objects goes.objects_are

    abbrev work : Pieced
    work = piece_of declared number (task.Assign target) code box

    abbrev given_to : Lent Numbered
    given_to = lent_by objects (requests_of (piece_of declared number (task.Assign target) code box))

    target_placed : IsPlaced declared positions target
    target_placed = All-head (IsPlaced declared positions) target (views_of code) can.views

    listed : (j : ℕ) (view : Viewed) → slice_get (views_of code) j ≡ Some view → Contains (target ∷ views_of code) view
    listed j view there = (suc j, omega (arith, slice_get_within (views_of code) j view there), get_or_from_slice_get (views_of code) j view view there)

    reads : All (IsPlaced declared positions) (views_of code)
    reads = All-tail (IsPlaced declared positions) target (views_of code) can.views

    has_now : (view : Viewed) → HasView declared world view → HasView declared now view
    has_now view known = record {
      own = λ p inside own. keep (cell_named view.slots p) (known.own p inside own);
      field = λ p c inside out physical. keep c (known.field p c inside out physical);
    }
      where
        keep : (c : List ℤ) → HasCell world view.array c → HasCell now view.array c
        keep c old = (omega (arith, old.0, goes.count), subst (λ area. IsIn area c) (sym (goes.areas view.array)) old.1)

    sees_all : (p : List ℤ) → IsIn box p → All (SeesMidway declared world now (has declared arrays positions box within number (task.Assign target) code can objects counted) p) (views_of whole)
    sees_all p inside j d below =
        let view = get_or (views_of whole) j d in
        let below_too : j < length (views_of code) = omega (arith, below, ap length (views_bound world.scalars whole)) in
        let same_view : get_or (views_of code) j d ≡ view = ap (λ views. get_or views j d) (views_bound world.scalars whole) in
        let there : slice_get (views_of code) j ≡ Some view = slice_get-get_or (views_of code) j d below_too ∙ ap Some same_view in
        let placed : IsPlaced declared positions view = subst (IsPlaced declared positions) same_view (reads j d below_too) in
        sees declared arrays positions box within number (task.Assign target) code can objects counted world now j view p there placed
        (same_object declared (target ∷ views_of code) positions view placed (listed j view there) box (contains_of boxes box here) p inside)
        (within.inside p inside) goes.stands (has_now view (knows j d below)) (knows j d below) (goes.fresh j d below)

    all_others : All (IsOfOthers boxes k) done
    all_others j d below =
        let q = get_or done j d in
        let from = goes.others q (member_at done j q (slice_get-get_or done j d below)) in
        (from.0, from.1, (λ e. absurd (omega (arith, e, from.2))), from.3, from.4)

    -- what the piece finds at its positions is what they have in the world before
    value_is : (p : List ℤ) → IsIn box p → value_at work given_to.written given_to.reads p ≡ value_of p
    value_is p inside =
        value_bound world.scalars whole (has declared arrays positions box within number (task.Assign target) code can objects counted) p
        ∙ laws.part declared target whole boxes k box done world now (has declared arrays positions box within number (task.Assign target) code can objects counted) p fit parts at inside all_others goes.midway (sees_all p inside)

    agree : AgreeOn (value_at work given_to.written given_to.reads) value_of (cells_of box)
    agree p m = value_is p (is_cell box p m)

    pub outcome_is : outcome_of pieces work given_to ≡ first_fault_or value_of (cells_of box) Done
    outcome_is = same_first (value_at work given_to.written given_to.reads) value_of (cells_of box) Done agree

    abbrev object : ℕ
    object = object_for declared box target

    known : object_for declared box target < length objects
    known = omega (arith, counted, object_known declared positions box within target target_placed)

    written : given_to.written ≡ Some (object_at objects (object_for declared box target))
    written =
        ap (option_and_then (slice_get objects)) (written_is (Some (object_for declared box target)) work.reads)
        ∙ slice_get-get_or objects (object_for declared box target) (record { area = []; numbers = [] }) known

    -- what it leaves
    content_is : (w : Option Numbered) → w ≡ Some (object_at objects (object_for declared box target)) → AgreeOn (value_at work w given_to.reads) value_of (cells_of box)
        → option_map (λ old. content_by (task.Assign target) work old given_to.reads) w
        ≡ Some (with_changes (object_at objects (object_for declared box target)) (changes_at given target.slots (done_at box)))
    content_is w is same =
        let old = object_at objects (object_for declared box target) in
        let same_old : AgreeOn (value_at work (Some old) given_to.reads) value_of (cells_of box) = subst (λ v. AgreeOn (value_at work v given_to.reads) value_of (cells_of box)) is same in
        ap (option_map (λ o. content_by (task.Assign target) work o given_to.reads)) is
        ∙ ap (λ ps. Some (with_changes old (changes_over target.slots (value_at work (Some old) given_to.reads) ps))) (same_before (value_at work (Some old) given_to.reads) value_of (cells_of box) same_old)
        ∙ ap (λ changes. Some (with_changes old changes))
        (same_changes (value_at work (Some old) given_to.reads) value_of target.slots (done_at box) (λ p m. same_old p (before_member value_of (cells_of box) p m)))

    pub objects_after : put_back objects (written_object (requests_of work)) (new_value_of pieces work given_to)
        ≡ changed_at objects (object_for declared box target) (changes_at given target.slots (done_at box))
    objects_after =
        ap (λ o. put_back objects o (new_value_of pieces work given_to)) (written_is (Some (object_for declared box target)) work.reads)
        ∙ ap (put_back objects (Some (object_for declared box target))) (content_is given_to.written written agree)

    -- the cells that it sets
    first_in : IsIn positions (map (λ axis. axis.first) box)
    first_in = first_inside box positions within

    patch : HasPatch declared.layouts target.array (owner_of (layout_at declared target.array) (cell_named target.slots (map (λ axis. axis.first) box)))
    patch = has_patch declared (target ∷ views_of code) positions target target_placed (zero, omega arith, refl) box (contains_of boxes box here) first_in

    abbrev changes : List Change
    changes = changes_at given target.slots (done_at box)

    of_box : (q : List ℤ) → Member (done_at box) q → IsIn box q
    of_box q m = is_cell box q (before_member value_of (cells_of box) q m)

    own_cells : EachCell changes (λ cell. Owns (layout_at declared target.array) (owner_of (layout_at declared target.array) (cell_named target.slots (map (λ axis. axis.first) box))) cell)
    own_cells =
        change_cells given target.slots (done_at box) _
        (λ q m. owns_cell declared (target ∷ views_of code) positions target target_placed (zero, omega arith, refl) box (contains_of boxes box here) q (of_box q m) (within.inside q (of_box q m)))

    still_fresh : (view : Viewed) → IsFreshFor declared.shapes declared.layouts objects world view → IsFreshFor declared.shapes declared.layouts (changed_at objects (object_for declared box target) changes) world view
    still_fresh view fresh p inside out c field total external =
        laws.fresh declared.shapes declared.layouts objects world target.array (owner_of (layout_at declared target.array) (cell_named target.slots (map (λ axis. axis.first) box))) changes view.array goes.objects_are patch
        (λ same. change_cells given target.slots (done_at box) _
        (λ q m owns. physical_cell same q (of_box q m)))
        (fresh p inside out) c field total external
      where
        physical_cell : view.array ≡ target.array → (q : List ℤ) → IsIn box q → IsIn (shape_at declared view.array).physical (cell_named target.slots q)
        physical_cell same q in_box =
            by (shape_at declared view.array).faces field.faced
            (subst (λ array. IsIn (own_area (shape_at declared array)) (cell_named target.slots q)) (sym same) (fit.writable.cells q (within.inside q in_box)))
          where
            by : (faces : Option (List Ends)) → IsSome faces → IsIn (option_map_or (λ f. (shape_at declared view.array).physical) faces (shape_at declared view.array).total) (cell_named target.slots q)
                → IsIn (shape_at declared view.array).physical (cell_named target.slots q)
            by None faced own = cc
            by (Some f) faced own = own

    pub goes_next : Goes (suc k) (next_world now box) (done ++ done_at box) (changed_at objects (object_for declared box target) changes)
    goes_next = record {
      objects_are = laws.still declared.layouts objects (object_for declared box target) changes goes.objects_are known;
      stands =
          laws.stands declared.layouts objects now target.array (owner_of (layout_at declared target.array) (cell_named target.slots (map (λ axis. axis.first) box))) changes goes.objects_are patch goes.full own_cells goes.stands;
      fresh = λ j d below. still_fresh (get_or (views_of whole) j d) (goes.fresh j d below);
      midway = laws.goes_on target done (done_at box) world now given goes.full goes.midway;
      full = laws.full target given (done_at box) now target.array goes.full;
      areas = λ array. laws.area target given (done_at box) now array ∙ goes.areas array;
      count = length-set now.arrays target.array (with_changes (array_of now target.array) changes) ∙ goes.count;
      others = λ q m. ⊎_elim
          (λ was. let from = goes.others q was in (from.0, from.1, omega (arith, from.2), from.3, from.4))
          (λ new. (k, box, omega arith, at, of_box q new))
          (member_cases done (done_at box) q m);
    }

    -- a field that is not the target stays fresh
    pub fresh_next : (other : ℕ) → other ≢ target.array → IsFresh declared.shapes declared.layouts objects now other
        → IsFresh declared.shapes declared.layouts (changed_at objects (object_for declared box target) changes) (next_world now box) other
    fresh_next other apart fresh =
        laws.fresh_elsewhere declared.shapes declared.layouts (changed_at objects (object_for declared box target) changes) now target.array changes other apart
        (laws.fresh declared.shapes declared.layouts objects now target.array (owner_of (layout_at declared target.array) (cell_named target.slots (map (λ axis. axis.first) box))) changes other goes.objects_are patch
        (λ same. absurd (apart same)) fresh)

  -- what a box's piece answers
  abbrev pub answer_for : List Interval → Outcome
  answer_for box = first_fault_or value_of (cells_of box) Done

  -- what comes of the pieces of some boxes, from the k-th on
  pub record Came (k : ℕ) (now : World) (rest : List (List Interval)) (before after : Results Numbered Outcome) : Type 0 where
    pub answers : after.outcomes ≡ before.outcomes ++ map answer_for rest
    pub done : List (List ℤ)
    pub goes : Goes (k + length rest) (fold next_world now rest) done after.objects
    pub elsewhere : (other : ℕ) → other ≢ target.array → IsFresh declared.shapes declared.layouts before.objects now other → IsFresh declared.shapes declared.layouts after.objects (fold next_world now rest) other

  pub turn : (rest : List (List Interval)) (k : ℕ) (now : World) (done : List (List ℤ)) (results : Results Numbered Outcome) → ((j : ℕ) → slice_get boxes (k + j) ≡ slice_get rest j) → Goes k now done results.objects
      → Came k now rest results (fold (with_work pieces) results (map (piece_of declared number (task.Assign target) code) rest))
  turn [] k now done results stand goes =
      let same : k ≡ k + 0 = omega arith in
      record { answers = sym (append-nil results.outcomes); done = done; goes = subst (λ n. Goes n now done results.objects) same goes; elsewhere = λ other apart fresh. fresh }
  turn (box ∷ rest) k now done results stand goes =
      let first : k + 0 ≡ k = omega arith in
      let at : slice_get boxes k ≡ Some box = ap (slice_get boxes) (sym first) ∙ stand 0 in
      let one = with_work pieces results (piece_of declared number (task.Assign target) code box) in
      let objects : one.objects ≡ changed_at results.objects (object_for declared box target) (changes_at given target.slots (done_at box)) = objects_after k box at now done results.objects goes in
      let goes_on : Goes (suc k) (next_world now box) (done ++ done_at box) one.objects =
      subst (Goes (suc k) (next_world now box) (done ++ done_at box)) (sym objects) (goes_next k box at now done results.objects goes) in
      let came = turn rest (suc k) (next_world now box) (done ++ done_at box) one (λ j. let next : suc k + j ≡ k + suc j = omega arith in ap (slice_get boxes) next ∙ stand (suc j)) goes_on in
      record {
        answers =
            came.answers ∙ append_assoc results.outcomes (outcome_of pieces (piece_of declared number (task.Assign target) code box) (lent_by results.objects (requests_of (piece_of declared number (task.Assign target) code box))) ∷ []) (map answer_for rest)
            ∙ ap (λ o. results.outcomes ++ o ∷ map answer_for rest) (outcome_is k box at now done results.objects goes);
        done = came.done;
        goes =
            let all : suc k + length rest ≡ k + suc (length rest) = omega arith in
            subst (λ n. Goes n (fold next_world (next_world now box) rest) came.done (fold (with_work pieces) one (map (piece_of declared number (task.Assign target) code) rest)).objects) all came.goes;
        elsewhere = λ other apart fresh. came.elsewhere other apart
            (subst (λ os. IsFresh declared.shapes declared.layouts os (next_world now box) other) (sym objects) (fresh_next k box at now done results.objects goes other apart fresh));
      }
