-- The fills that an action needs make each field fresh that it reads in an external cell.
use Rattle.std.proofs.Common.{refl, sym, ap, ◌∙◌, subst, inl, inr, ⊎_elim, arith, take}
use Rattle.std.proofs.lemmas.Bool.{cases_eq, false≢true}
use Rattle.std.proofs.lemmas.Bool.Decides.{Decides-eqb}
use Rattle.std.proofs.lemmas.List.Elements.{All-nil}
use Rattle.std.proofs.lemmas.List.Folds.{list_any_at}
use Rattle.std.proofs.lemmas.List.{length-map}
use Rattle.std.proofs.lemmas.List.Sums.{fold-append}
use Rattle.std.proofs.lemmas.Option.{same_Some, slice_get-map, slice_get_within}
use Rattle.std.specs.List.{list_any}
use Rattle.std.specs.Option.{option_map_or}
use Rattle.std.specs.Prelude.{◌≡◌, ◌==◌, ◌&&◌, ◌⊎◌, not, ℕ, zero, suc, ◌+◌, ◌<◌, ℤ, Bool, true, false, Option, Some, None, IsSome, is_some, List, [], ◌∷◌, length, map, fold, slice_get, All, Contains, if◌then◌else◌}
use Rattle.pooma_domain.specs.Cells.{Interval, cells_of, IsIn}
use Rattle.pooma_view.specs.Slots.{cell_named, positions_of}
use Rattle.pooma_view.specs.Views.{Viewed}
use Rattle.pooma_field.specs.declared.faces.Ends.{Ends}
use Rattle.pooma_field.specs.declared.shapes.Shape.{Shape}
use Rattle.pooma_field.specs.Look.{look}
use Rattle.pooma_field.specs.Numbered.{Numbered}
use Rattle.pooma_field.specs.Shapes.{Shaped, IsShape, own_area}
use Rattle.pooma_field.specs.ShapeOf.{shape_of}
use Rattle.pooma_field.specs.Worlds.{World, HasCell, number_of}
use Rattle.pooma_layout.specs.Axes.{CutAxis}
use Rattle.pooma_layout.specs.Patches.{total_of}
use Rattle.pooma_layout.proofs.Choices.{slice_get_some}
use Rattle.pooma_law.specs.Ser.{Results, with_work}
use Rattle.pooma_model.specs.declared.statement.Action.{Action}
use Rattle.pooma_store.specs.Numbering.{AreObjects, layout_at}
use Rattle.pooma_store.specs.Standing.{IsFresh, OwnerHas, StandsFor, shape_at}
use Rattle.pooma_store.specs.Stored.{AreArrays, Stored}
use Rattle.pooma_piece.specs.Gathered.{HasMembers}
use Rattle.pooma_piece.specs.declared.outcome.Outcome.{Outcome}
use Rattle.pooma_piece.specs.declared.outcome.Outcome.TheVariants.{Done}
use Rattle.pooma_piece.specs.Lent.{is_in}
use Rattle.pooma_piece.specs.Meaning.{pieces}
use Rattle.pooma_piece.proofs.Seen.{is_in_is}
use Rattle.pooma_fill.specs.declared.stale.Mark.{Mark}
use Rattle.pooma_fill.specs.Filling.{fills_of_field}
use Rattle.pooma_fill.specs.Marks.{HasArrays, Staled, fills_from, fills_if, first_mark, is_needed, is_target, mark_after, marks_after}
use Rattle.pooma_fill.specs.Reading.{is_external, reads_external, views_read}
use Rattle.pooma_fill.proofs.Marking.{array_there, faces_needed, shape_there}
use Rattle.pooma_fill.specs.Gathered.{HasLaws}
use Rattle.pooma_fill.specs.Freshened.{AreMarked, CanFill, filled}
use Rattle.pooma_fill.proofs.SlabFills.{of_mapped}
use Rattle.pooma_fill.proofs.FieldFills.{field_filled, field_passed}

-- an array of this shape, where the store has it
record IsPlaced (shapes : List Shaped) (layouts : List (List CutAxis)) (array : ℕ) (shape : Shape) : Type 0 where
  known : array < length layouts
  is : shape_at shapes array ≡ shape_of shape

own_physical : (faces : Option (List Ends)) (physical total : List Interval) (c : List ℤ) → IsSome faces → IsIn (option_map_or (λ f. physical) faces total) c → IsIn physical c
own_physical None physical total c faced h = absurd (false≢true faced)
own_physical (Some f) physical total c faced h = h

pub not_faced : (faces : Option (List Ends)) → is_some faces ≡ false → IsSome faces → ⊥
not_faced None none some = false≢true some
not_faced (Some f) none some = false≢true (sym none)

module _ (laws : HasLaws) (shapes : List Shaped) (layouts : List (List CutAxis)) (arrays : AreArrays shapes layouts) (world : World) (own : (array : ℕ) (c : List ℤ) → HasCell world array c → IsIn (own_area (shape_at shapes array)) c) (number : ℕ) (does : Action) where
  -- what fills leave
  record HaveGone (before after : Results Numbered Outcome) : Type 0 where
    are : AreObjects layouts after.objects
    stands : StandsFor layouts after.objects world
    kept : (array : ℕ) → IsFresh shapes layouts before.objects world array → IsFresh shapes layouts after.objects world array
    done : All (λ o. o ≡ Done) before.outcomes → All (λ o. o ≡ Done) after.outcomes

  none_gone : (results : Results Numbered Outcome) → AreObjects layouts results.objects → StandsFor layouts results.objects world → HaveGone results results
  none_gone results are stands = record { are = are; stands = stands; kept = λ array fresh. fresh; done = λ all. all }

  both_gone : (before mid after : Results Numbered Outcome) → HaveGone before mid → HaveGone mid after → HaveGone before after
  both_gone before mid after one two = record {
    are = two.are;
    stands = two.stands;
    kept = λ array fresh. two.kept array (one.kept array fresh);
    done = λ all. two.done (one.done all);
  }

  module _ (array : ℕ) (shape : Shape) (placed : IsPlaced shapes layouts array shape) (faced : IsSome shape.faces) where
    valid : IsShape (shape_of shape)
    valid = subst IsShape placed.is (arrays.shaped array placed.known)

    total : (shape_of shape).total ≡ total_of (layout_at layouts array)
    total = ap (λ (s : Shaped). s.total) (sym placed.is) ∙ (arrays.fitting array placed.known).total

    own_here : (c : List ℤ) → HasCell world array c → IsIn (shape_of shape).physical c
    own_here c has = own_physical shape.faces (shape_of shape).physical (shape_of shape).total c faced (subst (λ (s : Shaped). IsIn (own_area s) c) placed.is (own array c has))

    abbrev after_field : Results Numbered Outcome → Results Numbered Outcome
    after_field results = fold (with_work pieces) results (fills_of_field layouts number shape array)

    fresh_field : (results : Results Numbered Outcome) → AreObjects layouts results.objects → StandsFor layouts results.objects world → IsFresh shapes layouts (after_field results).objects world array
    fresh_field results are stands c field inside outside =
        subst (λ (s : Shaped). OwnerHas layouts (fold (with_work pieces) results (fills_of_field layouts number shape array)).objects array c (look s (number_of world array) c)) (sym placed.is)
        (field_filled laws layouts array shape number world own_here placed.known (arrays.cut array placed.known) valid total faced
        (λ d h. field.known d (subst (λ (s : Shaped). IsIn s.physical d) (sym placed.is) h)) results are stands c
        (subst (λ (s : Shaped). IsIn s.total c) placed.is inside))

    field_gone : (results : Results Numbered Outcome) → AreObjects layouts results.objects → StandsFor layouts results.objects world → HaveGone results (after_field results)
    field_gone results are stands =
        let passed = field_passed laws layouts array shape number world own_here placed.known (arrays.cut array placed.known) valid total results are stands in
        record {
          are = passed.are;
          stands = passed.stands;
          kept = λ other fresh. ⊎_elim
              (λ same. subst (IsFresh shapes layouts (fold (with_work pieces) results (fills_of_field layouts number shape array)).objects world) (sym same) (fresh_field results are stands))
              (λ apart c field inside outside. passed.elsewhere other c (look (shape_at shapes other) (number_of world other) c) apart (fresh c field inside outside))
              (cases_eq other array);
          done = passed.done;
        }

  -- the fills of one array, where they are needed
  record HaveDone (array : ℕ) (shape : Shape) (mark : Mark) (before after : Results Numbered Outcome) : Type 0 where
    gone : HaveGone before after
    fresh : is_needed does array shape mark ≡ true → IsFresh shapes layouts after.objects world array

  one_done : (array : ℕ) (shape : Shape) (mark : Mark) → IsPlaced shapes layouts array shape → (results : Results Numbered Outcome) → AreObjects layouts results.objects → StandsFor layouts results.objects world → HaveDone array shape mark results (fold (with_work pieces) results (fills_if layouts number does array shape mark))
  one_done array shape mark placed results are stands = by (is_needed does array shape mark) refl
    where
      by : (needed : Bool) → is_needed does array shape mark ≡ needed → HaveDone array shape mark results (fold (with_work pieces) results (if is_needed does array shape mark then fills_of_field layouts number shape array else []))
      by true is =
          let faced = faces_needed does array shape mark is in
          rw is (record { gone = field_gone array shape placed faced results are stands; fresh = λ e. fresh_field array shape placed faced results are stands })
      by false is = rw is (record { gone = none_gone results are stands; fresh = λ e. absurd (false≢true (sym is ∙ e)) })

  -- those of several arrays, the first of which has this number
  record HaveAllDone (first : ℕ) (ss : List Shape) (ms : List Mark) (before after : Results Numbered Outcome) : Type 0 where
    gone : HaveGone before after
    fresh : (j : ℕ) (shape : Shape) (mark : Mark) → slice_get ss j ≡ Some shape → slice_get ms j ≡ Some mark → is_needed does (first + j) shape mark ≡ true → IsFresh shapes layouts after.objects world (first + j)

  all_done : (ss : List Shape) (ms : List Mark) (first : ℕ) → ((j : ℕ) (shape : Shape) → slice_get ss j ≡ Some shape → IsPlaced shapes layouts (first + j) shape) → (results : Results Numbered Outcome) → AreObjects layouts results.objects → StandsFor layouts results.objects world → HaveAllDone first ss ms results (fold (with_work pieces) results (fills_from layouts number does first ss ms))
  all_done [] ms first placed results are stands = record { gone = none_gone results are stands; fresh = λ j shape mark at_s at_m needed. cc }
  all_done (s ∷ ss) [] first placed results are stands = record { gone = none_gone results are stands; fresh = λ j shape mark at_s at_m needed. cc }
  all_done (s ∷ ss) (m ∷ ms) first placed results are stands =
      let same : first + 0 ≡ first = omega arith in
      let here : IsPlaced shapes layouts first s = subst (λ (k : ℕ). IsPlaced shapes layouts k s) same (placed 0 s refl) in
      let one = one_done first s m here results are stands in
      let mid = fold (with_work pieces) results (fills_if layouts number does first s m) in
      let rest = all_done ss ms (suc first) (λ j shape at. let next : first + suc j ≡ suc first + j = omega arith in subst (λ (k : ℕ). IsPlaced shapes layouts k shape) next (placed (suc j) shape at)) mid one.gone.are one.gone.stands in
      subst (HaveAllDone first (s ∷ ss) (m ∷ ms) results) (sym (fold-append (with_work pieces) results (fills_if layouts number does first s m) (fills_from layouts number does (suc first) ss ms)))
      (record { gone = both_gone results mid _ one.gone rest.gone; fresh = by one rest })
    where
      by : {mid after : Results Numbered Outcome} → HaveDone first s m results mid → HaveAllDone (suc first) ss ms mid after → (j : ℕ) (shape : Shape) (mark : Mark) → slice_get (s ∷ ss) j ≡ Some shape → slice_get (m ∷ ms) j ≡ Some mark → is_needed does (first + j) shape mark ≡ true → IsFresh shapes layouts after.objects world (first + j)
      by {mid} {after} one rest zero shape mark at_s at_m needed =
          let same : first ≡ first + 0 = omega arith in
          let is_s : s ≡ shape = cc in
          let is_m : m ≡ mark = cc in
          let here : is_needed does first s m ≡ true = ap (λ (k : ℕ). is_needed does k s m) same ∙ ap (λ (x : Shape). is_needed does (first + 0) x m) is_s ∙ ap (is_needed does (first + 0) shape) is_m ∙ needed in
          subst (IsFresh shapes layouts after.objects world) same (rest.gone.kept first (one.fresh here))
      by {mid} {after} one rest (suc j) shape mark at_s at_m needed =
          let next : suc first + j ≡ first + suc j = omega arith in
          subst (IsFresh shapes layouts after.objects world) next (rest.fresh j shape mark at_s at_m (ap (λ (k : ℕ). is_needed does k shape mark) next ∙ needed))

-- ---- the fills of an action

pub record IsFreshened (store : Stored) (stale : Staled) (does : Action) (objects : List Numbered) (world : World) (after : Results Numbered Outcome) : Type 0 where
  pub are : AreObjects store.layouts after.objects
  pub stands : StandsFor store.layouts after.objects world
  pub kept : (array : ℕ) → IsFresh store.shapes store.layouts objects world array → IsFresh store.shapes store.layouts after.objects world array
  pub done : All (λ o. o ≡ Done) after.outcomes
  pub needed : (array : ℕ) (shape : Shape) (mark : Mark) → slice_get stale.shapes array ≡ Some shape → slice_get stale.marks array ≡ Some mark → is_needed does array shape mark ≡ true → IsFresh store.shapes store.layouts after.objects world array

pub layout_there : (store : Stored) (stale : Staled) → AreArrays store.shapes store.layouts → HasArrays store stale → (array : ℕ) → array < length stale.shapes → array < length store.layouts
layout_there store stale arrays has array below =
    omega (arith, arrays.both, array_there store.shapes (map shape_of stale.shapes) array (ap (λ (n : ℕ). take n store.shapes) (length-map stale.shapes shape_of) ∙ has.shapes) (omega (arith, below, length-map stale.shapes shape_of)))

pub freshened : HasLaws → (store : Stored) (stale : Staled) (number : ℕ) (does : Action) (objects : List Numbered) (world : World) → CanFill store stale objects world → IsFreshened store stale does objects world (filled store stale number does objects)
freshened laws store stale number does objects world can =
    let all = all_done laws store.shapes store.layouts can.arrays world can.own number does stale.shapes stale.marks 0
    (λ j shape at. let same : j ≡ 0 + j = omega arith in
    subst (λ (k : ℕ). IsPlaced store.shapes store.layouts k shape) same
    (record { known = layout_there store stale can.arrays can.has j (slice_get_within stale.shapes j shape at); is = shape_there store.shapes stale.shapes j shape can.has.shapes at }))
    (record { objects = objects; outcomes = [] }) can.objects_are can.stands in
    record {
      are = all.gone.are;
      stands = all.gone.stands;
      kept = all.gone.kept;
      done = all.gone.done (All-nil (λ o. o ≡ Done));
      needed = λ array shape mark at_s at_m needed.
          let same : 0 + array ≡ array = omega arith in
          subst (IsFresh store.shapes store.layouts (filled store stale number does objects).objects world) same
          (all.fresh array shape mark at_s at_m (ap (λ (k : ℕ). is_needed does k shape mark) same ∙ needed));
    }

-- ---- what is read

and_true : (a b : Bool) → a ≡ true → b ≡ true → (a && b) ≡ true
and_true true b e f = f
and_true false b e f = absurd (false≢true e)

-- a view that names a cell outside is one that reads the array outside
reads_outside : HasMembers → (shape : Shaped) (does : Action) (view : Viewed) (p : List ℤ) → Contains (views_read does) view → IsIn (positions_of view.slots) p → ¬ (IsIn shape.physical (cell_named view.slots p)) → reads_external shape view.array does ≡ true
reads_outside members shape does view p listed inside outside =
    list_any_at (is_external shape view.array) (views_read does) listed.0 view listed.1
    (ap (is_external shape view.array) listed.2
    ∙ and_true (view.array == view.array) (list_any test (cells_of (positions_of view.slots))) ((Decides-eqb view.array view.array).1 refl)
    (list_any_at test (cells_of (positions_of view.slots)) there.0 p there.1 (ap test there.2 ∙ fails (is_in shape.physical (cell_named view.slots p)) (λ e. outside (is_in_is shape.physical (cell_named view.slots p) e)))))
  where
    test : List ℤ → Bool
    test q = not (is_in shape.physical (cell_named view.slots q))

    there : Contains (cells_of (positions_of view.slots)) p
    there = (members (positions_of view.slots) p).1 inside

    fails : (b : Bool) → (b ≡ true → ⊥) → not b ≡ true
    fails true h = absurd (h refl)
    fails false h = refl

-- a field that is read outside and stale is filled
needed_then : (does : Action) (array : ℕ) (shape : Shape) (mark : Mark) → mark.external ≡ true → IsSome shape.faces → reads_external (shape_of shape) array does ≡ true → is_needed does array shape mark ≡ true
needed_then does array shape mark marked faced reads = and_true mark.external _ marked (and_true (is_some shape.faces) _ faced reads)

bool_cases : (b : Bool) → (b ≡ true) ⊎ (b ≡ false)
bool_cases true = inl refl
bool_cases false = inr refl

read_marked : HasLaws → (store : Stored) (stale : Staled) (does : Action) (objects : List Numbered) (world : World) (after : Results Numbered Outcome) → CanFill store stale objects world → IsFreshened store stale does objects world after → (view : Viewed) (p : List ℤ) (shape : Shape) (mark : Mark) → slice_get stale.shapes view.array ≡ Some shape → slice_get stale.marks view.array ≡ Some mark → Contains (views_read does) view → IsIn (positions_of view.slots) p → ¬ (IsIn (shape_at store.shapes view.array).physical (cell_named view.slots p)) → IsFresh store.shapes store.layouts after.objects world view.array
read_marked laws store stale does objects world after can all view p shape mark at_s at_m listed inside outside =
    ⊎_elim
    (λ marked c field in_total out.
    all.needed view.array shape mark at_s at_m
    (needed_then does view.array shape mark marked (subst (λ (s : Shaped). IsSome s.faces) is field.faced)
    (reads_outside laws.cells.members (shape_of shape) does view p listed inside (λ h. outside (subst (λ (s : Shaped). IsIn s.physical (cell_named view.slots p)) (sym is) h))))
    c field in_total out)
    (λ plain. all.kept view.array (can.marks view.array mark at_m plain))
    (bool_cases mark.external)
  where
    is : shape_at store.shapes view.array ≡ shape_of shape
    is = shape_there store.shapes stale.shapes view.array shape can.has.shapes at_s

pub read_fresh : HasLaws → (store : Stored) (stale : Staled) (number : ℕ) (does : Action) (objects : List Numbered) (world : World) → CanFill store stale objects world
    → (view : Viewed) (p : List ℤ) → Contains (views_read does) view → view.array < length stale.shapes → IsIn (positions_of view.slots) p → ¬ (IsIn (shape_at store.shapes view.array).physical (cell_named view.slots p))
    → IsFresh store.shapes store.layouts (filled store stale number does objects).objects world view.array
read_fresh laws store stale number does objects world can view p listed below inside outside =
    let shape = slice_get_some stale.shapes view.array below in
    let mark = slice_get_some stale.marks view.array (omega (arith, below, can.as_many)) in
    read_marked laws store stale does objects world (filled store stale number does objects) can (freshened laws store stale number does objects world can) view p shape.0 mark.0 shape.1 mark.1 listed inside outside

-- ---- marks

-- at first all fields are marked
pub first_marked : (store : Stored) (stale : Staled) (objects : List Numbered) (world : World) → HasArrays store stale → AreMarked store (map first_mark stale.shapes) objects world
first_marked store stale objects world has array mark at plain c field inside outside =
    absurd (not_faced found.0.faces (ap (λ (m : Mark). m.external) found.2 ∙ plain) (subst (λ (s : Shaped). IsSome s.faces) (shape_there store.shapes stale.shapes array found.0 has.shapes found.1) field.faced))
  where
    found : (shape : Shape) × (slice_get stale.shapes array ≡ Some shape) × (first_mark shape ≡ mark)
    found = of_mapped first_mark (slice_get stale.shapes array) mark (sym (slice_get-map first_mark stale.shapes array) ∙ at)

-- the array, its shape and its mark before, of a mark after
record WasMarked (does : Action) (array : ℕ) (ss : List Shape) (ms : List Mark) (k : ℕ) (mark : Mark) : Type 0 where
  shape : Shape
  before : Mark
  at_s : slice_get ss k ≡ Some shape
  at_m : slice_get ms k ≡ Some before
  is : mark_after does array shape before ≡ mark

was_marked : (does : Action) (first : ℕ) (ss : List Shape) (ms : List Mark) (k j : ℕ) (mark : Mark) → j ≡ first + k → slice_get (marks_after does first ss ms) k ≡ Some mark → WasMarked does j ss ms k mark
was_marked does first [] ms k j mark place at = cc
was_marked does first (s ∷ ss) [] k j mark place at = cc
was_marked does first (s ∷ ss) (m ∷ ms) zero j mark place at =
    let here : first ≡ j = omega (arith, place) in
    record { shape = s; before = m; at_s = refl; at_m = refl; is = ap (λ (i : ℕ). mark_after does i s m) (sym here) ∙ same_Some (mark_after does first s m) mark at }
was_marked does first (s ∷ ss) (m ∷ ms) (suc k) j mark place at =
    let later = was_marked does (suc first) ss ms k j mark (omega (arith, place)) at in
    record { shape = later.shape; before = later.before; at_s = later.at_s; at_m = later.at_m; is = later.is }

-- what an unmarked array was
unmarked : (faces target marked needed : Bool) → (faces && (if target then true else (marked && not needed))) ≡ false → (faces ≡ false) ⊎ ((target ≡ false) × ((marked ≡ false) ⊎ (needed ≡ true)))
unmarked false target marked needed e = inl refl
unmarked true true marked needed e = absurd (false≢true (sym e))
unmarked true false false needed e = inr (refl, inl refl)
unmarked true false true true e = inr (refl, inr refl)
unmarked true false true false e = absurd (false≢true (sym e))

-- after an action and its fills each field is marked that is not fresh, where those that are not its target stay fresh
pub still_marked : HasLaws → (store : Stored) (stale : Staled) (number : ℕ) (does : Action) (objects now : List Numbered) (world next : World) → CanFill store stale objects world → ((array : ℕ) → is_target does array ≡ false → IsFresh store.shapes store.layouts (filled store stale number does objects).objects world array → IsFresh store.shapes store.layouts now next array) → AreMarked store (marks_after does 0 stale.shapes stale.marks) now next
still_marked laws store stale number does objects now world next can others array mark at plain =
    ⊎_elim
    (λ none c field inside outside. absurd (not_faced was.shape.faces none (subst (λ (s : Shaped). IsSome s.faces) (shape_there store.shapes stale.shapes array was.shape can.has.shapes was.at_s) field.faced)))
    (λ kept. others array kept.0
    (⊎_elim (λ fresh. all.kept array (can.marks array was.before was.at_m fresh)) (λ needed. all.needed array was.shape was.before was.at_s was.at_m needed) kept.1))
    (unmarked (is_some was.shape.faces) (is_target does array) was.before.external (is_needed does array was.shape was.before) (ap (λ (m : Mark). m.external) was.is ∙ plain))
  where
    all : IsFreshened store stale does objects world (filled store stale number does objects)
    all = freshened laws store stale number does objects world can

    was : WasMarked does array stale.shapes stale.marks array mark
    was = was_marked does 0 stale.shapes stale.marks array array mark (omega arith) at

-- there are as many marks after an action as there are arrays
pub as_many_after : (does : Action) (first : ℕ) (ss : List Shape) (ms : List Mark) → length ms ≡ length ss → length (marks_after does first ss ms) ≡ length ss
as_many_after does first [] ms same = refl
as_many_after does first (s ∷ ss) [] same = absurd (omega (arith, same))
as_many_after does first (s ∷ ss) (m ∷ ms) same = ap suc (as_many_after does (suc first) ss ms (omega (arith, same)))
