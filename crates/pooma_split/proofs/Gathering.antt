-- What the pieces of a reduction come to.
use Rattle.std.proofs.Common.{refl, sym, ap, ◌∙◌, subst, inl, inr, ⊎_elim, arith, get_or, append_assoc}
use Rattle.std.proofs.lemmas.List.{append-nil}
use Rattle.std.proofs.lemmas.Option.{get_or_from_slice_get, slice_get-get_or}
use Rattle.std.proofs.lemmas.List.Sorted.{All-permutation}
use Rattle.std.specs.List.{filter_map}
use Rattle.std.specs.List.Sorted.{IsPermutation}
use Rattle.std.specs.Int.{w64}
use Rattle.std.specs.Prelude.{◌≡◌, ◌⊎◌, ℕ, FitsSigned, ◌<◌, ℤ, Bool, true, false, None, Some, List, [], ◌∷◌, ◌++◌, length, map, fold, slice_get, All, Contains}
use Rattle.pooma_logic.proofs.Members.{Member, contains_of, member_of}
use Rattle.pooma_domain.specs.Cells.{Interval, cells_of, IsIn}
use Rattle.pooma_view.specs.Slots.{cell_named}
use Rattle.pooma_view.specs.Views.{Viewed}
use Rattle.pooma_field.specs.Numbered.{Numbered}
use Rattle.pooma_field.specs.Shapes.{own_area}
use Rattle.pooma_field.specs.Worlds.{World}
use Rattle.pooma_expr.specs.declared.reduction.Reduction.{Reduction}
use Rattle.pooma_expr.specs.declared.tree.Expr.{Expr}
use Rattle.pooma_expr.specs.Reductions.{AllFit}
use Rattle.pooma_expr.specs.Trees.{bound, views_of}
use Rattle.pooma_expr.specs.Values.{Checked, Contents}
use Rattle.pooma_expr.specs.Words.{IsWord, literals_fit}
use Rattle.pooma_expr.proofs.Bound.{value_bound, views_bound}
use Rattle.pooma_expr.proofs.Words.{AnswersWord, index_word, place_word, value_word}
use Rattle.pooma_machine.specs.Values.{Lent, lent_by, new_value_of, outcome_of, put_back, written_object}
use Rattle.pooma_law.specs.Ser.{Results, at_first, with_work}
use Rattle.pooma_model.specs.declared.statement.Action.TheVariants as action
use Rattle.pooma_model.specs.Assigning.{given_at}
use Rattle.pooma_model.specs.Declarations.{Declared, seen_in, shape_at, value_in}
use Rattle.pooma_model.specs.Fit.{IsReduceFit}
use Rattle.pooma_model.specs.Midway.{SeesMidway}
use Rattle.pooma_model.specs.Partitions.{IsPartition, fault_at, numbers_at, numbers_in_turn}
use Rattle.pooma_model.specs.Parts.{parts_of}
use Rattle.pooma_model.specs.Reducing.{reduced}
use Rattle.pooma_store.specs.Numbering.{object_count}
use Rattle.pooma_store.proofs.OwnerNumbers.{objects_counted}
use Rattle.pooma_piece.specs.declared.outcome.Outcome.{Outcome}
use Rattle.pooma_piece.specs.declared.outcome.Outcome.TheVariants.{Value}
use Rattle.pooma_piece.specs.declared.task.Task.TheVariants as task
use Rattle.pooma_piece.specs.Effects.{first_fault_or, kept_of, numbers_over, value_at}
use Rattle.pooma_piece.specs.Lent.{is_in, number_in}
use Rattle.pooma_piece.specs.Meaning.{pieces}
use Rattle.pooma_piece.specs.Pieces.{Pieced, requests_of}
use Rattle.pooma_piece.specs.Plans.{or_earlier, plan_fault}
use Rattle.pooma_piece.specs.Words.{AllWords}
use Rattle.pooma_piece.proofs.Areas.{passes_in}
use Rattle.pooma_piece.proofs.Naming.{written_is}
use Rattle.pooma_piece.proofs.Seen.{is_in_is}
use Rattle.pooma_piece.proofs.Words.{number_word, object_words}
use Rattle.pooma_split.specs.Gathered.{HasLaws}
use Rattle.pooma_split.specs.Splits.{CanSplit, IsPlaced, object_for, piece_of, pieces_of}
use Rattle.pooma_split.specs.Statements.{GathersTo, Stands, as_fault, done_in_order, fault_among, value_over}
use Rattle.pooma_split.proofs.Agreeing.{AgreeOn, same_first, same_numbers}
use Rattle.pooma_split.proofs.Boxes.{part_within}
use Rattle.pooma_split.proofs.Counting.{numbers_counted}
use Rattle.pooma_split.proofs.Ending.{all_long, no_fault, statements_are}
use Rattle.pooma_split.proofs.Faulting.{fault_for, faults_are, judged}
use Rattle.pooma_split.proofs.Lending.{lent_of_view}
use Rattle.pooma_split.proofs.Owning.{same_object}
use Rattle.pooma_split.proofs.Piecing.{IsWithin}
use Rattle.pooma_split.proofs.Placing.{reduce_splits}
use Rattle.pooma_split.proofs.Seeing.{has, sees}
use Rattle.pooma_split.proofs.Words.{numbers_word, turns_word}

in_or_out : (box : List Interval) (c : List ℤ) → IsIn box c ⊎ (¬ (IsIn box c))
in_or_out box c = by (is_in box c) refl
  where
    by : (b : Bool) → is_in box c ≡ b → IsIn box c ⊎ (¬ (IsIn box c))
    by true e = inl (is_in_is box c e)
    by false e = inr (λ h. let clash : false ≡ true = sym e ∙ passes_in box c h in cc)

module _ (laws : HasLaws) (declared : Declared) (number : ℕ) (scalar : ℕ) (reduction : Reduction) (positions : List Interval) (whole : Expr) (world : World) (fit : IsReduceFit declared scalar positions whole)
    (objects : List Numbered) (standing : Stands declared objects world (views_of whole)) where
  abbrev code : Expr
  code = bound world.scalars whole

  abbrev plan : List Pieced
  plan = pieces_of declared world.scalars number (action.Reduce scalar reduction positions whole)

  abbrev results : Results Numbered Outcome
  results = done_in_order plan objects

  abbrev all_boxes : List (List Interval)
  all_boxes = parts_of declared (views_of code) positions

  abbrev values : List ℤ → Checked
  values p = value_in declared world whole p

  -- what a box's piece answers where it has no fault
  abbrev kept_for : List Interval → Outcome
  kept_for box = Value (kept_of reduction (numbers_at values (cells_of box)))

  can : CanSplit declared (task.Reduce reduction) code positions
  can = reduce_splits declared standing.arrays reduction scalar positions whole world.scalars fit

  parts : IsPartition positions all_boxes
  parts = laws.partition declared (views_of code) positions

  counted : length objects ≡ object_count declared.layouts
  counted = objects_counted declared.layouts objects standing.objects_are

  module _ (box : List Interval) (here : Member all_boxes box) where
    within : IsWithin box positions
    within = part_within declared (views_of code) positions box parts fit.few_positions.box here

    abbrev work : Pieced
    work = piece_of declared number (task.Reduce reduction) code box

    abbrev given_to : Lent Numbered
    given_to = lent_by objects (requests_of (piece_of declared number (task.Reduce reduction) code box))

    abbrev seen : Contents
    seen = has declared standing.arrays positions box within number (task.Reduce reduction) code can objects counted

    sees_world : (p : List ℤ) → IsIn box p → All (λ view. seen view (cell_named view.slots p) ≡ seen_in declared world view (cell_named view.slots p)) (views_of whole)
    sees_world p inside j d below =
        let view = get_or (views_of whole) j d in
        let below_too : j < length (views_of code) = omega (arith, below, ap length (views_bound world.scalars whole)) in
        let same_view : get_or (views_of code) j d ≡ view = ap (λ views. get_or views j d) (views_bound world.scalars whole) in
        let there : slice_get (views_of code) j ≡ Some view = slice_get-get_or (views_of code) j d below_too ∙ ap Some same_view in
        let placed : IsPlaced declared positions view = subst (IsPlaced declared positions) same_view (can.views j d below_too) in
        let listed : Contains (views_of code) view = (j, below_too, get_or_from_slice_get (views_of code) j view view there) in
        let both : SeesMidway declared world world seen p view =
        sees declared standing.arrays positions box within number (task.Reduce reduction) code can objects counted world world j view p there placed
        (same_object declared (views_of code) positions view placed listed box (contains_of all_boxes box here) p inside)
        (within.inside p inside) standing.stands (standing.has j d below) (standing.has j d below) (standing.fresh j d below) in
        ⊎_elim
        (λ own. both.own own ∙ sym (laws.own declared world view (cell_named view.slots p) own))
        (λ out. both.external out)
        (in_or_out (own_area (shape_at declared view.array)) (cell_named view.slots p))

    agree : AgreeOn (value_at work given_to.written given_to.reads) values (cells_of box)
    agree p m =
        let inside : IsIn box p = (laws.cells.members box p).0 (contains_of (cells_of box) p m) in
        value_bound world.scalars whole seen p ∙ laws.by_reads world.scalars seen (seen_in declared world) whole p (sees_world p inside)

    outcome_is : outcome_of pieces work given_to ≡ first_fault_or values (cells_of box) (kept_for box)
    outcome_is =
        same_first (value_at work given_to.written given_to.reads) values (cells_of box) (Value (kept_of reduction (numbers_over (value_at work given_to.written given_to.reads) (cells_of box)))) agree
        ∙ ap (λ xs. first_fault_or values (cells_of box) (Value (kept_of reduction xs))) (same_numbers (value_at work given_to.written given_to.reads) values (cells_of box) agree)

    objects_stay : put_back objects (written_object (requests_of work)) (new_value_of pieces work given_to) ≡ objects
    objects_stay = ap (λ o. put_back objects o (new_value_of pieces work given_to)) (written_is None work.reads)

  abbrev answer_for : List Interval → Outcome
  answer_for box = first_fault_or values (cells_of box) (kept_for box)

  turn : (rest : List (List Interval)) (before : Results Numbered Outcome) → ((box : List Interval) → Member rest box → Member all_boxes box) → before.objects ≡ objects
      → (fold (with_work pieces) before (map (piece_of declared number (task.Reduce reduction) code) rest)).outcomes ≡ before.outcomes ++ map answer_for rest
  turn [] before listed same = sym (append-nil before.outcomes)
  turn (box ∷ rest) before listed same =
      let here : Member all_boxes box = listed box (inl refl) in
      let one = with_work pieces before (piece_of declared number (task.Reduce reduction) code box) in
      let stay : one.objects ≡ objects =
      ap (λ os. (with_work pieces (record { objects = os; outcomes = before.outcomes }) (piece_of declared number (task.Reduce reduction) code box)).objects) same ∙ objects_stay box here in
      let answer : outcome_of pieces (work box here) (lent_by before.objects (requests_of (work box here))) ≡ answer_for box =
      ap (λ os. outcome_of pieces (work box here) (lent_by os (requests_of (work box here)))) same ∙ outcome_is box here in
      turn rest one (λ b m. listed b (inr m)) stay
      ∙ append_assoc before.outcomes (outcome_of pieces (work box here) (lent_by before.objects (requests_of (work box here))) ∷ []) (map answer_for rest)
      ∙ ap (λ o. before.outcomes ++ o ∷ map answer_for rest) answer

  answers : results.outcomes ≡ map answer_for all_boxes
  answers = turn all_boxes (at_first objects) (λ box m. m) refl

  fault_is : fault_among plan results ≡ fold or_earlier None (filter_map (fault_for number values kept_for (λ box. refl)) all_boxes)
  fault_is =
      ap (λ outcomes. plan_fault (map (λ piece. piece.statement) plan) outcomes) answers
      ∙ ap (fold or_earlier None) (faults_are number values kept_for (λ box. refl) all_boxes (map (λ piece. piece.statement) plan) (statements_are declared number (task.Reduce reduction) code all_boxes))

  -- where no box has a fault, each piece answers what is kept of its numbers
  all_kept : (rest : List (List Interval)) → ((box : List Interval) → Member rest box → fault_at (given_at declared world whole None) (cells_of box) ≡ None) → map answer_for rest ≡ map (value_over reduction (λ box. numbers_at values (cells_of box))) rest
  all_kept [] none = refl
  all_kept (box ∷ rest) none =
      ap (λ o. o ∷ map answer_for rest) (no_fault values (cells_of box) (kept_for box) (none box (inl refl)))
      ∙ ap (λ os. kept_for box ∷ os) (all_kept rest (λ b m. none b (inr m)))

  pub reduce_gathers : GathersTo declared number world scalar reduction whole all_boxes (fault_among plan results) results.outcomes (reduced declared scalar reduction positions whole world)
  reduce_gathers =
      ⊎_elim
      (λ none.
      let all_at : (box : List Interval) → Member all_boxes box → fault_at (given_at declared world whole None) (cells_of box) ≡ None =
      λ box m. let there = contains_of all_boxes box m in subst (λ b. fault_at (given_at declared world whole None) (cells_of b) ≡ None) there.2 (none.1 there.0 box there.1) in
      subst (λ o. GathersTo declared number world scalar reduction whole all_boxes o results.outcomes (reduced declared scalar reduction positions whole world)) (sym (fault_is ∙ none.0)) (
        answers ∙ all_kept all_boxes all_at,
        λ order moved small. laws.finishes declared scalar reduction positions whole order world (laws.any_order positions all_boxes order moved parts) (in_order order moved none.1) small,
      ))
      (λ some.
      subst (λ o. GathersTo declared number world scalar reduction whole all_boxes o results.outcomes (reduced declared scalar reduction positions whole world)) (sym (fault_is ∙ some.1))
      (some.2, laws.reduction_faults declared scalar reduction positions whole all_boxes world (as_fault some.0) parts some.3))
      (judged number values kept_for (λ box. refl) (length positions) all_boxes (all_long laws positions all_boxes parts))
    where
      in_order : (order : List (List Interval)) → IsPermutation all_boxes order → All (λ box. fault_at (given_at declared world whole None) (cells_of box) ≡ None) all_boxes → All (λ box. fault_at (given_at declared world whole None) (cells_of box) ≡ None) order
      in_order order moved none = All-permutation (λ box. fault_at (given_at declared world whole None) (cells_of box) ≡ None) all_boxes order moved none

  -- where no piece answered a fault there are as many numbers as positions
  pub all_counted : fault_among plan results ≡ None → length (numbers_in_turn values all_boxes) ≡ length (cells_of positions)
  all_counted faultless =
      ⊎_elim
      (λ none. numbers_counted values laws positions all_boxes parts none.1)
      (λ some. let clash : None ≡ Some some.0 = sym faultless ∙ fault_is ∙ some.1 in cc)
      (judged number values kept_for (λ box. refl) (length positions) all_boxes (all_long laws positions all_boxes parts))

  -- numbers of objects, as the pieces of a box see them
  module _ (words : AllWords objects) (few : All IsWord world.scalars) (literals : literals_fit whole ≡ true) where
    module _ (box : List Interval) (here : Member all_boxes box) where
      abbrev had : Contents
      had view c = number_in (slice_get objects (object_for declared box view)) c

      had_word : (view : Viewed) (c : List ℤ) → FitsSigned w64 (had view c)
      had_word view c = number_word (slice_get objects (object_for declared box view)) (object_words objects (object_for declared box view) words) c

      had_world : (p : List ℤ) → IsIn box p → All (λ view. had view (cell_named view.slots p) ≡ seen_in declared world view (cell_named view.slots p)) (views_of whole)
      had_world p inside j d less =
          let view = get_or (views_of whole) j d in
          let less_too : j < length (views_of code) = omega (arith, less, ap length (views_bound world.scalars whole)) in
          let there : slice_get (views_of code) j ≡ Some view = slice_get-get_or (views_of code) j d less_too ∙ ap Some (ap (λ views. get_or views j d) (views_bound world.scalars whole)) in
          ap (λ o. number_in o (cell_named view.slots p)) (sym (lent_of_view declared positions box (within box here) number (task.Reduce reduction) code can objects counted j view there))
          ∙ sees_world box here p inside j d less

      box_words : AllFit (numbers_at values (cells_of box))
      box_words = numbers_word values (cells_of box)
          (λ p m.
          let inside : IsIn box p = (laws.cells.members box p).0 (contains_of (cells_of box) p m) in
          subst AnswersWord (laws.by_reads world.scalars had (seen_in declared world) whole p (had_world p inside))
          (value_word world.scalars had p (index_word world.scalars few) (place_word positions p fit.few_positions.box.whole ((within box here).inside p inside)) had_word whole literals))

    pub order_words : (order : List (List Interval)) → IsPermutation all_boxes order → AllFit (numbers_in_turn values order)
    order_words order moved =
        turns_word values order (All-permutation (λ box. AllFit (numbers_at values (cells_of box))) all_boxes order moved
        (λ j d less. box_words (get_or all_boxes j d) (member_of all_boxes (get_or all_boxes j d) (j, less, get_or_from_slice_get all_boxes j (get_or all_boxes j d) (get_or all_boxes j d) (slice_get-get_or all_boxes j d less)))))
