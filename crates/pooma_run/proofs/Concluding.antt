-- What a statement comes to once its works are done.
use Rattle.std.proofs.Common.{◌≡◌, ◌∙◌, refl, sym, ap, subst, ℕ, suc, ◌+◌, ◌<◌, true, false, None, Some, Ok, Err, List, [], ◌∷◌, ◌++◌, drop, length, map, add-one, append_assoc, append-nil, arith}
use Rattle.std.specs.Prelude.{ℤ, pos, All, Option, slice_index_or, slice_set}
use Rattle.std.proofs.lemmas.List.{get_or_default, length-set}
use Rattle.std.proofs.lemmas.List.Elements.{All-set}
use Rattle.pooma_domain.specs.Cells.{Interval, IsIn}
use Rattle.pooma_expr.specs.declared.reduction.Reduction.{Reduction}
use Rattle.pooma_expr.specs.declared.tree.Expr.{Expr}
use Rattle.pooma_expr.specs.Reductions.{AllFit, result_over}
use Rattle.pooma_expr.specs.Words.{IsWord}
use Rattle.pooma_field.specs.Numbered.{Numbered}
use Rattle.pooma_field.specs.Worlds.{World, scalar_of, with_scalar}
use Rattle.pooma_layout.specs.Axes.{CutAxis}
use Rattle.pooma_machine.specs.Machine.{FitsShapes}
use Rattle.pooma_model.specs.declared.statement.Action.{Action}
use Rattle.pooma_model.specs.declared.statement.Action.TheVariants as action
use Rattle.pooma_model.specs.declared.statement.Statement.{Statement}
use Rattle.pooma_model.specs.Assigning.{Becomes, Fault, Faults, Sum}
use Rattle.pooma_model.specs.Declarations.{Declared, seen_in}
use Rattle.pooma_model.specs.Fit.{IsFit}
use Rattle.pooma_model.specs.Order.{Programmed}
use Rattle.pooma_model.specs.Reducing.{scalar_given}
use Rattle.pooma_model.specs.Serial.{effect_of, go_on, printed, serial, serial_of}
use Rattle.pooma_model.specs.Texts.{fault_text, row_text, view_text}
use Rattle.pooma_num.specs.declared.fault.FaultKind.{FaultKind}
use Rattle.pooma_piece.specs.declared.outcome.Outcome.{Outcome}
use Rattle.pooma_piece.specs.Meaning.{pieces}
use Rattle.pooma_piece.specs.Pieces.{Pieced}
use Rattle.pooma_piece.specs.Plans.{Faulted}
use Rattle.pooma_split.specs.Splits.{declared_in}
use Rattle.pooma_split.specs.Statements.{done_in_order, fault_among}
use Rattle.pooma_store.specs.Numbering.{areas_of, object_count}
use Rattle.pooma_store.specs.Standing.{HasTotal, OwnerHas}
use Rattle.pooma_view.specs.Slots.{cell_named, positions_of}
use Rattle.pooma_view.specs.Views.{Viewed}
use Rattle.pooma_run.specs.Gathered.{HasLaws}
use Rattle.pooma_run.specs.Outcomes.{AreValues, joined, value_of}
use Rattle.pooma_run.specs.Plan.{ends_window, fault_of_run, fault_or_later, first_to_fault}
use Rattle.pooma_run.specs.Showing.{CanShow, OwnersHave}
use Rattle.pooma_run.specs.Underway.{AddedBy, ArePending, EndsBy, GoesOn, IsAdded, IsConcluding, IsDone, IsHere, IsOf, IsUnderway, Kept, StandsBy, behind, completed, left}
use Rattle.pooma_window.specs.Windows.{AsksWithin}
use Rattle.pooma_run.proofs.Standing.{has_total, owner_shows}

-- the rest of the statements behind one that leaves a world
goes_next : (program : Programmed) (kept now : Kept) (number : ℕ) (s : Statement) (rest : List Statement) (world new : World) → GoesOn program kept number (s ∷ rest) world
    → effect_of program.declared s.action world ≡ Becomes new → now.bytes ≡ kept.bytes ++ printed program.declared s.action world → new.scalars ≡ now.scalars
    → GoesOn program now (number + 1) rest new
goes_next program kept now number s rest world new goes effect bytes scalars =
    let more : List ℕ = printed program.declared s.action world in
    let later : List ℕ = (serial program.declared rest new).bytes in
    record {
      run = goes.run
          ∙ ap (λ e. behind kept.bytes (go_on s.line more e (serial program.declared rest))) effect
          ∙ ap (λ (bs : List ℕ). record { bytes = bs; faulted = (serial program.declared rest new).faulted })
          (sym (append_assoc kept.bytes more later) ∙ ap (λ (bs : List ℕ). bs ++ later) (sym bytes));
      first = goes.first
          ∙ ap (λ e. fault_or_later e number (first_to_fault program.declared (suc number) rest)) effect
          ∙ ap (λ n. first_to_fault program.declared n rest new) (sym (add-one number));
      scalars = scalars;
    }

-- it prints nothing
same_bytes : (declared : Declared) (does other : Action) (world : World) (bytes : List ℕ) → does ≡ other → printed declared other world ≡ [] → bytes ≡ bytes ++ printed declared does world
same_bytes declared does other world bytes is none = sym (append-nil bytes) ∙ ap (λ (bs : List ℕ). bytes ++ bs) (sym (ap (λ a. printed declared a world) is ∙ none))

-- an assignment goes on in the world that it makes
assigns_next : HasLaws → (program : Programmed) (kept : Kept) (number : ℕ) (s : Statement) (rest : List Statement) (objects : List Numbered) (world : World) (outcomes : List Outcome)
    (target : Viewed) (value : Expr) (mask : Option Expr) → s.action ≡ action.Assign target value mask → GoesOn program kept number (s ∷ rest) world
    → IsDone program.declared kept.stale.marks objects world s.action outcomes
    → (new : World) × GoesOn program kept (number + 1) rest new × IsHere program.declared kept.stale.marks objects new
assigns_next laws program kept number s rest objects world outcomes target value mask is goes done =
    let made = subst (λ a. IsDone program.declared kept.stale.marks objects world a outcomes) is done in (
      made.0,
      goes_next program kept kept number s rest world made.0 goes
          (ap (λ a. effect_of program.declared a world) is ∙ made.1)
          (same_bytes program.declared s.action (action.Assign target value mask) world kept.bytes is refl)
          (laws.worlds.scalars program.declared target value mask world made.0 made.1 ∙ goes.scalars),
      made.2,
    )

-- what is pending goes on where it was, behind an assignment without a window
pub went_on : HasLaws → (program : Programmed) (kept : Kept) (number : ℕ) (s : Statement) (outcomes : List Outcome)
    → IsAdded program kept number s outcomes → ends_window s.action ≡ false → IsUnderway program kept (number + 1)
went_on laws program kept number s outcomes added none = by s.action refl none
  where
    rest : List Statement
    rest = drop (number + 1) program.order

    on : (target : Viewed) (value : Expr) (mask : Option Expr) → s.action ≡ action.Assign target value mask → (found : Option Faulted)
        → AddedBy program kept number s outcomes found → StandsBy program kept (number + 1) rest found
    on target value mask is (Some fault) ended = ended
    on target value mask is None (world, goes, done) = assigns_next laws program kept number s rest (left kept).objects world outcomes target value mask is goes done

    by : (does : Action) → s.action ≡ does → ends_window does ≡ false → IsUnderway program kept (number + 1)
    by (action.Assign target value mask) is e =
        record { of = added.of; pending = added.pending; stands = on target value mask is (fault_among kept.pending (left kept)) added.stands }
    by (action.Reduce scalar reduction positions value) is e = absurd (cc)
    by (action.PrintView view) is e = absurd (cc)
    by (action.PrintScalar scalar) is e = absurd (cc)
    by action.Block is e = absurd (cc)

-- a fault among the pending works ends the run
pub ended_by : (program : Programmed) (kept : Kept) (number : ℕ) (s : Statement) (outcomes : List Outcome) (fault : Faulted)
    → IsAdded program kept number s outcomes → fault_among kept.pending (left kept) ≡ Some fault → EndsBy program kept fault
ended_by program kept number s outcomes fault added is = subst (AddedBy program kept number s outcomes) is added.stands

pub ended_at_last : (program : Programmed) (kept : Kept) (number : ℕ) (fault : Faulted)
    → IsUnderway program kept number → fault_among kept.pending (left kept) ≡ Some fault → EndsBy program kept fault
ended_at_last program kept number fault underway is = subst (StandsBy program kept number (drop number program.order)) is underway.stands

-- and where there is none behind the last statement, it ends without one
pub ran_whole : (program : Programmed) (kept : Kept) (number : ℕ)
    → IsUnderway program kept number → drop number program.order ≡ [] → fault_among kept.pending (left kept) ≡ None
    → (serial_of program ≡ record { bytes = kept.bytes; faulted = false }) × (fault_of_run program ≡ None)
ran_whole program kept number underway last none =
    let here = subst (StandsBy program kept number (drop number program.order)) none underway.stands in (
      here.1.run
          ∙ ap (λ (rest : List Statement). behind kept.bytes (serial program.declared rest here.0)) last
          ∙ ap (λ (bs : List ℕ). record { bytes = bs; faulted = false }) (append-nil kept.bytes),
      here.1.first ∙ ap (λ (rest : List Statement). first_to_fault program.declared number rest here.0) last,
    )

-- once the pending works were completed without a fault
pub concluding : (program : Programmed) (kept : Kept) (number : ℕ) (s : Statement) (outcomes : List Outcome)
    → IsAdded program kept number s outcomes → fault_among kept.pending (left kept) ≡ None → IsConcluding program (completed kept) number s outcomes
concluding program kept number s outcomes added none =
    let here = subst (AddedBy program kept number s outcomes) none added.stands in
    record {
      of = record {
        declared = added.of.declared;
        in_store = added.of.in_store;
        arrays = added.of.arrays;
        as_many = added.of.as_many;
        constants = added.of.constants;
        home = added.of.home;
        words = added.of.words;
      };
      fit = added.fit;
      none = refl;
      world = here.0;
      goes = record { run = here.1.run; first = here.1.first; scalars = here.1.scalars };
      done = here.2;
    }

-- where nothing is pending
none_of : (P : Pieced → Type 0) → All P []
none_of P k d within = absurd (omega arith)

none_pending : (declared : Declared) (number : ℕ) → ArePending declared number []
none_pending declared number = record {
  there = none_of (AsksWithin pieces (object_count declared.layouts));
  fits = none_of (FitsShapes pieces (areas_of declared.layouts));
  before = none_of (λ piece. piece.statement < number);
}

pub at_rest : (program : Programmed) (kept : Kept) (number : ℕ) (world : World) → IsOf program kept → kept.pending ≡ [] → GoesOn program kept number (drop number program.order) world
    → IsHere program.declared kept.stale.marks kept.store.objects world → IsUnderway program kept number
at_rest program kept number world of none goes here =
    let no_fault : fault_among kept.pending (left kept) ≡ None = ap (λ (ps : List Pieced). fault_among ps (done_in_order ps kept.store.objects)) none in
    let same : (left kept).objects ≡ kept.store.objects = ap (λ (ps : List Pieced). (done_in_order ps kept.store.objects).objects) none in
    record {
      of = of;
      pending = subst (ArePending program.declared number) (sym none) (none_pending program.declared number);
      stands = subst (StandsBy program kept number (drop number program.order)) (sym no_fault)
          (world, goes, subst (λ (os : List Numbered). IsHere program.declared kept.stale.marks os world) (sym same) here);
    }

-- what was written does not matter to what never changes
with_bytes : (program : Programmed) (kept : Kept) (bytes : List ℕ) → IsOf program kept → IsOf program (record kept { bytes = bytes })
with_bytes program kept bytes of = record {
  declared = of.declared;
  in_store = of.in_store;
  arrays = of.arrays;
  as_many = of.as_many;
  constants = of.constants;
  home = of.home;
  words = of.words;
}

module _ (laws : HasLaws) (program : Programmed) (kept : Kept) (number : ℕ) (s : Statement) (outcomes : List Outcome) (here : IsConcluding program kept number s outcomes) where
  abbrev rest : List Statement
  rest = drop (number + 1) program.order

  -- what it did, where this is its action
  done_as : (does : Action) → s.action ≡ does → IsDone program.declared kept.stale.marks kept.store.objects here.world does outcomes
  done_as does is = subst (λ a. IsDone program.declared kept.stale.marks kept.store.objects here.world a outcomes) is here.done

  fit_as : (does : Action) → s.action ≡ does → IsFit program.declared does
  fit_as does is = subst (IsFit program.declared) is here.fit

  scalars_are : length kept.scalars ≡ program.declared.scalars
  scalars_are = ap (λ (d : Declared). d.scalars) here.of.in_store

  pub concluded_assign : (target : Viewed) (value : Expr) (mask : Option Expr) → s.action ≡ action.Assign target value mask → IsUnderway program kept (number + 1)
  concluded_assign target value mask is =
      let next = assigns_next laws program kept number s rest kept.store.objects here.world outcomes target value mask is here.goes here.done in
      at_rest program kept (number + 1) next.0 here.of here.none next.1 next.2

  pub concluded_block : s.action ≡ action.Block → IsUnderway program kept (number + 1)
  concluded_block is =
      at_rest program kept (number + 1) here.world here.of here.none
      (goes_next program kept kept number s rest here.world here.world here.goes (ap (λ a. effect_of program.declared a here.world) is)
      (same_bytes program.declared s.action action.Block here.world kept.bytes is refl) here.goes.scalars)
      (done_as action.Block is)

  -- a reduction: what its pieces answered, and its number or its fault
  pub answered : (scalar : ℕ) (reduction : Reduction) (positions : List Interval) (value : Expr) → s.action ≡ action.Reduce scalar reduction positions value
      → AreValues reduction outcomes × (scalar < length kept.scalars)
  answered scalar reduction positions value is = (
    (done_as (action.Reduce scalar reduction positions value) is).1.values,
    subst (λ n. scalar < n) (sym scalars_are) (fit_as (action.Reduce scalar reduction positions value) is).there,
  )

  pub concluded_number : (scalar : ℕ) (reduction : Reduction) (positions : List Interval) (value : Expr) (n : ℤ) → s.action ≡ action.Reduce scalar reduction positions value
      → IsWord n → ((lists : List (List ℤ)) → outcomes ≡ map (value_of reduction) lists → AllFit (joined lists) → Ok n ≡ result_over reduction (joined lists))
      → IsUnderway program (record kept { scalars = slice_set kept.scalars scalar n }) (number + 1)
  concluded_number scalar reduction positions value n is word result =
      let done = done_as (action.Reduce scalar reduction positions value) is in
      let now : Kept = record kept { scalars = slice_set kept.scalars scalar n } in
      let new : World = with_scalar here.world scalar n in
      let effect : effect_of program.declared s.action here.world ≡ Becomes new =
      ap (λ a. effect_of program.declared a here.world) is ∙ done.1.comes
      ∙ ap (scalar_given here.world scalar) (sym (result done.1.values.lists done.1.values.are done.1.fit)) in
      at_rest program now (number + 1) new
      (record {
        declared = here.of.declared;
        in_store = ap (declared_in kept.store) (length-set kept.scalars scalar n) ∙ here.of.in_store;
        arrays = here.of.arrays;
        as_many = here.of.as_many;
        constants = here.of.constants;
        home = here.of.home;
        words = All-set IsWord kept.scalars scalar n word here.of.words;
      })
      here.none
      (goes_next program kept now number s rest here.world new here.goes effect
      (same_bytes program.declared s.action (action.Reduce scalar reduction positions value) here.world kept.bytes is refl)
      (ap (λ (xs : List ℤ). slice_set xs scalar n) here.goes.scalars))
      (record {
        world_of = laws.worlds.next program.declared s.action here.world new done.0.world_of effect;
        objects_are = done.0.objects_are;
        stands = done.0.stands;
        fresh = λ array mark at off c field inside beside. done.0.fresh array mark at off c (record { faced = field.faced; known = field.known }) inside beside;
        words = done.0.words;
      })

  pub concluded_sum : (scalar : ℕ) (reduction : Reduction) (positions : List Interval) (value : Expr) (kind : FaultKind) → s.action ≡ action.Reduce scalar reduction positions value
      → ((lists : List (List ℤ)) → outcomes ≡ map (value_of reduction) lists → AllFit (joined lists) → Err kind ≡ result_over reduction (joined lists))
      → (serial_of program ≡ record { bytes = kept.bytes ++ fault_text s.line (record { place = Sum; kind = kind }); faulted = true }) × (fault_of_run program ≡ Some number)
  concluded_sum scalar reduction positions value kind is result =
      let done = done_as (action.Reduce scalar reduction positions value) is in
      let fault : Fault = record { place = Sum; kind = kind } in
      let effect : effect_of program.declared s.action here.world ≡ Faults fault =
      ap (λ a. effect_of program.declared a here.world) is ∙ done.1.comes
      ∙ ap (scalar_given here.world scalar) (sym (result done.1.values.lists done.1.values.are done.1.fit)) in (
        here.goes.run ∙ ap (λ e. behind kept.bytes (go_on s.line (printed program.declared s.action here.world) e (serial program.declared rest))) effect,
        here.goes.first ∙ ap (λ e. fault_or_later e number (first_to_fault program.declared (suc number) rest)) effect,
      )

  -- a print of a view: it can be shown, and its text follows
  layouts_are : kept.store.layouts ≡ program.declared.layouts
  layouts_are = ap (λ (d : Declared). d.layouts) here.of.in_store

  pub can_show : (view : Viewed) → s.action ≡ action.PrintView view → (p : List ℤ) → IsIn (positions_of view.slots) p → CanShow kept.store view p
  can_show view is p at = record {
    home = here.of.home;
    position = at;
    cell = subst (λ (layouts : List (List CutAxis)). HasTotal layouts view.array (cell_named view.slots p)) (sym layouts_are)
        (has_total program.declared view p here.of.arrays (fit_as (action.PrintView view) is).readable at);
  }

  owners_show : (view : Viewed) → s.action ≡ action.PrintView view → OwnersHave kept.store view (λ p. seen_in program.declared here.world view (cell_named view.slots p))
  owners_show view is p at =
      let done = done_as (action.PrintView view) is in
      subst (λ (layouts : List (List CutAxis)). OwnerHas layouts kept.store.objects view.array (cell_named view.slots p) (seen_in program.declared here.world view (cell_named view.slots p))) (sym layouts_are)
      (owner_shows laws.worlds program.declared kept.stale.marks kept.store.objects here.world view done.0 (fit_as (action.PrintView view) is).readable done.1 p at)

  pub concluded_view : (view : Viewed) (bytes : List ℕ) → s.action ≡ action.PrintView view
      → ((n : List ℤ → ℤ) → OwnersHave kept.store view n → bytes ≡ kept.bytes ++ view_text n (positions_of view.slots))
      → IsUnderway program (record kept { bytes = bytes }) (number + 1)
  concluded_view view bytes is text =
      let now : Kept = record kept { bytes = bytes } in
      at_rest program now (number + 1) here.world
      (with_bytes program kept bytes here.of)
      here.none
      (goes_next program kept now number s rest here.world here.world here.goes (ap (λ a. effect_of program.declared a here.world) is)
      (text (λ p. seen_in program.declared here.world view (cell_named view.slots p)) (owners_show view is)
      ∙ ap (λ (bs : List ℕ). kept.bytes ++ bs) (sym (ap (λ a. printed program.declared a here.world) is)))
      here.goes.scalars)
      (done_as (action.PrintView view) is).0

  -- a print of a scalar
  pub scalar_there : (scalar : ℕ) → s.action ≡ action.PrintScalar scalar → scalar < length kept.scalars
  scalar_there scalar is = subst (λ n. scalar < n) (sym scalars_are) (fit_as (action.PrintScalar scalar) is)

  pub concluded_scalar : (scalar : ℕ) (d : ℤ) → s.action ≡ action.PrintScalar scalar
      → IsUnderway program (record kept { bytes = kept.bytes ++ row_text (slice_index_or kept.scalars scalar d ∷ []) }) (number + 1)
  concluded_scalar scalar d is =
      let now : Kept = record kept { bytes = kept.bytes ++ row_text (slice_index_or kept.scalars scalar d ∷ []) } in
      let same : slice_index_or kept.scalars scalar d ≡ scalar_of here.world scalar =
      get_or_default kept.scalars scalar d (pos 0) (scalar_there scalar is) ∙ ap (λ (xs : List ℤ). slice_index_or xs scalar (pos 0)) (sym here.goes.scalars) in
      at_rest program now (number + 1) here.world
      (with_bytes program kept (kept.bytes ++ row_text (slice_index_or kept.scalars scalar d ∷ [])) here.of)
      here.none
      (goes_next program kept now number s rest here.world here.world here.goes (ap (λ a. effect_of program.declared a here.world) is)
      (ap (λ (n : ℤ). kept.bytes ++ row_text (n ∷ [])) same
      ∙ ap (λ (bs : List ℕ). kept.bytes ++ bs) (sym (ap (λ a. printed program.declared a here.world) is)))
      here.goes.scalars)
      (done_as (action.PrintScalar scalar) is)
