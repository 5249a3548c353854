-- What the works of one statement make of a world, done on objects that stand for it.
use Rattle.std.proofs.Common.{◌≡◌, ◌∙◌, refl, sym, ap, subst, inl, inr, ℕ, ◌^◌, ◌≤◌, true, false, Option, None, Some, List, [], ◌∷◌, ◌++◌, length, map, arith}
use Rattle.std.specs.Prelude.{◌≢◌, ◌==◌, ℤ, IsTrue, All, flat_map}
use Rattle.std.proofs.lemmas.Bool.Decides.{eqb_tells}
use Rattle.std.proofs.lemmas.List.Elements.{All-head}
use Rattle.std.proofs.lemmas.List.Sorted.{IsPermutation-refl}
use Rattle.pooma_domain.specs.Cells.{Interval, cells_of}
use Rattle.pooma_view.specs.Views.{Viewed}
use Rattle.pooma_field.specs.Numbered.{Numbered}
use Rattle.pooma_field.specs.ShapeOf.{shape_of}
use Rattle.pooma_field.specs.Worlds.{World}
use Rattle.pooma_expr.specs.declared.reduction.Reduction.{Reduction}
use Rattle.pooma_expr.specs.declared.tree.Expr.{Expr}
use Rattle.pooma_expr.specs.Reductions.{AllFit, result_over}
use Rattle.pooma_expr.specs.Trees.{bound, views_of}
use Rattle.pooma_expr.specs.Words.{IsWord}
use Rattle.pooma_law.specs.Ser.{Results}
use Rattle.pooma_model.specs.declared.statement.Action.{Action}
use Rattle.pooma_model.specs.declared.statement.Action.TheVariants as action
use Rattle.pooma_model.specs.Assigning.{Becomes, Faults, assigned, whole_value}
use Rattle.pooma_model.specs.Declarations.{Declared, value_in}
use Rattle.pooma_model.specs.Fit.{IsFit}
use Rattle.pooma_model.specs.Partitions.{numbers_at}
use Rattle.pooma_model.specs.Parts.{parts_of}
use Rattle.pooma_model.specs.Reducing.{reduced, scalar_given}
use Rattle.pooma_model.specs.Serial.{effect_of}
use Rattle.pooma_piece.specs.declared.outcome.Outcome.{Outcome}
use Rattle.pooma_piece.specs.declared.outcome.Outcome.TheVariants.{Done}
use Rattle.pooma_piece.specs.Pieces.{Pieced}
use Rattle.pooma_piece.specs.Plans.{Faulted}
use Rattle.pooma_piece.specs.Words.{AllWords, HaveWords}
use Rattle.pooma_fill.specs.Freshened.{CanFill}
use Rattle.pooma_fill.specs.Marks.{Staled, declared_of, fills_before, is_target}
use Rattle.pooma_split.specs.Splits.{pieces_of}
use Rattle.pooma_split.specs.Statements.{ComesTo, GathersTo, Stands, as_fault, done_in_order, fault_among, value_over}
use Rattle.pooma_split.specs.Words.{literals_fit_in}
use Rattle.pooma_store.specs.Standing.{IsFresh, IsFreshFor}
use Rattle.pooma_store.specs.Stored.{AreArrays}
use Rattle.pooma_run.specs.Gathered.{HasLaws}
use Rattle.pooma_run.specs.Outcomes.{joined, value_of}
use Rattle.pooma_run.specs.Plan.{stale_after}
use Rattle.pooma_run.specs.Underway.{Gathers, IsDone, IsHere}
use Rattle.pooma_run.proofs.Standing.{all_stands, can_fill, some_cell, store_of}

-- what boxes answer one after another
answers_are : (reduction : Reduction) (numbers : List Interval → List ℤ) (boxes : List (List Interval)) → map (value_over reduction numbers) boxes ≡ map (value_of reduction) (map numbers boxes)
answers_are reduction numbers [] = refl
answers_are reduction numbers (box ∷ boxes) = ap (λ os. value_over reduction numbers box ∷ os) (answers_are reduction numbers boxes)

joined_are : (numbers : List Interval → List ℤ) (boxes : List (List Interval)) → joined (map numbers boxes) ≡ flat_map numbers boxes
joined_are numbers [] = refl
joined_are numbers (box ∷ boxes) = ap (λ ns. numbers box ++ ns) (joined_are numbers boxes)

differs : (x y : ℕ) → x == y ≡ false → y ≢ x
differs x y e = elim (eqb_tells x y) [ inl same ↦ (λ is. let clash : true ≡ false = sym same.0 ∙ e in cc) | inr other ↦ (λ is. other.1 (sym is)) ]

-- a fault of the pieces is that of the statement
abbrev pub IsFaultOf : Declared → ℕ → Action → World → Faulted → Type 0
IsFaultOf declared number does world fault = (fault.statement ≡ number) × (effect_of declared does world ≡ Faults (as_fault fault))

abbrev pub ComesOut : Declared → Staled → ℕ → Action → World → List Numbered → List Outcome → Option Faulted → Type 0
ComesOut declared after number does world objects outcomes (Some fault) = IsFaultOf declared number does world fault
ComesOut declared after number does world objects outcomes None = IsDone declared after.marks objects world does outcomes

module _ (laws : HasLaws) (stale : Staled) (number : ℕ) (objects : List Numbered) (world : World) (arrays : AreArrays (map shape_of stale.shapes) stale.layouts)
    (as_many : length stale.marks ≡ length stale.shapes) (constants : All HaveWords stale.shapes) (here : IsHere (declared_of stale) stale.marks objects world) (words : All IsWord world.scalars) where
  abbrev declared : Declared
  declared = declared_of stale

  abbrev filled : Action → Results Numbered Outcome
  filled does = done_in_order (fills_before stale.layouts stale number does) objects

  abbrev made : Action → List Pieced
  made does = pieces_of declared world.scalars number does

  abbrev done : Action → Results Numbered Outcome
  done does = done_in_order (made does) (filled does).objects

  can : CanFill (store_of stale) stale objects world
  can = can_fill stale objects world arrays as_many here

  pub fills_answer : (does : Action) → All (λ outcome. outcome ≡ Done) (filled does).outcomes
  fills_answer does = laws.fills.done (store_of stale) stale number does objects world can

  filled_words : (does : Action) → AllWords (filled does).objects
  filled_words does = laws.fills.words (store_of stale) stale number does objects here.words constants

  -- a statement that leaves the objects as its fills left them
  left_here : (does : Action) (now : List Numbered) → now ≡ (filled does).objects → IsHere declared (stale_after stale does).marks now world
  left_here does now same = subst (λ os. IsHere declared (stale_after stale does).marks os world) (sym same) (record {
    world_of = here.world_of;
    objects_are = laws.fills.objects (store_of stale) stale number does objects world can;
    stands = laws.fills.stands (store_of stale) stale number does objects world can;
    fresh = laws.fills.after (store_of stale) stale number does objects (filled does).objects world world can (λ array other fresh. fresh);
    words = filled_words does;
  })

  -- an assignment
  module _ (target : Viewed) (value : Expr) (mask : Option Expr) (fit : IsFit declared (action.Assign target value mask)) (literals : IsTrue (literals_fit_in (action.Assign target value mask))) where
    abbrev assigns : Action
    assigns = action.Assign target value mask

    assign_stands : Stands declared (filled assigns).objects world (views_of (whole_value target value mask))
    assign_stands = all_stands declared (filled assigns).objects world (views_of (whole_value target value mask)) arrays here.world_of
        (laws.fills.objects (store_of stale) stale number assigns objects world can)
        (laws.fills.stands (store_of stale) stale number assigns objects world can)
        fit.value.views
        (laws.fills.whole (store_of stale) stale number target value mask objects world can fit)

    elsewhere : (new : World) (other : ℕ) → fault_among (made assigns) (done assigns) ≡ None → assigned declared target value mask world ≡ Becomes new → is_target assigns other ≡ false
        → IsFresh declared.shapes declared.layouts (filled assigns).objects world other → IsFresh declared.shapes declared.layouts (done assigns).objects new other
    elsewhere new other none becomes apart fresh =
        laws.pieces.elsewhere declared (filled assigns).objects world new number target value mask other fit assign_stands
        (laws.worlds.full declared world target here.world_of fit.writable) none becomes (differs target.array other apart) fresh

    assign_comes : (found : Option Faulted) → fault_among (made assigns) (done assigns) ≡ found
        → ComesOut declared (stale_after stale assigns) number assigns world (done assigns).objects (done assigns).outcomes found
    assign_comes found is =
        by found is (subst (λ f. ComesTo declared number f (done assigns) (assigned declared target value mask world)) is
        (laws.pieces.assigns declared (filled assigns).objects world number target value mask fit assign_stands (laws.worlds.full declared world target here.world_of fit.writable)))
      where
        by : (f : Option Faulted) → fault_among (made assigns) (done assigns) ≡ f → ComesTo declared number f (done assigns) (assigned declared target value mask world)
            → ComesOut declared (stale_after stale assigns) number assigns world (done assigns).objects (done assigns).outcomes f
        by (Some fault) e comes = comes
        by None e (new, becomes, are, stands) = (
          new,
          becomes,
          record {
            world_of = laws.worlds.next declared assigns world new here.world_of becomes;
            objects_are = are;
            stands = stands;
            fresh = laws.fills.after (store_of stale) stale number assigns objects (done assigns).objects world new can (λ other apart fresh. elsewhere new other e becomes apart fresh);
            words = laws.pieces.stay_words declared world.scalars (filled assigns).objects number assigns fit words literals (filled_words assigns);
          },
        )

  -- a reduction
  module _ (scalar : ℕ) (reduction : Reduction) (positions : List Interval) (value : Expr) (fit : IsFit declared (action.Reduce scalar reduction positions value))
      (literals : IsTrue (literals_fit_in (action.Reduce scalar reduction positions value))) where
    abbrev reduces : Action
    reduces = action.Reduce scalar reduction positions value

    abbrev boxes : List (List Interval)
    boxes = parts_of declared (views_of (bound world.scalars value)) positions

    abbrev numbers : List Interval → List ℤ
    numbers box = numbers_at (value_in declared world value) (cells_of box)

    reduce_stands : Stands declared (filled reduces).objects world (views_of value)
    reduce_stands = all_stands declared (filled reduces).objects world (views_of value) arrays here.world_of
        (laws.fills.objects (store_of stale) stale number reduces objects world can)
        (laws.fills.stands (store_of stale) stale number reduces objects world can)
        fit.value.views
        (laws.fills.fresh (store_of stale) stale number reduces objects world can fit)

    all_fit : AllFit (flat_map numbers boxes)
    all_fit = laws.pieces.words declared (filled reduces).objects world scalar reduction positions value fit reduce_stands (filled_words reduces) words literals boxes (IsPermutation-refl boxes)

    gathers : fault_among (made reduces) (done reduces) ≡ None
        → GathersTo declared number world scalar reduction value boxes None (done reduces).outcomes (reduced declared scalar reduction positions value world)
        → Gathers declared scalar reduction positions value world (done reduces).outcomes
    gathers none (are, comes) =
        let lists : List (List ℤ) = map numbers boxes in
        let same : joined lists ≡ flat_map numbers boxes = joined_are numbers boxes in
        let counted : length (flat_map numbers boxes) ≡ length (cells_of positions) =
        laws.pieces.counted declared (filled reduces).objects world number scalar reduction positions value fit reduce_stands none in
        record {
          values = record {
            lists = lists;
            are = are ∙ answers_are reduction numbers boxes;
            some = subst (λ n. 1 ≤ n) (sym (ap length same ∙ counted)) (some_cell laws.worlds positions fit.few_positions.box);
            few = subst (λ n. n ≤ 2 ^ 23) (sym (ap length same ∙ counted)) (let few : length (cells_of positions) ≤ 4194304 = fit.few_positions.few in omega arith);
          };
          fit = subst AllFit (sym same) all_fit;
          comes = comes boxes (IsPermutation-refl boxes) all_fit ∙ ap (λ ns. scalar_given world scalar (result_over reduction ns)) (sym same);
        }

    reduce_comes : (found : Option Faulted) → fault_among (made reduces) (done reduces) ≡ found
        → ComesOut declared (stale_after stale reduces) number reduces world (done reduces).objects (done reduces).outcomes found
    reduce_comes found is =
        by found is (subst (λ f. GathersTo declared number world scalar reduction value boxes f (done reduces).outcomes (reduced declared scalar reduction positions value world)) is
        (laws.pieces.reduces declared (filled reduces).objects world number scalar reduction positions value fit reduce_stands))
      where
        by : (f : Option Faulted) → fault_among (made reduces) (done reduces) ≡ f
            → GathersTo declared number world scalar reduction value boxes f (done reduces).outcomes (reduced declared scalar reduction positions value world)
            → ComesOut declared (stale_after stale reduces) number reduces world (done reduces).objects (done reduces).outcomes f
        by (Some fault) e comes = comes
        by None e comes = (
          left_here reduces (done reduces).objects (laws.pieces.leaves declared world.scalars (filled reduces).objects number scalar reduction positions value),
          gathers e comes,
        )

  -- all of them
  pub comes_out : (does : Action) → IsFit declared does → IsTrue (literals_fit_in does) → (found : Option Faulted) → fault_among (made does) (done does) ≡ found
      → ComesOut declared (stale_after stale does) number does world (done does).objects (done does).outcomes found
  comes_out (action.Assign target value mask) fit literals found is = assign_comes target value mask fit literals found is
  comes_out (action.Reduce scalar reduction positions value) fit literals found is = reduce_comes scalar reduction positions value fit literals found is
  comes_out (action.PrintView view) fit literals found is =
      let fresh : All (IsFreshFor declared.shapes declared.layouts (filled (action.PrintView view)).objects world) (view ∷ []) =
      laws.fills.fresh (store_of stale) stale number (action.PrintView view) objects world can fit in
      subst (ComesOut declared (stale_after stale (action.PrintView view)) number (action.PrintView view) world (filled (action.PrintView view)).objects []) is (
        left_here (action.PrintView view) (filled (action.PrintView view)).objects refl,
        All-head (IsFreshFor declared.shapes declared.layouts (filled (action.PrintView view)).objects world) view [] fresh,
      )
  comes_out (action.PrintScalar scalar) fit literals found is =
      subst (ComesOut declared (stale_after stale (action.PrintScalar scalar)) number (action.PrintScalar scalar) world (filled (action.PrintScalar scalar)).objects []) is
      (left_here (action.PrintScalar scalar) (filled (action.PrintScalar scalar)).objects refl)
  comes_out action.Block fit literals found is =
      subst (ComesOut declared (stale_after stale action.Block) number action.Block world (filled action.Block).objects []) is
      (left_here action.Block (filled action.Block).objects refl)
