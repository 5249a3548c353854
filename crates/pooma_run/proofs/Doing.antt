-- What the works of a statement come to.
use Rattle.std.proofs.Common.{◌≡◌, ◌∙◌, refl, sym, ap, subst, ℕ, ◌+◌, Option, None, Some, Ok, Err, List, [], length, drop, arith}
use Rattle.std.specs.Prelude.{ℤ}
use Rattle.pooma_domain.specs.Cells.{IsIn}
use Rattle.pooma_expr.specs.Reductions.{result_over}
use Rattle.pooma_expr.specs.Values.{Checked}
use Rattle.pooma_field.specs.Numbered.{Numbered}
use Rattle.pooma_field.specs.Worlds.{World, with_scalar}
use Rattle.pooma_fill.specs.declared.stale.Mark.{Mark}
use Rattle.pooma_fill.specs.Marks.{Staled, declared_of, fills_before}
use Rattle.pooma_law.specs.Ser.{Results}
use Rattle.pooma_model.specs.declared.statement.Action.{Action}
use Rattle.pooma_model.specs.declared.statement.Action.TheVariants as action
use Rattle.pooma_model.specs.Assigning.{Becomes, Fault, Faults, Sum}
use Rattle.pooma_model.specs.Declarations.{Declared, seen_in}
use Rattle.pooma_model.specs.Reducing.{scalar_given}
use Rattle.pooma_model.specs.Runs.{IsWorldOf}
use Rattle.pooma_model.specs.Serial.{effect_of}
use Rattle.pooma_piece.specs.declared.outcome.Outcome.{Outcome}
use Rattle.pooma_piece.specs.Pieces.{Pieced}
use Rattle.pooma_piece.specs.Plans.{Faulted}
use Rattle.pooma_split.specs.Splits.{pieces_of}
use Rattle.pooma_split.specs.Statements.{done_in_order, fault_among}
use Rattle.pooma_store.specs.Standing.{OwnerHas}
use Rattle.pooma_view.specs.Slots.{cell_named, positions_of}
use Rattle.pooma_view.specs.Views.{Viewed}
use Rattle.pooma_run.specs.Doing.{CanBeDone, IsReduction, pieces_answers, works_done, works_fault}
use Rattle.pooma_run.specs.Gathered.{HasLaws}
use Rattle.pooma_run.specs.Plan.{stale_after}
use Rattle.pooma_run.specs.Underway.{IsDone, IsHere}
use Rattle.pooma_run.proofs.Adding.{ComesOut, IsFaultOf, comes_out, fills_answer}
use Rattle.pooma_run.proofs.Behind.{answers_behind, objects_behind, pieces_first}
use Rattle.pooma_run.proofs.Standing.{owner_shows}

-- objects that stand for a world stand for it with another number for a scalar
with_number : (declared : Declared) (marks : List Mark) (objects : List Numbered) (world : World) (scalar : ℕ) (n : ℤ)
    → IsHere declared marks objects world → IsWorldOf declared (with_scalar world scalar n) → IsHere declared marks objects (with_scalar world scalar n)
with_number declared marks objects world scalar n here of = record {
  world_of = of;
  objects_are = here.objects_are;
  stands = here.stands;
  fresh = λ array mark at off c field inside beside. here.fresh array mark at off c (record { faced = field.faced; known = field.known }) inside beside;
  words = here.words;
}

-- without a fault the objects stand for the world that the action makes
next_here : (declared : Declared) (marks : List Mark) (objects : List Numbered) (world new : World) (does : Action) (outcomes : List Outcome) → IsDone declared marks objects world does outcomes
    → effect_of declared does world ≡ Becomes new → IsWorldOf declared new → IsHere declared marks objects new
next_here declared marks objects world new (action.Assign target value mask) outcomes (made, becomes, here) e of =
    let both : Becomes made ≡ Becomes new = sym becomes ∙ e in
    let same : made ≡ new = cc in
    subst (IsHere declared marks objects) same here
next_here declared marks objects world new (action.Reduce scalar reduction positions value) outcomes (here, gathered) e of = by (result_over reduction _) (sym gathered.comes ∙ e)
  where
    by : (r : Checked) → scalar_given world scalar r ≡ Becomes new → IsHere declared marks objects new
    by (Ok n) both =
        let same : with_scalar world scalar n ≡ new = cc in
        subst (IsHere declared marks objects) same (with_number declared marks objects world scalar n here (subst (IsWorldOf declared) (sym same) of))
    by (Err kind) both = absurd (cc)
next_here declared marks objects world new (action.PrintView view) outcomes (here, fresh) e of = let same : world ≡ new = cc in subst (IsHere declared marks objects) same here
next_here declared marks objects world new (action.PrintScalar scalar) outcomes here e of = let same : world ≡ new = cc in subst (IsHere declared marks objects) same here
next_here declared marks objects world new action.Block outcomes here e of = let same : world ≡ new = cc in subst (IsHere declared marks objects) same here

-- and it has no fault but that of a reduction at its sum
sum_alone : (declared : Declared) (marks : List Mark) (objects : List Numbered) (world : World) (does : Action) (outcomes : List Outcome) (fault : Fault) → IsDone declared marks objects world does outcomes
    → effect_of declared does world ≡ Faults fault → (fault.place ≡ Sum) × IsReduction does
sum_alone declared marks objects world (action.Assign target value mask) outcomes fault (made, becomes, here) e =
    let both : Becomes made ≡ Faults fault = sym becomes ∙ e in absurd (cc)
sum_alone declared marks objects world (action.Reduce scalar reduction positions value) outcomes fault (here, gathered) e = by (result_over reduction _) (sym gathered.comes ∙ e)
  where
    by : (r : Checked) → scalar_given world scalar r ≡ Faults fault → (fault.place ≡ Sum) × Unit {0}
    by (Ok n) both = absurd (cc)
    by (Err kind) both = let same : record { place = Sum; kind = kind } ≡ fault = cc in (ap (λ (f : Fault). f.place) (sym same), tt)
sum_alone declared marks objects world (action.PrintView view) outcomes fault done e = absurd (cc)
sum_alone declared marks objects world (action.PrintScalar scalar) outcomes fault done e = absurd (cc)
sum_alone declared marks objects world action.Block outcomes fault done e = absurd (cc)

module _ (laws : HasLaws) (stale : Staled) (objects : List Numbered) (world : World) (number : ℕ) (does : Action) (can : CanBeDone stale objects world does) where
  abbrev declared : Declared
  declared = declared_of stale

  abbrev marks : List Mark
  marks = (stale_after stale does).marks

  abbrev fills : List Pieced
  fills = fills_before stale.layouts stale number does

  abbrev made : List Pieced
  made = pieces_of (declared_of stale) world.scalars number does

  -- once the fills, and then the pieces, are done
  abbrev done : Results Numbered Outcome
  done = done_in_order (pieces_of (declared_of stale) world.scalars number does) (done_in_order (fills_before stale.layouts stale number does) objects).objects

  first_is : works_fault stale objects world number does ≡ fault_among made done
  first_is = pieces_first laws.works [] fills made objects refl (fills_answer laws stale number objects world can.arrays can.as_many can.constants can.here can.scalars does)

  answers_are : pieces_answers stale objects world number does ≡ done.outcomes
  answers_are =
      let count : length fills ≡ 0 + length fills = omega arith in
      ap (λ n. drop n (works_done stale objects world number does).outcomes) count ∙ answers_behind laws.works [] fills made objects

  come_out : (found : Option Faulted) → works_fault stale objects world number does ≡ found
      → ComesOut declared (stale_after stale does) number does world (works_done stale objects world number does).objects (pieces_answers stale objects world number does) found
  come_out found is =
      subst (λ os. ComesOut declared (stale_after stale does) number does world os (pieces_answers stale objects world number does) found) (sym (objects_behind laws.works [] fills made objects))
      (subst (λ answers. ComesOut declared (stale_after stale does) number does world done.objects answers found) (sym answers_are)
      (comes_out laws stale number objects world can.arrays can.as_many can.constants can.here can.scalars does can.fit can.literals found (sym first_is ∙ is)))

  pub fault_is : (fault : Faulted) → works_fault stale objects world number does ≡ Some fault → IsFaultOf declared number does world fault
  fault_is fault is = come_out (Some fault) is

  pub is_done : works_fault stale objects world number does ≡ None
      → IsDone declared marks (works_done stale objects world number does).objects world does (pieces_answers stale objects world number does)
  is_done none = come_out None none

  pub no_other_fault : (fault : Fault) → works_fault stale objects world number does ≡ None → effect_of declared does world ≡ Faults fault → (fault.place ≡ Sum) × IsReduction does
  no_other_fault fault none e =
      sum_alone declared marks (works_done stale objects world number does).objects world does (pieces_answers stale objects world number does) fault (is_done none) e

  pub becomes_here : (new : World) → works_fault stale objects world number does ≡ None → effect_of declared does world ≡ Becomes new
      → IsHere declared marks (works_done stale objects world number does).objects new
  becomes_here new none e =
      next_here declared marks (works_done stale objects world number does).objects world new does (pieces_answers stale objects world number does) (is_done none) e
      (laws.worlds.next declared does world new can.here.world_of e)

pub view_shown : HasLaws → (stale : Staled) (objects : List Numbered) (world : World) (number : ℕ) (view : Viewed) (p : List ℤ) → CanBeDone stale objects world (action.PrintView view)
    → IsIn (positions_of view.slots) p
    → OwnerHas stale.layouts (works_done stale objects world number (action.PrintView view)).objects view.array (cell_named view.slots p) (seen_in (declared_of stale) world view (cell_named view.slots p))
view_shown laws stale objects world number view p can at =
    let done = is_done laws stale objects world number (action.PrintView view) can (first_is laws stale objects world number (action.PrintView view) can) in
    owner_shows laws.worlds (declared_of stale) (stale_after stale (action.PrintView view)).marks (works_done stale objects world number (action.PrintView view)).objects world view
    done.0 can.fit.readable done.1 p at
