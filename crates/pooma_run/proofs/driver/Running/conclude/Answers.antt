use Rattle.std.proofs.Common.{◌≡◌, ◌∙◌, sym, ap, subst, ◌+◌, ◌++◌, ◌∷◌, [], List, ℤ, ◌<◌, to_z, of_z, w64, length, arith, rules}
use Rattle.std.specs.Prelude.{slice_index_or}
use Rattle.pooma_model.specs.Fit.{IsFit, IsPrintFit}
use Rattle.pooma_model.specs.Texts.{row_text, view_text}
use Rattle.pooma_view.specs.Slots.{positions_of}
use Rattle.pooma_run.specs.Showing.{CanShow, OwnersHave}
use Rattle.pooma_run.specs.Underway.{IsUnderway, Kept}
use Rattle.pooma_run.proofs.Concluding.{answered, can_show, concluded_assign, concluded_block, concluded_scalar, concluded_view, scalar_there}
use Rattle.pooma_run.proofs.Performed.{if_true}
use Rattle.pooma_run.proofs.Reduced.{reduced_ended, reduced_on, same_pending, same_stale, some_answered}
use Rattle.pooma_run.proofs.driver.Running.conclude.Goals as goal

pub gathered-requires : goal.gathered-requires
gathered-requires c =
    (answered c.laws_below.ensures c.requires.0 c.args.self.now c.requires.1 c.args.statement.now c.args.outcomes.now c.requires.2
    c.in-Reduce.scalar c.in-Reduce.reduction c.in-Reduce.positions c.in-Reduce.value c.in-Reduce.is).0

pub give-requires : goal.give-requires
give-requires c =
    (answered c.laws_below.ensures c.requires.0 c.args.self.now c.requires.1 c.args.statement.now c.args.outcomes.now c.requires.2
    c.in-Reduce.scalar c.in-Reduce.reduction c.in-Reduce.positions c.in-Reduce.value c.in-Reduce.is).1

pub returns-in-Reduce-clause-underway : goal.returns-in-Reduce-clause-underway
returns-in-Reduce-clause-underway c =
    reduced_on c.laws_below.ensures c.args.self.now c.give.new.self c.args.statement.now c.args.outcomes.now c.in-Reduce.scalar c.in-Reduce.reduction c.in-Reduce.positions c.in-Reduce.value c.in-Reduce.is
    c.gathered.result c.give.result c.give.ensures.given c.give.ensures.fault (search rules) c.gathered.ensures

pub returns-in-Reduce-clause-ended : goal.returns-in-Reduce-clause-ended
returns-in-Reduce-clause-ended c =
    reduced_ended c.laws_below.ensures c.args.self.now c.give.new.self c.args.statement.now c.args.outcomes.now c.in-Reduce.scalar c.in-Reduce.reduction c.in-Reduce.positions c.in-Reduce.value c.in-Reduce.is
    c.gathered.result c.give.result c.give.ensures.given c.give.ensures.fault (search rules) c.gathered.ensures

pub returns-in-Reduce-clause-some : goal.returns-in-Reduce-clause-some
returns-in-Reduce-clause-some c =
    if_true c.give.result (some_answered c.in-Reduce.reduction c.args.outcomes.now
    (answered c.laws_below.ensures c.requires.0 c.args.self.now c.requires.1 c.args.statement.now c.args.outcomes.now c.requires.2
    c.in-Reduce.scalar c.in-Reduce.reduction c.in-Reduce.positions c.in-Reduce.value c.in-Reduce.is).0)

pub returns-in-Reduce-clause-none : goal.returns-in-Reduce-clause-none
returns-in-Reduce-clause-none c =
    same_pending c.laws_below.ensures c.args.self.now c.give.new.self c.args.statement.now c.args.outcomes.now c.in-Reduce.scalar c.in-Reduce.reduction c.in-Reduce.positions c.in-Reduce.value c.in-Reduce.is
    c.gathered.result c.give.result c.give.ensures.given c.give.ensures.fault

pub returns-in-Reduce-clause-stale : goal.returns-in-Reduce-clause-stale
returns-in-Reduce-clause-stale c =
    same_stale c.laws_below.ensures c.args.self.now c.give.new.self c.args.statement.now c.args.outcomes.now c.in-Reduce.scalar c.in-Reduce.reduction c.in-Reduce.positions c.in-Reduce.value c.in-Reduce.is
    c.gathered.result c.give.result c.give.ensures.given c.give.ensures.fault

pub push_view-requires-clause-positions : goal.push_view-requires-clause-positions
push_view-requires-clause-positions c =
    let fit : IsPrintFit c.requires.0.declared c.in-PrintView.view = subst (λ does. IsFit c.requires.0.declared does) c.in-PrintView.is c.requires.2.fit in
    fit.few_positions.box

pub push_view-requires-clause-cells : goal.push_view-requires-clause-cells
push_view-requires-clause-cells c = λ p at.
    subst (λ (k : Kept). CanShow k.store c.in-PrintView.view p) (sym c.self.view_is)
    (can_show c.laws_below.ensures c.requires.0 c.args.self.now c.requires.1 c.args.statement.now c.args.outcomes.now c.requires.2 c.in-PrintView.view c.in-PrintView.is p at)

pub returns-in_ok-push_view-in-PrintView-clause-underway : goal.returns-in_ok-push_view-in-PrintView-clause-underway
returns-in_ok-push_view-in-PrintView-clause-underway c = λ program number here.
    subst (λ (k : Kept). IsUnderway program (record k { bytes = c.push_view.new.out.items }) (number + 1)) (sym c.self.view_is)
    (concluded_view c.laws_below.ensures program c.args.self.now number c.args.statement.now c.args.outcomes.now here c.in-PrintView.view c.push_view.new.out.items c.in-PrintView.is
    (subst (λ (k : Kept). (n : List ℤ → ℤ) → OwnersHave k.store c.in-PrintView.view n → c.push_view.new.out.items ≡ k.bytes ++ view_text n (positions_of c.in-PrintView.view.slots)) c.self.view_is
    c.in_ok-push_view-in-PrintView.ensures))

pub returns-in_ok-push_view-in-PrintView-clause-none : goal.returns-in_ok-push_view-in-PrintView-clause-none
returns-in_ok-push_view-in-PrintView-clause-none c = ap (λ (k : Kept). k.pending) c.self.view_is

pub returns-in_ok-push_view-in-PrintView-clause-stale : goal.returns-in_ok-push_view-in-PrintView-clause-stale
returns-in_ok-push_view-in-PrintView-clause-stale c = ap (λ (k : Kept). k.stale) c.self.view_is

pub index-requires : goal.index-requires
index-requires c =
    let lt : c.in-PrintScalar.scalar < length c.self-in-PrintScalar.inside.scalars.items =
    subst (λ (k : Kept). c.in-PrintScalar.scalar < length k.scalars) (sym c.self-in-PrintScalar.view_is)
    (scalar_there c.laws_below.ensures c.requires.0 c.args.self.now c.requires.1 c.args.statement.now c.args.outcomes.now c.requires.2 c.in-PrintScalar.scalar c.in-PrintScalar.is) in
    omega (arith, c.self-in-PrintScalar.inside.scalars.ok)

pub returns-in_ok-scalar_text-in-PrintScalar-clause-underway : goal.returns-in_ok-scalar_text-in-PrintScalar-clause-underway
returns-in_ok-scalar_text-in-PrintScalar-clause-underway c = λ program number here.
    let x = c.index.result.now in
    let bare : to_z w64 (of_z w64 x) ≡ x = search rules in
    let bytes : c.scalar_text.new.out.items ≡ c.args.self.now.bytes ++ row_text (slice_index_or c.args.self.now.scalars c.in-PrintScalar.scalar x ∷ []) =
    c.in_ok-scalar_text-in-PrintScalar.ensures.ok
    ∙ (ap (λ n. c.self-in-PrintScalar.inside.bytes.items ++ row_text (n ∷ [])) (bare ∙ c.index.ensures)
    ∙ ap (λ (k : Kept). k.bytes ++ row_text (slice_index_or k.scalars c.in-PrintScalar.scalar x ∷ [])) c.self-in-PrintScalar.view_is) in
    subst (λ (k : Kept). IsUnderway program (record k { bytes = c.scalar_text.new.out.items }) (number + 1)) (sym c.self-in-PrintScalar.view_is)
    (subst (λ bs. IsUnderway program (record c.args.self.now { bytes = bs }) (number + 1)) (sym bytes)
    (concluded_scalar c.laws_below.ensures program c.args.self.now number c.args.statement.now c.args.outcomes.now here c.in-PrintScalar.scalar x c.in-PrintScalar.is))

pub returns-in_ok-scalar_text-in-PrintScalar-clause-none : goal.returns-in_ok-scalar_text-in-PrintScalar-clause-none
returns-in_ok-scalar_text-in-PrintScalar-clause-none c = ap (λ (k : Kept). k.pending) c.self-in-PrintScalar.view_is

pub returns-in_ok-scalar_text-in-PrintScalar-clause-stale : goal.returns-in_ok-scalar_text-in-PrintScalar-clause-stale
returns-in_ok-scalar_text-in-PrintScalar-clause-stale c = ap (λ (k : Kept). k.stale) c.self-in-PrintScalar.view_is

pub returns-in-Assign-clause-underway : goal.returns-in-Assign-clause-underway
returns-in-Assign-clause-underway c = λ program number here.
    concluded_assign c.laws_below.ensures program c.args.self.now number c.args.statement.now c.args.outcomes.now here c.in-Assign.target c.in-Assign.value c.in-Assign.mask c.in-Assign.is

pub returns-in-Block-clause-underway : goal.returns-in-Block-clause-underway
returns-in-Block-clause-underway c = λ program number here.
    concluded_block c.laws_below.ensures program c.args.self.now number c.args.statement.now c.args.outcomes.now here c.in-Block.is
