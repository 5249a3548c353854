use Rattle.std.proofs.Common.{◌+◌, ◌≡◌, ◌∙◌, ap, pos, slice_index_or, arith, below_more, subst}
use Rattle.std.proofs.lemmas.Grind.{common_steps}
use Rattle.std.specs.Prelude.{All, map}
use Rattle.pooma_view.specs.Slots.{positions_of}
use Rattle.pooma_script.proofs.Taken.{positions_of_subs}
use Rattle.std.proofs.lemmas.List.{get_or_default}
use Rattle.pooma_script.specs.Ends.{IsShort}
use Rattle.std.proofs.Math.ListN.{length-set}
use Rattle.pooma_domain.specs.Axes.{interval_of}
use Rattle.pooma_parse.specs.declared.form.RawSub.TheVariants.{At}
use Rattle.pooma_script.specs.Views.{slot_of}
use Rattle.pooma_script.proofs.Heads.{not_true}
use Rattle.pooma_script.proofs.Inside.{ends_on, got_at, more_made, takes_at}
use Rattle.pooma_script.proofs.slot.view_in.Goals as goal

pub slot_on-requires : goal.slot_on-requires
slot_on-requires c = λ x e.
    takes_at c.args.subs.now c.loop-n.n (slice_index_or c.args.subs.now c.loop-n.n (At (pos 0)))
    (got_at c.args.subs.now c.loop-n.n (At (pos 0)) (omega arith)) c.requires.taking x e

pub returns-in_default-clause-found : goal.returns-in_default-clause-found
returns-in_default-clause-found c = (
  λ f. absurd (not_true f),
  λ within. c.in_default.ensures.found.1 (ends_on c.coordinates_of_cells.ensures.on_axis c.args.b.now c.args.subs.now c.loop-n.n (interval_of c.axis.result)
      (slice_index_or c.args.subs.now c.loop-n.n (At (pos 0))) c.axis.ensures (got_at c.args.subs.now c.loop-n.n (At (pos 0)) (omega arith)) within),
)

pub loop-n-preserved : goal.loop-n-preserved
loop-n-preserved c = (
  rw length-set c.loop-n.invariant.0,
  more_made slot_of c.loop-n.slots c.args.subs.now c.loop-n.n (c.loop-n.n + 1) c.in-Some.slot (At (pos 0)) (omega arith)
      (omega (arith, c.requires.few, c.loop-n.invariant.0)) (omega arith) c.loop-n.invariant.1 c.in-Some.ensures.value,
  below_more _ _ c.loop-n.invariant.2 (λ d. subst IsShort
      (get_or_default c.args.subs.now c.loop-n.n (At (pos 0)) d (omega arith)) c.slot_on.ensures.short),
)

pub returns-clause-places : goal.returns-clause-places
returns-clause-places c =
    let slots : c.new-view.result.slots ≡ map slot_of c.args.subs.now = grind (arith, common_steps) in
    let short : All IsShort c.args.subs.now = λ k d below. c.loop-n.invariant.2 k (omega arith) d in
    ap positions_of slots ∙ positions_of_subs c.args.subs.now short c.requires.taking
