use Rattle.std.proofs.Common.{arith, rules, ap, sym, ◌≡◌, ◌∷◌, ◌∙◌, length}
use Rattle.pooma_domain.specs.Axes.{interval_of}
use Rattle.std.specs.Prelude.{Some, slice_get}
use Rattle.pooma_layout.specs.Patches.{allocated_boxes}
use Rattle.pooma_layout.proofs.Stepping.{first_and_later, first_valid, patch_splits, allocated_after, within_is_box, allocated_box_within}
use Rattle.pooma_layout.proofs.patches.+allocated.Goals as goal

pub allocated-requires : goal.allocated-requires
allocated-requires t c =
    let split = first_and_later c.args.axes.now c.first-item.result c.in-len1-up.len_at_least c.first-item.is in
    let place = patch_splits c.args.axes.now c.first-item.result _ c.args.p c.parts-parts.result split c.parts-parts.ensures.value c.requires.there in (
      search rules,
      (
        (first_valid c.args.axes.now c.first-item.result _ split c.requires.valid).1,
        (omega (arith, ap length split, c.requires.few), place.2),
      ),
    )

pub nonzero_rem-p : goal.nonzero_rem-p
nonzero_rem-p t c =
    let split = first_and_later c.args.axes.now c.first-item.result c.in-len1-up.len_at_least c.first-item.is in
    (patch_splits c.args.axes.now c.first-item.result _ c.args.p c.parts-parts.result split c.parts-parts.ensures.value c.requires.there).0

pub allocated-requires-in-len1-up : goal.allocated-requires-in-len1-up
allocated-requires-in-len1-up t c =
    let split = first_and_later c.args.axes.now c.first-item.result c.in-len1-up.len_at_least c.first-item.is in
    (patch_splits c.args.axes.now c.first-item.result _ c.args.p c.parts-parts.result split c.parts-parts.ensures.value c.requires.there).1

pub after-requires : goal.after-requires
after-requires t c =
    let split = first_and_later c.args.axes.now c.first-item.result c.in-len1-up.len_at_least c.first-item.is in
    let stands : slice_get (allocated_boxes c.args.axes.now) c.args.p ≡ Some (interval_of c.allocated-in-len1-up.result ∷ c.allocated.result) =
    allocated_after c.args.axes.now c.first-item.result _ c.args.p c.parts-parts.result (interval_of c.allocated-in-len1-up.result) c.allocated.result split c.parts-parts.ensures.value c.allocated-in-len1-up.ensures c.allocated.ensures in
    within_is_box c.args.axes.now (interval_of c.allocated-in-len1-up.result ∷ c.allocated.result) c.requires.valid c.requires.few
    (allocated_box_within c.args.axes.now c.args.p (interval_of c.allocated-in-len1-up.result ∷ c.allocated.result) c.requires.valid stands)

pub returns-in-len1-up : goal.returns-in-len1-up
returns-in-len1-up t c =
    let split = first_and_later c.args.axes.now c.first-item.result c.in-len1-up.len_at_least c.first-item.is in
    allocated_after c.args.axes.now c.first-item.result _ c.args.p c.parts-parts.result (interval_of c.allocated-in-len1-up.result) c.allocated.result split c.parts-parts.ensures.value c.allocated-in-len1-up.ensures c.allocated.ensures
    ∙ ap Some (sym c.after.ensures)
