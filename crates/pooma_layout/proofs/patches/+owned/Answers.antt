use Rattle.std.proofs.Common.{arith, rules, ap, sym, ◌≡◌, ◌∷◌, ◌∙◌, length}
use Rattle.pooma_domain.specs.Axes.{interval_of}
use Rattle.std.specs.Prelude.{Some, slice_get}
use Rattle.pooma_layout.specs.Patches.{owned_boxes}
use Rattle.pooma_layout.proofs.Stepping.{first_and_later, first_valid, patch_splits, owned_after, within_is_box, owned_within}
use Rattle.pooma_layout.proofs.patches.+owned.Goals as goal

pub owned-requires : goal.owned-requires
owned-requires t c =
    let split = first_and_later c.args.axes.now c.first-item.result c.in-len1-up.len_at_least c.first-item.is in
    let place = patch_splits c.args.axes.now c.first-item.result _ c.args.p c.parts-parts.result split c.parts-parts.ensures.value c.requires.there in (
      search rules,
      (
        (first_valid c.args.axes.now c.first-item.result _ split c.requires.valid).1,
        (omega (arith, ap length split, c.requires.few), place.2),
      ),
    )

pub nonzero_rem-p : goal.nonzero_rem-p
nonzero_rem-p t c =
    let split = first_and_later c.args.axes.now c.first-item.result c.in-len1-up.len_at_least c.first-item.is in
    (patch_splits c.args.axes.now c.first-item.result _ c.args.p c.parts-parts.result split c.parts-parts.ensures.value c.requires.there).0

pub part-requires : goal.part-requires
part-requires t c =
    let split = first_and_later c.args.axes.now c.first-item.result c.in-len1-up.len_at_least c.first-item.is in
    (patch_splits c.args.axes.now c.first-item.result _ c.args.p c.parts-parts.result split c.parts-parts.ensures.value c.requires.there).1

pub after-requires : goal.after-requires
after-requires t c =
    let split = first_and_later c.args.axes.now c.first-item.result c.in-len1-up.len_at_least c.first-item.is in
    let stands : slice_get (owned_boxes c.args.axes.now) c.args.p ≡ Some (interval_of c.part.result ∷ c.owned.result) =
    owned_after c.args.axes.now c.first-item.result _ c.args.p c.parts-parts.result (interval_of c.part.result) c.owned.result split c.parts-parts.ensures.value c.part.ensures c.owned.ensures in
    within_is_box c.args.axes.now (interval_of c.part.result ∷ c.owned.result) c.requires.valid c.requires.few
    (owned_within c.args.axes.now c.args.p (interval_of c.part.result ∷ c.owned.result) c.requires.valid stands)

pub returns-in-len1-up : goal.returns-in-len1-up
returns-in-len1-up t c =
    let split = first_and_later c.args.axes.now c.first-item.result c.in-len1-up.len_at_least c.first-item.is in
    owned_after c.args.axes.now c.first-item.result _ c.args.p c.parts-parts.result (interval_of c.part.result) c.owned.result split c.parts-parts.ensures.value c.part.ensures c.owned.ensures
    ∙ ap Some (sym c.after.ensures)
