use Rattle.std.proofs.Common.{ap, sym, subst, ◌∙◌}
use Rattle.std.proofs.lemmas.Result.{on_ok_weaker}
use Rattle.std.specs.Prelude.{slice_get}
use Rattle.pooma_domain.specs.Axes.{interval_of}
use Rattle.pooma_layout.specs.Patches.{borders_of, IsLayout}
use Rattle.pooma_model.specs.Parts.{parts_along}
use Rattle.pooma_part.specs.Cuts.{LaidView}
use Rattle.pooma_part.proofs.Along.{view_changes}
use Rattle.pooma_part.proofs.views.add_view.Goals as goal

pub returns-in-Some : goal.returns-in-Some
returns-in-Some c =
    on_ok_weaker c.add_crossings.result
    (λ step. view_changes c.args.seen.now.layout c.in-Some.on c.borders.result.now c.in-Some.numbers
    (slice_get (parts_along c.args.seen.now.layout c.args.seen.now.view.slots) c.args.n) (interval_of c.args.axis) c.args.places.now.items c.add_crossings.new.places.items
    (subst (λ (v : LaidView). IsLayout v.layout) c.seen.view_is c.patches-patches.ensures.valid)
    (ap (λ (v : LaidView). slice_get (borders_of v.layout) c.in-Some.on) (sym c.seen.view_is) ∙ c.borders.ensures)
    c.in-Some.ensures.found step)
    c.add_crossings.ensures
