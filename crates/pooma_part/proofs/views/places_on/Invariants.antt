use Rattle.std.proofs.Common.{ℤ, take}
use Rattle.std.specs.Prelude.{◌↔◌, Any, Contains, slice_get}
use Rattle.pooma_domain.specs.Axes.{interval_of}
use Rattle.pooma_model.specs.Parts.{parts_along}
use Rattle.pooma_part.specs.Crossing.{ChangesAt}
use Rattle.pooma_part.proofs.views.places_on.Given as goal

abbrev pub invariant-loop-view : goal.invariant-loop-view
invariant-loop-view l =
    (j : ℤ) → Contains l.places.items j
    ↔ Any (λ v. ChangesAt (slice_get (parts_along v.layout v.view.slots) l.n) (interval_of l.axis) j) (take l.view-index l.seen)
