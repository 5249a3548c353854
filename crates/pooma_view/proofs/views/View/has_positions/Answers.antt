use Rattle.std.proofs.Common.{ap, sym, ◌∙◌, ◌↔◌, ◌∷◌, []}
use Rattle.std.proofs.lemmas.Bool.{false≢true}
use Rattle.std.specs.Prelude.{IsSome}
use Rattle.pooma_domain.specs.Cells.{IsBox}
use Rattle.pooma_view.specs.Slots.{places_of, positions_of}
use Rattle.pooma_view.specs.Views.{Viewed}
use Rattle.pooma_view.proofs.Places.{positions_are_box, has_axes}
use Rattle.pooma_view.proofs.views.View.has_positions.Goals as goal

pub returns-in_default : goal.returns-in_default
returns-in_default c = (
  λ t. absurd (false≢true t),
  λ h. c.in_default.ensures.found.1 (has_axes _ _ _ _ _ c.self.invariant (ap (λ (v : Viewed). v.slots) c.self.view_is) h).on_x,
)

pub returns-in_default-places : goal.returns-in_default-places
returns-in_default-places c = (
  λ t. absurd (false≢true t),
  λ h. c.in_default-places.ensures.found.1 (has_axes _ _ _ _ _ c.self.invariant (ap (λ (v : Viewed). v.slots) c.self.view_is) h).on_y,
)

pub returns-in_default-places-2 : goal.returns-in_default-places-2
returns-in_default-places-2 c = (
  λ t. absurd (false≢true t),
  λ h. c.in_default-places-2.ensures.found.1 (has_axes _ _ _ _ _ c.self.invariant (ap (λ (v : Viewed). v.slots) c.self.view_is) h).on_z,
)

pub returns : goal.returns
returns c =
    let made : IsSome c.of3.result ↔ IsBox (places_of c.self.inside.x ∷ places_of c.self.inside.y ∷ places_of c.self.inside.z ∷ []) =
    rw (← c.in-Some.ensures.value, ← c.in-Some-places.ensures.value, ← c.in-Some-places-2.ensures.value) c.of3.ensures.found in
    let tell : IsBox (places_of c.self.inside.x ∷ places_of c.self.inside.y ∷ places_of c.self.inside.z ∷ []) ↔ IsBox (positions_of c.args.self.now.slots) =
    positions_are_box _ _ _ _ _ c.self.invariant (ap (λ (v : Viewed). v.slots) c.self.view_is) in (
      λ t. tell.0 (made.0 (sym c.is_some.ensures ∙ t)),
      λ h. c.is_some.ensures ∙ made.1 (tell.1 h),
    )
