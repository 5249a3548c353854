use Rattle.std.proofs.Common.{sym, ◌∙◌, ap}
use Rattle.pooma_view.specs.Slots.{positions_of}
use Rattle.pooma_view.specs.Views.{Viewed}
use Rattle.pooma_view.proofs.SlotLists.{positions-three, places_fit}
use Rattle.pooma_view.proofs.views.View.positions.Goals as goal

pub with_places-later-requires : goal.with_places-later-requires
with_places-later-requires c =
    rw c.point.ensures.axes (places_fit _ _ _ _ _ c.self.invariant (ap (λ (v : Viewed). v.slots) c.self.view_is) c.requires).from_z

pub with_places-later-requires-2 : goal.with_places-later-requires-2
with_places-later-requires-2 c =
    rw (c.with_places-later.ensures, c.point.ensures.axes) (places_fit _ _ _ _ _ c.self.invariant (ap (λ (v : Viewed). v.slots) c.self.view_is) c.requires).from_y

pub with_places-requires : goal.with_places-requires
with_places-requires c =
    rw (c.with_places-later-2.ensures, c.with_places-later.ensures, c.point.ensures.axes)
    (places_fit _ _ _ _ _ c.self.invariant (ap (λ (v : Viewed). v.slots) c.self.view_is) c.requires).from_x

pub returns : goal.returns
returns c =
    rw (c.with_places.ensures, c.with_places-later-2.ensures, c.with_places-later.ensures, c.point.ensures.axes)
    (sym (positions-three _ _ _ _ c.self.invariant) ∙ ap (λ (v : Viewed). positions_of v.slots) c.self.view_is)
