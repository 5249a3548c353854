use Rattle.std.proofs.Common.{ℕ, List, ap, ap₂}
use Rattle.pooma_view.specs.Views.{Viewed}
use Rattle.pooma_view.specs.declared.slots.Slot.{Slot}
use Rattle.pooma_view.proofs.Parts.{within_corners, restricted}
use Rattle.pooma_view.proofs.Restricted.{restricted_slots-are}
use Rattle.pooma_view.proofs.views.View.restrict.Goals as goal

pub later_places-after_x-requires : goal.later_places-after_x-requires
later_places-after_x-requires c = (within_corners _ _ _ _ _ _ _ _ c.self.invariant (ap (λ (v : Viewed). v.slots) c.self.view_is) c.requires c.least-least.ensures.value c.least-least.ensures.inside c.greatest-greatest.ensures.value c.greatest-greatest.ensures.inside).by_x

pub later_places-after_y-requires : goal.later_places-after_y-requires
later_places-after_y-requires c = rw c.later_places-after_x.ensures (within_corners _ _ _ _ _ _ _ _ c.self.invariant (ap (λ (v : Viewed). v.slots) c.self.view_is) c.requires c.least-least.ensures.value c.least-least.ensures.inside c.greatest-greatest.ensures.value c.greatest-greatest.ensures.inside).by_y

pub restrict-requires : goal.restrict-requires
restrict-requires c = (within_corners _ _ _ _ _ _ _ _ c.self.invariant (ap (λ (v : Viewed). v.slots) c.self.view_is) c.requires c.least-least.ensures.value c.least-least.ensures.inside c.greatest-greatest.ensures.value c.greatest-greatest.ensures.inside).by_x

pub restrict-requires-2 : goal.restrict-requires-2
restrict-requires-2 c = rw c.later_places-after_x.ensures (within_corners _ _ _ _ _ _ _ _ c.self.invariant (ap (λ (v : Viewed). v.slots) c.self.view_is) c.requires c.least-least.ensures.value c.least-least.ensures.inside c.greatest-greatest.ensures.value c.greatest-greatest.ensures.inside).by_y

pub restrict-requires-3 : goal.restrict-requires-3
restrict-requires-3 c = rw (c.later_places-after_y.ensures, c.later_places-after_x.ensures) (within_corners _ _ _ _ _ _ _ _ c.self.invariant (ap (λ (v : Viewed). v.slots) c.self.view_is) c.requires c.least-least.ensures.value c.least-least.ensures.inside c.greatest-greatest.ensures.value c.greatest-greatest.ensures.inside).by_z

pub invariant_of-result : goal.invariant_of-result
invariant_of-result c =
    (restricted _ _ _ _ _ _ _ _ _ _ _ c.self.invariant (ap (λ (v : Viewed). v.slots) c.self.view_is)
    (within_corners _ _ _ _ _ _ _ _ c.self.invariant (ap (λ (v : Viewed). v.slots) c.self.view_is) c.requires c.least-least.ensures.value c.least-least.ensures.inside c.greatest-greatest.ensures.value c.greatest-greatest.ensures.inside)
    c.later_places-after_x.ensures c.later_places-after_y.ensures c.restrict.ensures c.restrict-2.ensures c.restrict-3.ensures).kept

pub returns-clause-positions : goal.returns-clause-positions
returns-clause-positions c =
    (restricted _ _ _ _ _ _ _ _ _ _ _ c.self.invariant (ap (λ (v : Viewed). v.slots) c.self.view_is)
    (within_corners _ _ _ _ _ _ _ _ c.self.invariant (ap (λ (v : Viewed). v.slots) c.self.view_is) c.requires c.least-least.ensures.value c.least-least.ensures.inside c.greatest-greatest.ensures.value c.greatest-greatest.ensures.inside)
    c.later_places-after_x.ensures c.later_places-after_y.ensures c.restrict.ensures c.restrict-2.ensures c.restrict-3.ensures).positions

pub returns-clause-cells : goal.returns-clause-cells
returns-clause-cells c =
    (restricted _ _ _ _ _ _ _ _ _ _ _ c.self.invariant (ap (λ (v : Viewed). v.slots) c.self.view_is)
    (within_corners _ _ _ _ _ _ _ _ c.self.invariant (ap (λ (v : Viewed). v.slots) c.self.view_is) c.requires c.least-least.ensures.value c.least-least.ensures.inside c.greatest-greatest.ensures.value c.greatest-greatest.ensures.inside)
    c.later_places-after_x.ensures c.later_places-after_y.ensures c.restrict.ensures c.restrict-2.ensures c.restrict-3.ensures).cells

pub returns-clause-view : goal.returns-clause-view
returns-clause-view c =
    ap₂ (λ (n : ℕ) (s : List Slot). record { array = n; slots = s })
    (ap (λ (v : Viewed). v.array) c.self.view_is)
    (restricted_slots-are _ _ _ _ _ _ _ _ _ _ _ c.self.invariant.few (ap (λ (v : Viewed). v.slots) c.self.view_is)
    c.later_places-after_x.ensures c.later_places-after_y.ensures c.restrict.ensures c.restrict-2.ensures c.restrict-3.ensures)
