use Rattle.std.proofs.Common.{sym, ◌∙◌, ap, rules, ◌≡◌, ◌≤◌, Some, None, length, lit≤}
use Rattle.std.proofs.Math.Nat.{lt_of_le_of_lt}
use Rattle.pooma_view.specs.Slots.{left_over}
use Rattle.pooma_view.specs.Views.{Viewed}
use Rattle.pooma_view.proofs.SlotLists.{places_fit, one_more, NamesThree, names_three, three_name, if_some_then, same_some, not_none}
use Rattle.pooma_view.proofs.views.View.position.Goals as goal

pub place_of-requires-clause-fits : goal.place_of-requires-clause-fits
place_of-requires-clause-fits c =
    (places_fit _ _ _ _ _ c.self.invariant (ap (λ (v : Viewed). v.slots) c.self.view_is) c.requires).in_z

pub place_of-requires-clause-few : goal.place_of-requires-clause-few
place_of-requires-clause-few c = rw c.none.ensures (lit≤ tt)

pub place_of-requires-2-clause-fits : goal.place_of-requires-2-clause-fits
place_of-requires-2-clause-fits c =
    (places_fit _ _ _ _ _ c.self.invariant (ap (λ (v : Viewed). v.slots) c.self.view_is) c.requires).in_y

pub place_of-requires-2-clause-few : goal.place_of-requires-2-clause-few
place_of-requires-2-clause-few c =
    let one : length c.in_ok-later.later ≤ 1 = one_more c.self.inside.z _ _ 0 c.in_ok-later.ensures.found.2 (rw c.none.ensures (lit≤ tt)) in
    lt_of_le_of_lt one (lit≤ tt)

pub place_of-requires-3-clause-fits : goal.place_of-requires-3-clause-fits
place_of-requires-3-clause-fits c =
    (places_fit _ _ _ _ _ c.self.invariant (ap (λ (v : Viewed). v.slots) c.self.view_is) c.requires).in_x

pub place_of-requires-3-clause-few : goal.place_of-requires-3-clause-few
place_of-requires-3-clause-few c =
    let one : length c.in_ok-later.later ≤ 1 = one_more c.self.inside.z _ _ 0 c.in_ok-later.ensures.found.2 (rw c.none.ensures (lit≤ tt)) in
    let two : length c.in_ok-later-2.later ≤ 2 = one_more c.self.inside.y _ _ 1 c.in_ok-later-2.ensures.found.2 one in
    lt_of_le_of_lt two (lit≤ tt)

pub returns-in_err-later-clause-only_one : goal.returns-in_err-later-clause-only_one
returns-in_err-later-clause-only_one c p inside named =
    let n : NamesThree c.self.inside.x c.self.inside.y c.self.inside.z p c.coordinates.result =
    names_three _ _ _ _ _ p c.args.c.now c.coordinates.result (search rules) (search rules) (search rules) c.self.invariant (ap (λ (v : Viewed). v.slots) c.self.view_is) c.coordinates.ensures inside named in
    let none : None ≡ Some (left_over c.self.inside.y (left_over c.self.inside.x p)) =
    c.in_err-later.ensures.only_one (left_over c.self.inside.y (left_over c.self.inside.x p)) n.taken.by_z n.on_z (n.taken.whole ∙ sym c.none.ensures) in
    not_none _ none

pub returns-in_err-later-2-clause-only_one : goal.returns-in_err-later-2-clause-only_one
returns-in_err-later-2-clause-only_one c p inside named =
    let n : NamesThree c.self.inside.x c.self.inside.y c.self.inside.z p c.coordinates.result =
    names_three _ _ _ _ _ p c.args.c.now c.coordinates.result (search rules) (search rules) (search rules) c.self.invariant (ap (λ (v : Viewed). v.slots) c.self.view_is) c.coordinates.ensures inside named in
    let on_z : Some c.in_ok-later.later ≡ Some (left_over c.self.inside.y (left_over c.self.inside.x p)) =
    c.in_ok-later.ensures.only_one (left_over c.self.inside.y (left_over c.self.inside.x p)) n.taken.by_z n.on_z (n.taken.whole ∙ sym c.none.ensures) in
    let none : None ≡ Some (left_over c.self.inside.x p) =
    c.in_err-later-2.ensures.only_one (left_over c.self.inside.x p) n.taken.by_y n.on_y (sym (same_some _ _ on_z)) in
    not_none _ none

pub returns-clause-only_one : goal.returns-clause-only_one
returns-clause-only_one c p inside named =
    let n : NamesThree c.self.inside.x c.self.inside.y c.self.inside.z p c.coordinates.result =
    names_three _ _ _ _ _ p c.args.c.now c.coordinates.result (search rules) (search rules) (search rules) c.self.invariant (ap (λ (v : Viewed). v.slots) c.self.view_is) c.coordinates.ensures inside named in
    let on_z : Some c.in_ok-later.later ≡ Some (left_over c.self.inside.y (left_over c.self.inside.x p)) =
    c.in_ok-later.ensures.only_one (left_over c.self.inside.y (left_over c.self.inside.x p)) n.taken.by_z n.on_z (n.taken.whole ∙ sym c.none.ensures) in
    let on_y : Some c.in_ok-later-2.later ≡ Some (left_over c.self.inside.x p) =
    c.in_ok-later-2.ensures.only_one (left_over c.self.inside.x p) n.taken.by_y n.on_y (sym (same_some _ _ on_z)) in
    c.place_of-3.ensures.only_one p n.taken.by_x n.on_x (sym (same_some _ _ on_y))

pub returns-clause-found : goal.returns-clause-found
returns-clause-found c =
    let y_found = c.in_ok-later-2.ensures.found in
    let z_found = c.in_ok-later.ensures.found in
    if_some_then _ _ c.place_of-3.result c.place_of-3.ensures.found
    (λ p h.
    three_name _ _ _ _ _ p c.args.c.now c.coordinates.result (search rules) (search rules) (search rules) c.self.invariant (ap (λ (v : Viewed). v.slots) c.self.view_is) c.coordinates.ensures (sym c.dims.ensures.value ∙ c.if-dims-self.false)
    (record {
      taken = record { by_x = h.0; by_y = rw h.2 y_found.0; by_z = rw (h.2, y_found.2) z_found.0; whole = rw (h.2, y_found.2) (z_found.2 ∙ c.none.ensures) };
      on_x = h.1;
      on_y = rw h.2 y_found.1;
      on_z = rw (h.2, y_found.2) z_found.1;
    }))
