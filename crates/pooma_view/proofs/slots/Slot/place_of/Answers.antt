use Rattle.std.proofs.Common.{arith, rules, subst, sym, ◌∙◌, ap, refl, ◌≡◌, Some, pos, to_z, of_z, w32, List, ℤ, Option, ◌∷◌}
use Rattle.std.proofs.lemmas.Int.{ints}
use Rattle.pooma_domain.specs.Cells.{IsAxis}
use Rattle.pooma_view.specs.Slots.{places, HasPlaces, Accepts, coordinate, left_over}
use Rattle.pooma_view.specs.declared.slots.Slot.{Slot}
use Rattle.pooma_view.proofs.SlotLists.{only_place, no_place, place_fits, place_is_cast, not_none}
use Rattle.pooma_view.proofs.slots.Slot.place_of.Goals as goal

pub overflow_cast-place : goal.overflow_cast-place
overflow_cast-place c =
    let axis : IsAxis (places c.in-Along.numbers) = subst HasPlaces c.in-Along.is c.requires.fits in
    place_fits _ _ c.in_ok-place-in-Along.ensures.found.0 axis.high

pub returns-in_err-place-in-Along-clause-only_one : goal.returns-in_err-place-in-Along-clause-only_one
returns-in_err-place-in-Along-clause-only_one c p a e f =
    let h = c.in_err-place-in-Along.ensures in
    let x_is : to_z w32 (of_z w32 c.args.x) ≡ c.args.x = search rules in
    absurd (no_place c.in-Along.numbers c.args.x p (λ k below is. not_none k (h.only_there k below (x_is ∙ is)))
    (subst (λ (s : Slot). Accepts s p) c.in-Along.is a) (subst (λ (s : Slot). coordinate s p ≡ c.args.x) c.in-Along.is e))

-- the place as a coordinate
place_is : (c : goal.After-after) → to_z w32 c.in_ok-place-in-Along.place ≡ pos c.in_ok-place-in-Along.place
place_is c =
    let axis : IsAxis (places c.in-Along.numbers) = subst HasPlaces c.in-Along.is c.requires.fits in
    place_is_cast _ _ c.in_ok-place-in-Along.ensures.found.0 axis.high

pub returns-in_ok-place-in-Along-clause-found : goal.returns-in_ok-place-in-Along-clause-found
returns-in_ok-place-in-Along-clause-found c =
    let h = c.in_ok-place-in-Along.ensures in
    let x_is : to_z w32 (of_z w32 c.args.x) ≡ c.args.x = search rules in
    rw (c.in-Along.is, c.after.ensures, place_is c)
    ((omega (arith, ints), omega (arith, ints, h.found.0)), sym h.found.1 ∙ x_is, refl)

pub returns-in_ok-place-in-Along-clause-only_one : goal.returns-in_ok-place-in-Along-clause-only_one
returns-in_ok-place-in-Along-clause-only_one c p a e f =
    let h = c.in_ok-place-in-Along.ensures in
    let x_is : to_z w32 (of_z w32 c.args.x) ≡ c.args.x = search rules in
    c_is c ∙ ap Some (only_place c.in-Along.numbers c.args.x c.in_ok-place-in-Along.place c.args.later.now p
    (λ k below is. h.only_there k below (x_is ∙ is))
    (subst (λ (s : Slot). Accepts s p) c.in-Along.is a) (subst (λ (s : Slot). coordinate s p ≡ c.args.x) c.in-Along.is e) (subst (λ (s : Slot). left_over s p ≡ c.args.later.now) c.in-Along.is f))
  where
    c_is : (c : goal.After-after) → ◌≡◌ {A = Option (List ℤ)} (Some c.after.result) (Some (pos c.in_ok-place-in-Along.place ∷ c.args.later.now))
    c_is c = ap Some (c.after.ensures ∙ rw (place_is c) refl)
