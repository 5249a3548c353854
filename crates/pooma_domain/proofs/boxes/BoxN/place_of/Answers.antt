use Rattle.std.proofs.Common.{rules, Fits, w64, ◌≡◌, ◌*◌, ◌+◌, to_z, of_z, w32, FitsSigned}
use Rattle.std.proofs.lemmas.Int.{to_z-of_z}
use Rattle.pooma_domain.proofs.CellOrder.{place, place_below, stands_at_place, stands_once}
use Rattle.pooma_domain.proofs.PaddedBox.{in_padded, placed, rounds_fit}
use Rattle.pooma_domain.proofs.boxes.BoxN.place_of.Goals as goal

pub offset-requires : goal.offset-requires
offset-requires c =
    let is : to_z w32 (of_z w32 c.c.inside.y) ≡ c.c.inside.y = search rules in
    rw is ((in_padded _ _ _ _ _ _ _ _ c.self.invariant c.c.invariant).0 (rw (c.self.view_is, c.c.view_is) c.requires)).2

pub offset-requires-2 : goal.offset-requires-2
offset-requires-2 c =
    let is : to_z w32 (of_z w32 c.c.inside.z) ≡ c.c.inside.z = search rules in
    rw is ((in_padded _ _ _ _ _ _ _ _ c.self.invariant c.c.invariant).0 (rw (c.self.view_is, c.c.view_is) c.requires)).3

pub offset-requires-3 : goal.offset-requires-3
offset-requires-3 c =
    let is : to_z w32 (of_z w32 c.c.inside.x) ≡ c.c.inside.x = search rules in
    rw is ((in_padded _ _ _ _ _ _ _ _ c.self.invariant c.c.invariant).0 (rw (c.self.view_is, c.c.view_is) c.requires)).1

-- the rounds, and then the whole sum, fit
rounds : (c : goal.After-offset-2) → Fits w64 (c.len.result * c.offset-2.result) × Fits w64 (c.offset.result + c.len.result * c.offset-2.result)
rounds c =
    let y_fits : FitsSigned w32 c.c.inside.y = search rules in
    let z_fits : FitsSigned w32 c.c.inside.z = search rules in
    rounds_fit _ _ _ _ _ _ _ _ c.len.result c.offset.result c.offset-2.result c.self.invariant c.c.invariant (rw (c.self.view_is, c.c.view_is) c.requires) c.len.ensures.value (simp to_z-of_z at c.offset.ensures) (simp to_z-of_z at c.offset-2.ensures)

whole : (c : goal.After-len-2) → (c.offset-3.result + c.len-2.result * (c.offset.result + c.len.result * c.offset-2.result) ≡ place c.args.self.now c.args.c.now) × Fits w64 (c.len-2.result * (c.offset.result + c.len.result * c.offset-2.result)) × Fits w64 (c.offset-3.result + c.len-2.result * (c.offset.result + c.len.result * c.offset-2.result))
whole c =
    let x_fits : FitsSigned w32 c.c.inside.x = search rules in
    let y_fits : FitsSigned w32 c.c.inside.y = search rules in
    let z_fits : FitsSigned w32 c.c.inside.z = search rules in
    let all = placed _ _ _ _ _ _ _ _ c.len-2.result c.len.result c.offset-3.result c.offset.result c.offset-2.result c.self.invariant c.c.invariant (rw (c.self.view_is, c.c.view_is) c.requires) c.len-2.ensures.value c.len.ensures.value (simp to_z-of_z at c.offset-3.ensures) (simp to_z-of_z at c.offset.ensures) (simp to_z-of_z at c.offset-2.ensures) in
    (rw (← c.self.view_is, ← c.c.view_is) all.0, all.3, all.4)

pub overflow_mul-rounds : goal.overflow_mul-rounds
overflow_mul-rounds c = (rounds c).0

pub overflow_add-rounds : goal.overflow_add-rounds
overflow_add-rounds c = (rounds c).1

pub overflow_mul-result : goal.overflow_mul-result
overflow_mul-result c = (whole c).1

pub overflow_add-result : goal.overflow_add-result
overflow_add-result c = (whole c).2

pub returns-clause-stands : goal.returns-clause-stands
returns-clause-stands c = rw ((whole c).0) (stands_at_place c.args.self.now c.args.c.now c.requires)

pub returns-clause-below : goal.returns-clause-below
returns-clause-below c = rw ((whole c).0) (place_below c.args.self.now c.args.c.now c.requires)

pub returns-clause-only_there : goal.returns-clause-only_there
returns-clause-only_there c j at = stands_once c.args.self.now j _ _ at (returns-clause-stands c)
