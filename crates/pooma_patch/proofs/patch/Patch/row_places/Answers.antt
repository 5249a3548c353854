use Rattle.std.proofs.Common.{rules, sym, ap, ◌∙◌, subst, arith, ◌≡◌, ℕ, ◌^◌, ◌<◌, ℤ, pos, ◌*ℤ◌, List, Some, length, slice_get, to_z, of_z, w32, w64}
use Rattle.pooma_compress.specs.Rows.{row_place}
use Rattle.pooma_domain.specs.Cells.{Interval, cells_of, IsIn}
use Rattle.pooma_domain.specs.Neighbours.{axis_stride}
use Rattle.pooma_patch.proofs.RowCells.{HasPlaceLaws, first_cell, one_placed, placed_by_strides, places_within, step_fits, step_moves}
use Rattle.pooma_patch.proofs.patch.Patch.row_places.Goals as goal

pub place_of-place-requires : goal.place_of-place-requires
place_of-place-requires c =
    subst (λ (a : List Interval). IsIn a c.args.first.now) (sym c.area-area.ensures.value)
    (subst (λ (cell : List ℤ). IsIn c.args.self.now.content.area cell) (first_cell c.args.first.now c.args.axis c.args.stride) (c.requires.inside 0 c.requires.some))

pub scaled-step-requires-clause-fits : goal.scaled-step-requires-clause-fits
scaled-step-requires-clause-fits c =
    let laws : HasPlaceLaws = record { stands = c.numbers_of_cells.ensures.stands; only_there = c.numbers_of_cells.ensures.only_there; lengths = c.coordinates_of_cells.ensures.length; steps = c.neighbours_in_order.ensures.steps } in
    let stride_is : to_z w32 (of_z w32 c.args.stride) ≡ c.args.stride = search rules in
    let by : c.stride.result ≡ axis_stride c.args.self.now.content.area c.args.axis = c.stride.ensures.value ∙ ap (λ (a : List Interval). axis_stride a c.args.axis) c.area-area.ensures.value in
    let at : slice_get (cells_of c.args.self.now.content.area) c.place_of-place.result ≡ Some c.args.first.now = ap (λ (a : List Interval). slice_get (cells_of a) c.place_of-place.result) (sym c.area-area.ensures.value) ∙ c.place_of-place.ensures.stands in
    let few : length (cells_of c.area-area.result) < 2 ^ 63 = omega arith in
    let small : length (cells_of c.args.self.now.content.area) < 2 ^ 63 = subst (λ (a : List Interval). length (cells_of a) < 2 ^ 63) c.area-area.ensures.value few in
    rw (stride_is, by) (step_fits laws c.args.self.now.content.area c.args.first.now c.args.axis c.args.stride c.args.count c.place_of-place.result c.requires.axis at c.requires.inside c.if-count-gt1.true small)

pub returns-then-count-gt1-clause-placed : goal.returns-then-count-gt1-clause-placed
returns-then-count-gt1-clause-placed c k below =
    let laws : HasPlaceLaws = record { stands = c.numbers_of_cells.ensures.stands; only_there = c.numbers_of_cells.ensures.only_there; lengths = c.coordinates_of_cells.ensures.length; steps = c.neighbours_in_order.ensures.steps } in
    let stride_is : to_z w32 (of_z w32 c.args.stride) ≡ c.args.stride = search rules in
    let step_is : to_z w64 (of_z w64 c.scaled-step.result) ≡ c.scaled-step.result = search rules in
    let by : c.stride.result ≡ axis_stride c.args.self.now.content.area c.args.axis = c.stride.ensures.value ∙ ap (λ (a : List Interval). axis_stride a c.args.axis) c.area-area.ensures.value in
    let step : c.scaled-step.result ≡ c.args.stride *ℤ pos (axis_stride c.args.self.now.content.area c.args.axis) = c.scaled-step.ensures ∙ ap (λ (z : ℤ). z *ℤ pos c.stride.result) stride_is ∙ ap (λ (n : ℕ). c.args.stride *ℤ pos n) by in
    let at : slice_get (cells_of c.args.self.now.content.area) c.place_of-place.result ≡ Some c.args.first.now = ap (λ (a : List Interval). slice_get (cells_of a) c.place_of-place.result) (sym c.area-area.ensures.value) ∙ c.place_of-place.ensures.stands in
    placed_by_strides laws c.args.self.now.content.area c.args.first.now c.args.axis c.args.stride c.args.count c.place_of-place.result c.requires.axis at c.requires.inside k below
    ∙ ap (λ (z : ℤ). row_place c.place_of-place.result z k) (sym (step_is ∙ step))

pub returns-then-count-gt1-clause-within : goal.returns-then-count-gt1-clause-within
returns-then-count-gt1-clause-within c =
    let laws : HasPlaceLaws = record { stands = c.numbers_of_cells.ensures.stands; only_there = c.numbers_of_cells.ensures.only_there; lengths = c.coordinates_of_cells.ensures.length; steps = c.neighbours_in_order.ensures.steps } in
    places_within laws c.args.self.now.content.area c.args.first.now c.args.axis c.args.stride _ c.args.count c.place_of-place.result (length c.args.self.now.content.numbers) c.requires.inside (returns-then-count-gt1-clause-placed c) c.area-area.ensures.full

pub returns-then-count-gt1-clause-apart : goal.returns-then-count-gt1-clause-apart
returns-then-count-gt1-clause-apart c =
    let laws : HasPlaceLaws = record { stands = c.numbers_of_cells.ensures.stands; only_there = c.numbers_of_cells.ensures.only_there; lengths = c.coordinates_of_cells.ensures.length; steps = c.neighbours_in_order.ensures.steps } in
    let in_area : IsIn c.args.self.now.content.area c.args.first.now = subst (λ (cell : List ℤ). IsIn c.args.self.now.content.area cell) (first_cell c.args.first.now c.args.axis c.args.stride) (c.requires.inside 0 c.requires.some) in
    step_moves laws c.args.self.now.content.area c.args.first.now c.args.axis c.args.stride _ c.args.count c.place_of-place.result c.requires.axis in_area c.requires.inside c.if-count-gt1.true (returns-then-count-gt1-clause-placed c)

pub returns-else-count-gt1-clause-placed : goal.returns-else-count-gt1-clause-placed
returns-else-count-gt1-clause-placed c =
    let laws : HasPlaceLaws = record { stands = c.numbers_of_cells.ensures.stands; only_there = c.numbers_of_cells.ensures.only_there; lengths = c.coordinates_of_cells.ensures.length; steps = c.neighbours_in_order.ensures.steps } in
    let at : slice_get (cells_of c.args.self.now.content.area) c.place_of-place.result ≡ Some c.args.first.now = ap (λ (a : List Interval). slice_get (cells_of a) c.place_of-place.result) (sym c.area-area.ensures.value) ∙ c.place_of-place.ensures.stands in
    one_placed laws c.args.self.now.content.area c.args.first.now c.args.axis c.args.stride _ c.args.count c.place_of-place.result at c.if-count-gt1.false

pub returns-else-count-gt1-clause-within : goal.returns-else-count-gt1-clause-within
returns-else-count-gt1-clause-within c =
    let laws : HasPlaceLaws = record { stands = c.numbers_of_cells.ensures.stands; only_there = c.numbers_of_cells.ensures.only_there; lengths = c.coordinates_of_cells.ensures.length; steps = c.neighbours_in_order.ensures.steps } in
    places_within laws c.args.self.now.content.area c.args.first.now c.args.axis c.args.stride _ c.args.count c.place_of-place.result (length c.args.self.now.content.numbers) c.requires.inside (returns-else-count-gt1-clause-placed c) c.area-area.ensures.full
