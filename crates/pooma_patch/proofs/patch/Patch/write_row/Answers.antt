use Rattle.std.proofs.Common.{rules, sym, ap, ◌∙◌, subst, ◌≡◌, ℤ, pos, List, length, slice_index_or, to_z, of_z, w32, w64}
use Rattle.pooma_compress.specs.Rows.{row_place, IsRowWithin}
use Rattle.pooma_domain.specs.Cells.{Interval}
use Rattle.pooma_field.specs.Numbered.{place_in}
use Rattle.pooma_patch.specs.Patched.{Patched}
use Rattle.pooma_patch.specs.Rows.{row_cell, ArePlaced, IsRowIn}
use Rattle.pooma_patch.proofs.RowCells.{HasPlaceLaws, stands_beside}
use Rattle.pooma_patch.proofs.patch.Patch.write_row.Goals as goal

pub row_places-place-requires-clause-inside : goal.row_places-place-requires-clause-inside
row_places-place-requires-clause-inside c =
    let stride_is : to_z w32 (of_z w32 c.args.stride) ≡ c.args.stride = search rules in
    subst (λ (s : ℤ). IsRowIn c.args.self.now.content.area c.args.first.now c.args.axis s (length c.args.row.now)) (sym stride_is) c.requires.inside

pub write_row-requires-clause-within : goal.write_row-requires-clause-within
write_row-requires-clause-within c =
    let step_is : to_z w64 (of_z w64 c.row_places-place.result.1) ≡ c.row_places-place.result.1 = search rules in
    let numbers : c.self.inside.cells.numbers ≡ c.args.self.now.content.numbers = ap (λ (p : Patched). p.content.numbers) c.self.view_is in
    subst (λ (s : ℤ). IsRowWithin c.row_places-place.result.0 s (length c.args.row.now) (length c.self.inside.cells.numbers)) (sym step_is)
    (subst (λ (xs : List ℤ). IsRowWithin c.row_places-place.result.0 c.row_places-place.result.1 (length c.args.row.now) (length xs)) (sym numbers) c.row_places-place.ensures.within)

pub returns-clause-row : goal.returns-clause-row
returns-clause-row c k below =
    let stride_is : to_z w32 (of_z w32 c.args.stride) ≡ c.args.stride = search rules in
    let placed : ArePlaced c.args.self.now.content.area c.args.first.now c.args.axis c.args.stride (length c.args.row.now) c.row_places-place.result.0 c.row_places-place.result.1 =
    subst (λ (s : ℤ). ArePlaced c.args.self.now.content.area c.args.first.now c.args.axis s (length c.args.row.now) c.row_places-place.result.0 c.row_places-place.result.1) stride_is c.row_places-place.ensures.placed in
    let step_is : to_z w64 (of_z w64 c.row_places-place.result.1) ≡ c.row_places-place.result.1 = search rules in
    let area : c.self.inside.area ≡ c.args.self.now.content.area = ap (λ (p : Patched). p.content.area) c.self.view_is in
    sym (c.write_row.ensures.row k (place_in c.self.inside.area (row_cell c.args.first.now c.args.axis c.args.stride k)) below
    (ap (λ (a : List Interval). pos (place_in a (row_cell c.args.first.now c.args.axis c.args.stride k))) area
    ∙ placed k below ∙ ap (λ (s : ℤ). row_place c.row_places-place.result.0 s k) (sym step_is)))

pub returns-clause-kept : goal.returns-clause-kept
returns-clause-kept c cell inside other =
    let stride_is : to_z w32 (of_z w32 c.args.stride) ≡ c.args.stride = search rules in
    let placed : ArePlaced c.args.self.now.content.area c.args.first.now c.args.axis c.args.stride (length c.args.row.now) c.row_places-place.result.0 c.row_places-place.result.1 =
    subst (λ (s : ℤ). ArePlaced c.args.self.now.content.area c.args.first.now c.args.axis s (length c.args.row.now) c.row_places-place.result.0 c.row_places-place.result.1) stride_is c.row_places-place.ensures.placed in
    let laws : HasPlaceLaws = record { stands = c.numbers_of_cells.ensures.stands; only_there = c.numbers_of_cells.ensures.only_there; lengths = c.coordinates_of_cells.ensures.length; steps = c.neighbours_in_order.ensures.steps } in
    let step_is : to_z w64 (of_z w64 c.row_places-place.result.1) ≡ c.row_places-place.result.1 = search rules in
    let area : c.self.inside.area ≡ c.args.self.now.content.area = ap (λ (p : Patched). p.content.area) c.self.view_is in
    let numbers : c.self.inside.cells.numbers ≡ c.args.self.now.content.numbers = ap (λ (p : Patched). p.content.numbers) c.self.view_is in
    c.write_row.ensures.beside (place_in c.self.inside.area cell)
    (λ k below at. stands_beside laws c.args.self.now.content.area c.args.first.now c.args.axis c.args.stride c.row_places-place.result.1 (length c.args.row.now) c.row_places-place.result.0 cell c.requires.inside placed inside other k below
    (ap (λ (a : List Interval). pos (place_in a cell)) (sym area) ∙ at ∙ ap (λ (s : ℤ). row_place c.row_places-place.result.0 s k) step_is))
    ∙ ap (λ (xs : List ℤ). slice_index_or xs (place_in c.self.inside.area cell) (pos 0)) numbers
    ∙ ap (λ (a : List Interval). slice_index_or c.args.self.now.content.numbers (place_in a cell) (pos 0)) area
