use Rattle.std.proofs.Common.{arith, ◌≡◌, ◌<◌, sym, ap, ◌∙◌, Some, [], ◌∷◌, take, to_z, of_z, w32}
use Rattle.std.proofs.lemmas.Int.{ints}
use Rattle.pooma_domain.specs.Cells.{Interval, interval}
use Rattle.pooma_domain.proofs.CellOrder.{stands_at, standing_is_in, stands_once, cell_of}
use Rattle.pooma_domain.proofs.PaddedBox.{padded_cell_at, volume_parts, volume, length-cells-box}
use Rattle.pooma_domain.proofs.boxes.BoxN.cell_at.Goals as goal

pub at-requires-3-clause-within : goal.at-requires-3-clause-within
at-requires-3-clause-within c =
    let x : Interval = interval c.self.inside.x.first c.self.inside.x.last in
    let y : Interval = interval c.self.inside.y.first c.self.inside.y.last in
    let z : Interval = interval c.self.inside.z.first c.self.inside.z.last in
    let within : c.args.k < volume x y z = rw (← length-cells-box _ _ _ _ c.self.invariant, c.self.view_is) c.requires in
    rw (c.len-width.ensures.value, c.len-height.ensures.value) (volume_parts x y z c.args.k within).2

pub invariant_of-result : goal.invariant_of-result
invariant_of-result c =
    (padded_cell_at _ _ _ _ c.args.k c.len-width.result c.len-height.result _ _ _ c.self.invariant (rw c.self.view_is c.requires) c.len-width.ensures.value c.len-height.ensures.value (omega (arith, ints, c.at.ensures)) (omega (arith, ints, c.at-2.ensures)) (omega (arith, ints, c.at-3.ensures))).0

-- the three numbers are the cell at that place
cell_is : (c : goal.After-at-3) → take c.self.inside.dims (to_z w32 (of_z w32 c.at.result) ∷ to_z w32 (of_z w32 c.at-2.result) ∷ to_z w32 (of_z w32 c.at-3.result) ∷ []) ≡ cell_of c.args.self.now c.args.k
cell_is c =
    rw (← c.self.view_is)
    (padded_cell_at _ _ _ _ c.args.k c.len-width.result c.len-height.result (to_z w32 (of_z w32 c.at.result)) (to_z w32 (of_z w32 c.at-2.result)) (to_z w32 (of_z w32 c.at-3.result)) c.self.invariant (rw c.self.view_is c.requires) c.len-width.ensures.value c.len-height.ensures.value (omega (arith, ints, c.at.ensures)) (omega (arith, ints, c.at-2.ensures)) (omega (arith, ints, c.at-3.ensures))).1

pub returns-clause-stands : goal.returns-clause-stands
returns-clause-stands c = stands_at c.args.self.now c.args.k c.requires ∙ ap Some (sym (cell_is c))

pub returns-clause-inside : goal.returns-clause-inside
returns-clause-inside c = standing_is_in c.args.self.now c.args.k _ (returns-clause-stands c)

pub returns-clause-only_there : goal.returns-clause-only_there
returns-clause-only_there c j at = stands_once c.args.self.now j c.args.k _ at (returns-clause-stands c)
