use Rattle.std.proofs.Common.{◌≡◌, subst, sym, rules, take, [], ◌∷◌, List, to_z, of_z, w32, FitsSigned}
use Rattle.std.proofs.lemmas.Int.{to_z-of_z}
use Rattle.pooma_domain.specs.Cells.{Interval, interval}
use Rattle.pooma_domain.specs.Operations.{IsShifted, shifted}
use Rattle.pooma_domain.specs.Padding.{IsPaddedBox}
use Rattle.pooma_domain.proofs.BoxSets.{shifted_is}
use Rattle.pooma_domain.proofs.PaddedMoves.{shift_needs, shift_makes}
use Rattle.pooma_domain.proofs.boxes.BoxN.shift.Goals as goal

pub shift-requires : goal.shift-requires
shift-requires c =
    let by : to_z w32 (of_z w32 c.by.inside.x) ≡ c.by.inside.x = search rules in
    rw by
    (shift_needs _ _ _ _ _ _ _ _ _ _ c.self.invariant c.by.invariant c.self.view_is c.by.view_is c.requires.same_dims c.requires.valid).0.x_axis

pub shift-requires-2 : goal.shift-requires-2
shift-requires-2 c =
    let by : to_z w32 (of_z w32 c.by.inside.y) ≡ c.by.inside.y = search rules in
    rw by
    (shift_needs _ _ _ _ _ _ _ _ _ _ c.self.invariant c.by.invariant c.self.view_is c.by.view_is c.requires.same_dims c.requires.valid).0.y_axis

pub shift-requires-3 : goal.shift-requires-3
shift-requires-3 c =
    let by : to_z w32 (of_z w32 c.by.inside.z) ≡ c.by.inside.z = search rules in
    rw by
    (shift_needs _ _ _ _ _ _ _ _ _ _ c.self.invariant c.by.invariant c.self.view_is c.by.view_is c.requires.same_dims c.requires.valid).0.z_axis

-- the three spans are kept as the shifted box
made : (c : goal.After-shift-3) → IsPaddedBox c.self.inside.dims (interval c.shift.result.first c.shift.result.last) (interval c.shift-2.result.first c.shift-2.result.last) (interval c.shift-3.result.first c.shift-3.result.last) × (take c.self.inside.dims (interval c.shift.result.first c.shift.result.last ∷ interval c.shift-2.result.first c.shift-2.result.last ∷ interval c.shift-3.result.first c.shift-3.result.last ∷ []) ≡ shifted c.args.self.now c.args.by.now)
made c =
    let x_fits : FitsSigned w32 c.by.inside.x = search rules in
    let y_fits : FitsSigned w32 c.by.inside.y = search rules in
    let z_fits : FitsSigned w32 c.by.inside.z = search rules in
    shift_makes _ _ _ _ _ _ _ _ _ _ _ _ _ c.self.invariant c.by.invariant c.self.view_is c.by.view_is c.requires.same_dims c.requires.valid
    (simp to_z-of_z at c.shift.ensures.first) (simp to_z-of_z at c.shift.ensures.last)
    (simp to_z-of_z at c.shift-2.ensures.first) (simp to_z-of_z at c.shift-2.ensures.last)
    (simp to_z-of_z at c.shift-3.ensures.first) (simp to_z-of_z at c.shift-3.ensures.last)

pub invariant_of-result : goal.invariant_of-result
invariant_of-result c = (made c).0

pub returns-clause-axes : goal.returns-clause-axes
returns-clause-axes c = (made c).1

pub returns-clause-cells : goal.returns-clause-cells
returns-clause-cells c =
    subst (λ (b : List Interval). IsShifted c.args.self.now c.args.by.now b) (sym (returns-clause-axes c))
    (shifted_is c.args.self.now c.args.by.now c.requires.same_dims)
