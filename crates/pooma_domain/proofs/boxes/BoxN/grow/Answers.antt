use Rattle.std.proofs.Common.{◌≡◌, subst, sym, rules, take, [], ◌∷◌, List, to_z, of_z, w32, FitsSigned}
use Rattle.std.proofs.lemmas.Int.{to_z-of_z}
use Rattle.pooma_domain.specs.Cells.{Interval, interval}
use Rattle.pooma_domain.specs.Operations.{IsGrown, grown, reaches}
use Rattle.pooma_domain.specs.Padding.{IsPaddedBox}
use Rattle.pooma_domain.proofs.BoxSets.{grown_is}
use Rattle.pooma_domain.proofs.PaddedMoves.{grow_needs, grow_makes, ordered_box}
use Rattle.pooma_domain.proofs.boxes.BoxN.grow.Goals as goal

pub grow-requires : goal.grow-requires
grow-requires c =
    let low : to_z w32 (of_z w32 c.low.inside.x) ≡ c.low.inside.x = search rules in
    let high : to_z w32 (of_z w32 c.high.inside.x) ≡ c.high.inside.x = search rules in
    rw (low, high)
    (grow_needs _ _ _ _ _ _ _ _ _ _ _ _ _ _ _ c.self.invariant c.low.invariant c.high.invariant c.self.view_is c.low.view_is c.high.view_is c.requires.same_dims.0 c.requires.same_dims.1 c.requires.valid).0.x_axis

pub grow-requires-2 : goal.grow-requires-2
grow-requires-2 c =
    let low : to_z w32 (of_z w32 c.low.inside.y) ≡ c.low.inside.y = search rules in
    let high : to_z w32 (of_z w32 c.high.inside.y) ≡ c.high.inside.y = search rules in
    rw (low, high)
    (grow_needs _ _ _ _ _ _ _ _ _ _ _ _ _ _ _ c.self.invariant c.low.invariant c.high.invariant c.self.view_is c.low.view_is c.high.view_is c.requires.same_dims.0 c.requires.same_dims.1 c.requires.valid).0.y_axis

pub grow-requires-3 : goal.grow-requires-3
grow-requires-3 c =
    let low : to_z w32 (of_z w32 c.low.inside.z) ≡ c.low.inside.z = search rules in
    let high : to_z w32 (of_z w32 c.high.inside.z) ≡ c.high.inside.z = search rules in
    rw (low, high)
    (grow_needs _ _ _ _ _ _ _ _ _ _ _ _ _ _ _ c.self.invariant c.low.invariant c.high.invariant c.self.view_is c.low.view_is c.high.view_is c.requires.same_dims.0 c.requires.same_dims.1 c.requires.valid).0.z_axis

-- the three spans are kept as the grown box
made : (c : goal.After-grow-3) → IsPaddedBox c.self.inside.dims (interval c.grow.result.first c.grow.result.last) (interval c.grow-2.result.first c.grow-2.result.last) (interval c.grow-3.result.first c.grow-3.result.last) × (take c.self.inside.dims (interval c.grow.result.first c.grow.result.last ∷ interval c.grow-2.result.first c.grow-2.result.last ∷ interval c.grow-3.result.first c.grow-3.result.last ∷ []) ≡ grown c.args.self.now (reaches c.args.low.now c.args.high.now))
made c =
    let low_x : FitsSigned w32 c.low.inside.x = search rules in
    let low_y : FitsSigned w32 c.low.inside.y = search rules in
    let low_z : FitsSigned w32 c.low.inside.z = search rules in
    let high_x : FitsSigned w32 c.high.inside.x = search rules in
    let high_y : FitsSigned w32 c.high.inside.y = search rules in
    let high_z : FitsSigned w32 c.high.inside.z = search rules in
    grow_makes _ _ _ _ _ _ _ _ _ _ _ _ _ _ _ _ _ _ c.self.invariant c.low.invariant c.high.invariant c.self.view_is c.low.view_is c.high.view_is c.requires.same_dims.0 c.requires.same_dims.1 c.requires.valid
    (simp to_z-of_z at c.grow.ensures.first) (simp to_z-of_z at c.grow.ensures.last)
    (simp to_z-of_z at c.grow-2.ensures.first) (simp to_z-of_z at c.grow-2.ensures.last)
    (simp to_z-of_z at c.grow-3.ensures.first) (simp to_z-of_z at c.grow-3.ensures.last)

pub invariant_of-result : goal.invariant_of-result
invariant_of-result c = (made c).0

pub returns-clause-axes : goal.returns-clause-axes
returns-clause-axes c = (made c).1

pub returns-clause-cells : goal.returns-clause-cells
returns-clause-cells c =
    subst (λ (b : List Interval). IsGrown c.args.self.now (reaches c.args.low.now c.args.high.now) b) (sym (returns-clause-axes c))
    (grown_is c.args.self.now c.args.low.now c.args.high.now c.requires.same_dims.0 c.requires.same_dims.1 (ordered_box _ _ _ _ _ c.self.invariant c.self.view_is) c.requires.down c.requires.up)
