use Rattle.std.proofs.Common.{arith, ◌≡◌, ◌*◌, ◌-◌, pos, neg_ℤ, ◌-ℤ◌, ◌+ℤ◌, to_z, of_z, w64, ℤ, subst, ◌↔◌}
use Rattle.std.proofs.lemmas.Int.{ints}
use Rattle.pooma_view.specs.Steps.{IsStepping}
use Rattle.pooma_view.proofs.Runs.{stepping_mirrored}
use Rattle.pooma_view.proofs.common.Run.mirrored.Goals as goal

pub returns : goal.returns
returns c z =
    let is : neg_ℤ (c.args.self.start +ℤ pos (c.args.self.step * (c.args.self.count - 1))) ≡ to_z w64 (of_z w64 (pos 0 -ℤ to_z w64 (of_z w64 (to_z w64 (of_z w64 c.args.self.start) +ℤ to_z w64 (c.args.self.step * (c.args.self.count - 1)))))) =
    omega (arith, ints, c.args.self.low, c.args.self.high) in
    subst (λ (s : ℤ). IsStepping s c.args.self.step c.args.self.count z ↔ IsStepping c.args.self.start c.args.self.step c.args.self.count (neg_ℤ z)) is
    (stepping_mirrored c.args.self.start z c.args.self.step c.args.self.count)
