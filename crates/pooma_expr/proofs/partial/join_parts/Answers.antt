use Rattle.std.proofs.Common.{◌≤◌, FitsSigned, length, arith, rules, ◌∙◌}
use Rattle.std.specs.Int.{w64}
use Rattle.std.proofs.lemmas.Int.{to_z-of_z}
use Rattle.pooma_expr.proofs.Joins.{both_joined}
use Rattle.pooma_expr.proofs.partial.join_parts.Goals as goal

pub returns-else-more-eq0 : goal.returns-else-more-eq0
returns-else-more-eq0 c = λ xs ys fx fy hx hy ex ey.
    let some : 1 ≤ length xs = omega (arith, hx, c.if-count-eq0.false) in
    let others : 1 ≤ length ys = omega (arith, hy, c.if-more-eq0.false) in
    let x_fits : FitsSigned w64 c.args.x = c.ranges.x in
    let y_fits : FitsSigned w64 c.args.y = c.ranges.y in
    let fits : FitsSigned w64 c.join.result = search rules in
    let joined = simp to_z-of_z at c.join.ensures in
    simp to_z-of_z (joined ∙ both_joined c.args.reduction xs ys _ _ fx fy some others ex ey)
