use Rattle.std.proofs.Common.{arith}
use Rattle.pooma_check.specs.Kept.{known_of}
use Rattle.pooma_check.proofs.Measured.{some_depth}
use Rattle.pooma_check.proofs.measure.+is_tree_within_depth.Goals as goal

pub returns-then-most-eq0 : goal.returns-then-most-eq0
returns-then-most-eq0 t c =
    let some = some_depth (known_of c.args.known.now) c.args.text.now c.args.expr.now in
    (λ h. cc h, λ h. absurd (omega (arith, some, h, c.if-most-eq0.true)))
