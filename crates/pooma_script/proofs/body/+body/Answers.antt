use Rattle.std.proofs.Common.{◌≤◌, ℤ, List, length, arith}
use Rattle.pooma_script.proofs.BodyForms.{depth-Abs, depth-Bin, depth-Neg, depth-Where, in_abs, in_at, in_bin, in_neg, in_where}
use Rattle.pooma_script.proofs.body.+body.Goals as goal

abbrev Fits : List ℤ → Type 0
Fits offset = length offset ≤ 3

pub body-cell_of-requires : goal.body-cell_of-requires
body-cell_of-requires t c = rw c.as_slice.ensures (in_at Fits c.args.expr.now c.in-At.offset c.in-At.is c.requires)

pub body-boxed-requires : goal.body-boxed-requires
body-boxed-requires t c = (omega (arith, c.decreases, depth-Neg _ _ c.in-Neg.is), in_neg Fits c.args.expr.now c.in-Neg.a c.in-Neg.is c.requires)

pub body-boxed-requires-in-Abs : goal.body-boxed-requires-in-Abs
body-boxed-requires-in-Abs t c = (omega (arith, c.decreases, depth-Abs _ _ c.in-Abs.is), in_abs Fits c.args.expr.now c.in-Abs.a c.in-Abs.is c.requires)

pub body-boxed-requires-in-Bin : goal.body-boxed-requires-in-Bin
body-boxed-requires-in-Bin t c =
    (omega (arith, c.decreases, depth-Bin _ _ _ _ c.in-Bin.is), (in_bin Fits c.args.expr.now c.in-Bin.op c.in-Bin.a c.in-Bin.b c.in-Bin.is c.requires).0)

pub body-boxed-requires-in-Bin-2 : goal.body-boxed-requires-in-Bin-2
body-boxed-requires-in-Bin-2 t c =
    (omega (arith, c.decreases, depth-Bin _ _ _ _ c.in-Bin.is), (in_bin Fits c.args.expr.now c.in-Bin.op c.in-Bin.a c.in-Bin.b c.in-Bin.is c.requires).1)

pub body-boxed-requires-in-Where : goal.body-boxed-requires-in-Where
body-boxed-requires-in-Where t c =
    (omega (arith, c.decreases, depth-Where _ _ _ _ c.in-Where.is), (in_where Fits c.args.expr.now c.in-Where.c c.in-Where.a c.in-Where.b c.in-Where.is c.requires).0)

pub body-boxed-requires-in-Where-2 : goal.body-boxed-requires-in-Where-2
body-boxed-requires-in-Where-2 t c =
    (omega (arith, c.decreases, depth-Where _ _ _ _ c.in-Where.is), (in_where Fits c.args.expr.now c.in-Where.c c.in-Where.a c.in-Where.b c.in-Where.is c.requires).1)

pub body-boxed-requires-in-Where-3 : goal.body-boxed-requires-in-Where-3
body-boxed-requires-in-Where-3 t c =
    (omega (arith, c.decreases, depth-Where _ _ _ _ c.in-Where.is), (in_where Fits c.args.expr.now c.in-Where.c c.in-Where.a c.in-Where.b c.in-Where.is c.requires).2)
