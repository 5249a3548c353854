use Rattle.std.proofs.Common.{sym, arith, to_z, of_z, w32}
use Rattle.std.proofs.lemmas.Bool.{false≢true}
use Rattle.std.proofs.lemmas.Int.{clamps, ints}
use Rattle.pooma_fill.proofs.Beside.{none_common, within_common}
use Rattle.pooma_fill.proofs.boxes.common.Goals as goal

pub returns-then-first-last-clause-found : goal.returns-then-first-last-clause-found
returns-then-first-last-clause-found c x =
    within_common c.args.low c.args.high c.args.part.first c.args.part.last (to_z w32 (of_z w32 c.max-first.result)) (to_z w32 (of_z w32 c.min-last.result)) x
    (omega (arith, ints, clamps, c.max-first.ensures.value)) (omega (arith, ints, clamps, c.min-last.ensures.value))

pub returns-then-first-last-clause-none : goal.returns-then-first-last-clause-none
returns-then-first-last-clause-none c e = absurd (false≢true (sym e))

pub returns-else-first-last-clause-none : goal.returns-else-first-last-clause-none
returns-else-first-last-clause-none c e x =
    none_common c.args.low c.args.high c.args.part.first c.args.part.last c.max-first.result c.min-last.result x (omega (arith, ints, clamps, c.max-first.ensures.value)) (omega (arith, ints, clamps, c.min-last.ensures.value)) (omega (arith, ints, c.if-first-last.false))
