use Rattle.std.proofs.Common.{arith}
use Rattle.std.proofs.lemmas.Int.{ints}
use Rattle.pooma_domain.specs.Axes.{interval_of}
use Rattle.pooma_fill.proofs.Taken.{all_above, all_below}
use Rattle.pooma_fill.proofs.boxes.ends_beside.Goals as goal

pub returns-then-axis-part : goal.returns-then-axis-part
returns-then-axis-part c x on =
    c.ends_above.ensures x on (all_above (interval_of c.args.axis) (interval_of c.args.part) x c.requires.near (omega (arith, ints, c.if-axis-part.true)) on)

pub returns-else-axis-part : goal.returns-else-axis-part
returns-else-axis-part c x on =
    c.ends_below.ensures x on (all_below (interval_of c.args.axis) (interval_of c.args.part) x c.args.part.ordered c.requires.near (omega (arith, ints, c.if-axis-part.false)) on)
