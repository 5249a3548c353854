use Rattle.std.proofs.Common.{arith, rules}
use Rattle.std.proofs.lemmas.Int.{ints}
use Rattle.std.specs.Int.{w32, w64}
use Rattle.std.specs.Prelude.{FitsSigned}
use Rattle.pooma_domain.specs.Axes.{interval_of}
use Rattle.pooma_part.proofs.Adding.{pushed}
use Rattle.pooma_part.proofs.borders.add_place.Goals as goal

pub returns : goal.returns
returns c =
    let first : FitsSigned w32 c.args.axis.first = search rules in
    let last : FitsSigned w32 c.args.axis.last = search rules in
    let k : FitsSigned w64 c.args.k = c.ranges.k in
    pushed (interval_of c.args.axis) c.args.places.now.items c.push.new.self.items c.args.k _ c.in_ok-push.ensures.items
    (grind (arith, ints, c.from.ensures, c.from-2.ensures, c.if-k-from.false, c.if-k-from-2.false))
    (grind (arith, ints, c.from.ensures, c.if-k-from.false), grind (arith, ints, c.from-2.ensures, c.if-k-from-2.false))
