use Rattle.std.proofs.Common.{arith}
use Rattle.std.proofs.lemmas.Int.{ints}
use Rattle.std.specs.Prelude.{◌≤ℤ◌}
use Rattle.pooma_part.proofs.Dividing.{ends_within}
use Rattle.pooma_part.proofs.line.Line.part.Goals as goal

pub invariant_of-result : goal.invariant_of-result
invariant_of-result c =
    let inside : (c.args.self.now.whole.first ≤ℤ c.first_of.result) × (c.first_of.result ≤ℤ c.last_of.result) × (c.last_of.result ≤ℤ c.args.self.now.whole.last) =
    ends_within c.args.self.now c.args.k c.first_of.result c.last_of.result c.first_of.ensures.valid c.first_of.ensures.value c.last_of.ensures in
    record {
      ordered = omega (arith, ints, inside);
      low = omega (arith, ints, inside, c.first_of.ensures.valid.axis.low);
      high = omega (arith, ints, inside, c.first_of.ensures.valid.axis.high);
    }
