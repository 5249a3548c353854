use Rattle.std.proofs.Common.{arith}
use Rattle.std.proofs.lemmas.Int.{ints}
use Rattle.std.specs.Prelude.{◌≤ℤ◌}
use Rattle.pooma_layout.specs.Axes.{total_axis}
use Rattle.pooma_layout.proofs.Finding.{ends_within}
use Rattle.pooma_layout.proofs.axes.AxisParts.part.Goals as goal

pub invariant_of-result : goal.invariant_of-result
invariant_of-result c =
    let inside : ((total_axis c.args.self.now).first ≤ℤ c.first_of.result) × (c.first_of.result ≤ℤ c.last_of.result) × (c.last_of.result ≤ℤ (total_axis c.args.self.now).last) =
    ends_within c.args.self.now c.args.k c.first_of.result c.last_of.result c.first_of.ensures.valid c.first_of.ensures.value c.last_of.ensures in
    record {
      ordered = omega (arith, ints, inside);
      low = omega (arith, ints, inside);
      high = omega (arith, ints, inside);
    }
