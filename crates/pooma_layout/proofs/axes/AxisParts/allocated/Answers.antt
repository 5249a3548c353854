use Rattle.std.proofs.Common.{arith, ap, ◌∙◌}
use Rattle.std.proofs.lemmas.Int.{ints, clamps}
use Rattle.std.proofs.lemmas.Option.{slice_get-map}
use Rattle.std.specs.Prelude.{◌≤ℤ◌, Some}
use Rattle.pooma_domain.specs.Axes.{interval_of}
use Rattle.pooma_domain.specs.Cells.{Interval}
use Rattle.pooma_layout.specs.Axes.{total_axis, allocated_part, parts}
use Rattle.pooma_layout.proofs.Allocating.{part_within}
use Rattle.pooma_layout.proofs.Counting.{same_interval}
use Rattle.pooma_layout.proofs.axes.AxisParts.allocated.Goals as goal

pub invariant_of-result : goal.invariant_of-result
invariant_of-result c =
    let inside : ((total_axis c.args.self.now).first ≤ℤ c.part-part.result.first) × (c.part-part.result.first ≤ℤ c.part-part.result.last) × (c.part-part.result.last ≤ℤ (total_axis c.args.self.now).last) =
    part_within c.args.self.now c.args.k (interval_of c.part-part.result) c.internal-depth.ensures.valid c.part-part.ensures in
    let first = ap (λ (i : Interval). i.first) c.total-total.ensures in
    let last = ap (λ (i : Interval). i.last) c.total-total.ensures in
    record {
      ordered = omega (arith, ints, clamps, inside, first, last);
      low = omega (arith, ints, clamps, inside, first, last);
      high = omega (arith, ints, clamps, inside, first, last);
    }

pub returns : goal.returns
returns c =
    let first = ap (λ (i : Interval). i.first) c.total-total.ensures in
    let last = ap (λ (i : Interval). i.last) c.total-total.ensures in
    slice_get-map (allocated_part c.args.self.now) (parts c.args.self.now) c.args.k
    ∙ rw c.part-part.ensures (ap Some (same_interval _ _ (omega (arith, ints, clamps, first, last)) (omega (arith, ints, clamps, first, last))))
