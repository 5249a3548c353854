use Rattle.std.proofs.Common.{◌≡◌, sym, ◌∙◌, arith, pos, ◌+ℤ◌, ◌-ℤ◌}
use Rattle.std.proofs.lemmas.Bool.{false≢true}
use Rattle.std.proofs.lemmas.Int.{ints}
use Rattle.pooma_domain.specs.Axes.{interval_of}
use Rattle.pooma_domain.specs.Cells.{axis_length}
use Rattle.pooma_field.proofs.AlongAxes.{length_between}
use Rattle.pooma_field.proofs.shapes.is_around.Goals as goal

pub returns-then-is_within : goal.returns-then-is_within
returns-then-is_within c =
    let most : pos (axis_length (interval_of c.args.physical)) ≡ (c.args.physical.last -ℤ c.args.physical.first) +ℤ pos 1 = length_between (interval_of c.args.physical) c.args.physical.ordered in
    let low = c.is_within.ensures.0 c.if-is_within.true in (
      λ t. let high = c.is_within-then-is_within.ensures.0 t in record {
        low = omega (arith, ints, low.0);
        high = omega (arith, ints, high.0);
        few_low = omega (arith, ints, low.1, most);
        few_high = omega (arith, ints, high.1, most);
      },
      λ h. c.is_within-then-is_within.ensures.1 (omega (arith, ints, h.high), omega (arith, ints, h.few_high, most)),
    )

pub returns-else-is_within : goal.returns-else-is_within
returns-else-is_within c =
    let most : pos (axis_length (interval_of c.args.physical)) ≡ (c.args.physical.last -ℤ c.args.physical.first) +ℤ pos 1 = length_between (interval_of c.args.physical) c.args.physical.ordered in (
      λ t. absurd (false≢true (sym c.if-is_within.false ∙ t)),
      λ h. c.is_within.ensures.1 (omega (arith, ints, h.low), omega (arith, ints, h.few_low, most)),
    )
