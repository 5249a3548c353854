use Rattle.std.proofs.Common.{◌≡◌, sym, ap, arith}
use Rattle.std.proofs.lemmas.Bool.{false≢true}
use Rattle.std.proofs.lemmas.Int.{ints}
use Rattle.std.proofs.lemmas.Option.{get_or_from_slice_get}
use Rattle.pooma_domain.specs.Axes.{interval_of}
use Rattle.pooma_domain.specs.Cells.{Interval}
use Rattle.pooma_field.specs.Slabs.{axis_at}
use Rattle.pooma_fill.proofs.Cuts.{at_own, low_within}
use Rattle.pooma_fill.proofs.boxes.narrowed.Goals as goal

pub returns-then-numbers-whole-clause-none : goal.returns-then-numbers-whole-clause-none
returns-then-numbers-whole-clause-none c e cell h on =
    let own = at_own c.args.cells.now c.args.axis (interval_of c.axis-whole.result) cell c.axis-whole.ensures h in
    omega (arith, ints, own.low, on.high, c.if-numbers-whole.true)

pub returns-then-whole-numbers-clause-none : goal.returns-then-whole-numbers-clause-none
returns-then-whole-numbers-clause-none c e cell h on =
    let own = at_own c.args.cells.now c.args.axis (interval_of c.axis-whole.result) cell c.axis-whole.ensures h in
    omega (arith, ints, own.high, on.low, c.if-whole-numbers.true)

pub from_number-above-requires-clause-some : goal.from_number-above-requires-clause-some
from_number-above-requires-clause-some c =
    let last = ap (λ (a : Interval). a.last) (get_or_from_slice_get c.args.cells.now c.args.axis (interval_of c.axis-whole.result) _ c.axis-whole.ensures) in
    let is : (axis_at c.args.cells.now c.args.axis).last ≡ c.axis-whole.result.last = last in
    omega (arith, ints, is, c.if-whole-numbers.false)

pub up_to_number-requires-clause-there : goal.up_to_number-requires-clause-there
up_to_number-requires-clause-there c = omega (arith, c.from_number-above.ensures.dims, c.requires)

pub up_to_number-requires-clause-some : goal.up_to_number-requires-clause-some
up_to_number-requires-clause-some c =
    let first = ap (λ (a : Interval). a.first) (get_or_from_slice_get c.args.cells.now c.args.axis (interval_of c.axis-whole.result) _ c.axis-whole.ensures) in
    let is : (axis_at c.args.cells.now c.args.axis).first ≡ c.axis-whole.result.first = first in
    low_within _ _ c.args.cells.now c.from_number-above.result c.args.axis c.from_number-above.ensures.low (omega (arith, ints, c.args.numbers.ordered)) (omega (arith, ints, is, c.if-numbers-whole.false))

pub returns-clause-found : goal.returns-clause-found
returns-clause-found c cell = (
  λ h.
      let second = (c.up_to_number.ensures.cells cell).0 h in
      let first = (c.from_number-above.ensures.cells cell).0 second.0 in
      (first.0, record { low = omega (arith, ints, first.1); high = omega (arith, ints, second.1) }),
  λ h. (c.up_to_number.ensures.cells cell).1 ((c.from_number-above.ensures.cells cell).1 (h.0, omega (arith, ints, h.1.low)), omega (arith, ints, h.1.high)),
)

pub returns-clause-none : goal.returns-clause-none
returns-clause-none c e = absurd (false≢true (sym e))

pub returns-clause-dims : goal.returns-clause-dims
returns-clause-dims c = omega (arith, c.up_to_number.ensures.dims, c.from_number-above.ensures.dims)
