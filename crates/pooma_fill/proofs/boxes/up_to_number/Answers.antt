use Rattle.std.proofs.Common.{◌≡◌, ◌∙◌, sym, ap, arith, ◌≤ℤ◌, length, length-set}
use Rattle.std.proofs.lemmas.Int.{ints}
use Rattle.std.proofs.lemmas.Option.{get_or_from_slice_get, same_Some}
use Rattle.pooma_domain.specs.Axes.{interval_of}
use Rattle.pooma_domain.specs.Cells.{Interval}
use Rattle.pooma_field.specs.Slabs.{axis_at}
use Rattle.pooma_fill.proofs.Cuts.{at_own, below_more, part_by_coordinate}
use Rattle.pooma_fill.proofs.boxes.up_to_number.Goals as goal

pub cut-requires-clause-between : goal.cut-requires-clause-between
cut-requires-clause-between c whole at =
    let same : interval_of c.axis.result ≡ whole = same_Some _ _ (sym c.axis.ensures ∙ at) in
    let of_axis : axis_at c.args.cells.now c.args.axis ≡ whole = get_or_from_slice_get c.args.cells.now c.args.axis whole _ at in
    let last : c.axis.result.last ≡ whole.last = ap (λ (a : Interval). a.last) same in
    let first : (axis_at c.args.cells.now c.args.axis).first ≡ whole.first = ap (λ (a : Interval). a.first) of_axis in
    (omega (arith, ints, first, c.requires.some), omega (arith, ints, last, c.if-last-axis.true))

pub returns-then-last-axis-clause-cells : goal.returns-then-last-axis-clause-cells
returns-then-last-axis-clause-cells c cell =
    part_by_coordinate c.args.cells.now c.cut.result.0 c.args.axis (λ x. x ≤ℤ c.args.last) c.requires.there
    (λ d. below_more c.args.cells.now c.cut.result.0 d c.args.axis _ c.args.last (omega (arith, ints)) (c.cut.ensures.lower_cells d)) cell

pub returns-then-last-axis-clause-dims : goal.returns-then-last-axis-clause-dims
returns-then-last-axis-clause-dims c =
    ap length (c.cut.ensures.lower_axes (interval_of c.axis.result) c.axis.ensures) ∙ length-set c.args.cells.now c.args.axis _

pub returns-else-last-axis-clause-cells : goal.returns-else-last-axis-clause-cells
returns-else-last-axis-clause-cells c cell = (
  λ h. (h, (let on = at_own c.args.cells.now c.args.axis (interval_of c.axis.result) cell c.axis.ensures h in omega (arith, ints, on.high, c.if-last-axis.false))),
  λ h. h.0,
)
