use Rattle.std.proofs.Common.{◌≡◌, ◌∙◌, sym, ap, subst, arith, inl, ℤ, ◌≤ℤ◌, to_z, of_z, w32, List, length, length-set, slice_get}
use Rattle.std.proofs.lemmas.Int.{ints}
use Rattle.std.proofs.lemmas.Option.{get_or_from_slice_get, same_Some}
use Rattle.std.specs.Prelude.{◌↔◌, IfSome}
use Rattle.pooma_domain.specs.Axes.{interval_of}
use Rattle.pooma_domain.specs.Cells.{Interval, IsIn}
use Rattle.pooma_field.specs.Slabs.{axis_at}
use Rattle.pooma_fill.proofs.Cuts.{at_own, axis_set, part_by_coordinate}
use Rattle.pooma_fill.proofs.boxes.from_number.Goals as goal

pub cut-requires-clause-between : goal.cut-requires-clause-between
cut-requires-clause-between c whole at =
    let same : interval_of c.axis.result ≡ whole = same_Some _ _ (sym c.axis.ensures ∙ at) in
    let of_axis : axis_at c.args.cells.now c.args.axis ≡ whole = get_or_from_slice_get c.args.cells.now c.args.axis whole _ at in
    let first : c.axis.result.first ≡ whole.first = ap (λ (a : Interval). a.first) same in
    let last : (axis_at c.args.cells.now c.args.axis).last ≡ whole.last = ap (λ (a : Interval). a.last) of_axis in
    (omega (arith, ints, first, c.if-axis-first.true), omega (arith, ints, last, c.requires.some))

pub returns-then-axis-first-clause-cells : goal.returns-then-axis-first-clause-cells
returns-then-axis-first-clause-cells c cell =
    part_by_coordinate c.args.cells.now c.cut.result.1 c.args.axis (λ x. c.args.first ≤ℤ x) c.requires.there
    (λ d. subst (λ (z : ℤ). IsIn c.cut.result.1 d ↔ (IsIn c.args.cells.now d × IfSome (slice_get d c.args.axis) (λ x. z ≤ℤ x))) (let same : to_z w32 (of_z w32 c.args.first) ≡ c.args.first = omega (arith, ints) in same) (c.cut.ensures.upper_cells d)) cell

pub returns-then-axis-first-clause-dims : goal.returns-then-axis-first-clause-dims
returns-then-axis-first-clause-dims c =
    ap length (c.cut.ensures.upper_axes (interval_of c.axis.result) c.axis.ensures) ∙ length-set c.args.cells.now c.args.axis _

pub returns-then-axis-first-clause-low : goal.returns-then-axis-first-clause-low
returns-then-axis-first-clause-low c =
    let is = ap (λ (box : List Interval). (axis_at box c.args.axis).first) (c.cut.ensures.upper_axes (interval_of c.axis.result) c.axis.ensures)
    ∙ ap (λ (a : Interval). a.first) (axis_set c.args.cells.now c.args.axis _ c.requires.there) in
    inl (omega (arith, ints, is))

pub returns-else-axis-first-clause-cells : goal.returns-else-axis-first-clause-cells
returns-else-axis-first-clause-cells c cell = (
  λ h. (h, (let on = at_own c.args.cells.now c.args.axis (interval_of c.axis.result) cell c.axis.ensures h in omega (arith, ints, on.low, c.if-axis-first.false))),
  λ h. h.0,
)
