use Rattle.std.proofs.Common.{◌≡◌, sym, arith, suc, ◌-◌, length, drop}
use Rattle.std.proofs.lemmas.List.Elements.{All-head}
use Rattle.pooma_domain.specs.Axes.{interval_of}
use Rattle.pooma_domain.specs.Cells.{IsAxis, IsBox}
use Rattle.pooma_field.specs.Shapes.{slab_axes}
use Rattle.pooma_field.proofs.SlabBoxes.{box_of_first, box_of_later, later_box, length_drop, slab_of_later, some_first}
use Rattle.pooma_field.proofs.beside.+target.Goals as goal

pub beyond-numbers-requires : goal.beyond-numbers-requires
beyond-numbers-requires t c =
    All-head IsAxis _ _ (box_of_first c.args.high c.args.axis c.args.physical.now c.args.total.now (interval_of c.axis.result) (interval_of c.axis-then-axis-eq0.result) (omega (arith, c.if-axis-eq0.true)) c.axis.ensures c.axis-then-axis-eq0.ensures c.requires.valid).whole

pub after-requires : goal.after-requires
after-requires t c =
    rw (c.beyond-numbers.ensures, c.rest.ensures)
    (box_of_first c.args.high c.args.axis c.args.physical.now c.args.total.now (interval_of c.axis.result) (interval_of c.axis-then-axis-eq0.result) (omega (arith, c.if-axis-eq0.true)) c.axis.ensures c.axis-then-axis-eq0.ensures c.requires.valid)

pub target-later-requires : goal.target-later-requires
target-later-requires t c =
    let of_p : suc (length (drop 1 c.args.physical.now)) ≡ length c.args.physical.now = length_drop c.args.physical.now (omega (arith, c.requires.there)) in
    let of_t : suc (length (drop 1 c.args.total.now)) ≡ length c.args.total.now = length_drop c.args.total.now (omega (arith, c.requires.there, c.requires.same_dims)) in
    let first = some_first c.args.total.now (omega (arith, c.requires.there, c.requires.same_dims)) in
    let later = slab_axes c.args.high (c.args.axis - 1) (drop 1 c.args.physical.now) (drop 1 c.args.total.now) in
    let box : IsBox later = later_box first.0 later (c.order_of_cells.ensures.counted first.0 later)
    (box_of_later c.args.high c.args.axis (c.args.axis - 1) c.args.physical.now c.args.total.now first.0 (omega (arith, c.if-axis-eq0.false)) c.requires.there first.1 c.requires.valid) in
    rw (c.rest-else-axis-eq0.ensures, c.rest-else-axis-eq0-2.ensures)
    (omega (arith, c.if-axis-eq0.false, c.decreases), (omega (arith, of_p, c.requires.there, c.if-axis-eq0.false), (omega (arith, of_p, of_t, c.requires.same_dims), box)))

pub after-requires-else-axis-eq0 : goal.after-requires-else-axis-eq0
after-requires-else-axis-eq0 t c =
    rw (c.target-later.ensures, c.rest-else-axis-eq0.ensures, c.rest-else-axis-eq0-2.ensures)
    (box_of_later c.args.high c.args.axis (c.args.axis - 1) c.args.physical.now c.args.total.now (interval_of c.axis-else-axis-eq0.result) (omega (arith, c.if-axis-eq0.false)) c.requires.there c.axis-else-axis-eq0.ensures c.requires.valid)

pub returns-else-axis-eq0 : goal.returns-else-axis-eq0
returns-else-axis-eq0 t c =
    rw (c.after-else-axis-eq0.ensures, c.target-later.ensures, c.rest-else-axis-eq0.ensures, c.rest-else-axis-eq0-2.ensures)
    (sym (slab_of_later c.args.high c.args.axis (c.args.axis - 1) c.args.physical.now c.args.total.now (interval_of c.axis-else-axis-eq0.result) (omega (arith, c.if-axis-eq0.false)) c.requires.there c.axis-else-axis-eq0.ensures))
