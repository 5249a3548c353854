use Rattle.std.proofs.Common.{arith, ap, sym, length, get_or, take, ◌≡◌, ◌-◌}
use Rattle.std.proofs.lemmas.Int.{ints}
use Rattle.std.proofs.lemmas.List.{length-take-le}
use Rattle.pooma_domain.specs.Cells.{Interval}
use Rattle.pooma_layout.proofs.Finding.{length-parts, first_begins, later_begins, last_of_front}
use Rattle.pooma_layout.proofs.axes.AxisParts.first_of.Goals as goal

pub slice_bounds-last-end : goal.slice_bounds-last-end
slice_bounds-last-end c =
    sym (length-take-le c.args.k c.borders.result.now (omega (arith, length-parts c.args.self.now, ap length c.borders.ensures.value, c.requires)))

pub returns-in-Some-clause-value : goal.returns-in-Some-clause-value
returns-in-Some-clause-value c =
    let whole : c.args.k ≡ length (take c.args.k c.borders.result.now) =
    sym (length-take-le c.args.k c.borders.result.now (omega (arith, length-parts c.args.self.now, ap length c.borders.ensures.value, c.requires))) in
    let is : get_or c.borders.result.now (c.args.k - 1) c.in-Some.border.now ≡ c.in-Some.border.now =
    last_of_front c.borders.result.now c.args.k c.in-Some.border.now whole c.in-Some.ensures.item.3.0 c.in-Some.ensures.item.1 in
    later_begins c.args.self.now c.args.k _ c.in-Some.border.now (omega (arith, whole, c.in-Some.ensures.item.3.0)) c.requires
    (omega (arith, ints, is, ap (λ xs. get_or xs (c.args.k - 1) c.in-Some.border.now) c.borders.ensures.value))

pub returns-in-None-clause-value : goal.returns-in-None-clause-value
returns-in-None-clause-value c =
    let whole : c.args.k ≡ length (take c.args.k c.borders.result.now) =
    sym (length-take-le c.args.k c.borders.result.now (omega (arith, length-parts c.args.self.now, ap length c.borders.ensures.value, c.requires))) in
    first_begins c.args.self.now c.args.k _ (omega (arith, whole, c.in-None.ensures.item.3))
    (omega (arith, ints, ap (λ (i : Interval). i.first) c.total.ensures))
