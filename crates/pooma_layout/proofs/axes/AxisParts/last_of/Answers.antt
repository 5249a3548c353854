use Rattle.std.proofs.Common.{arith, rules, ap, ◌∙◌, length, get_or, ◌<◌, ◌≡◌}
use Rattle.std.proofs.lemmas.Int.{ints}
use Rattle.std.specs.Prelude.{FitsSigned}
use Rattle.std.specs.Int.{w32}
use Rattle.pooma_domain.specs.Cells.{Interval}
use Rattle.pooma_layout.specs.Axes.{IsBorder}
use Rattle.pooma_layout.proofs.Finding.{last_ends, earlier_ends}
use Rattle.pooma_layout.proofs.axes.AxisParts.last_of.Goals as goal

pub returns-in-Some : goal.returns-in-Some
returns-in-Some c =
    let within : c.args.k < length c.args.self.now.borders = omega (arith, ap length c.borders.ensures.value, c.in-Some.ensures.lookup.3.0) in
    let is : c.in-Some.border.now ≡ get_or c.args.self.now.borders c.args.k c.in-Some.border.now =
    c.in-Some.ensures.lookup.1 ∙ ap (λ xs. get_or xs c.args.k c.in-Some.border.now) c.borders.ensures.value in
    let inside : IsBorder c.args.self.now.physical (get_or c.args.self.now.borders c.args.k c.in-Some.border.now) =
    c.borders.ensures.valid.inside c.args.k c.in-Some.border.now within in
    let fits : FitsSigned w32 c.in-Some.border.now = search rules in
    earlier_ends c.args.self.now c.args.k _ c.in-Some.border.now within (omega (arith, ints, is, inside, fits))

pub returns-in-None : goal.returns-in-None
returns-in-None c =
    last_ends c.args.self.now c.args.k _ (omega (arith, ap length c.borders.ensures.value, c.in-None.ensures.lookup.3)) c.requires
    (omega (arith, ints, ap (λ (i : Interval). i.last) c.total.ensures))
