use Rattle.std.proofs.Common.{arith, rules, ap, sym, ◌∙◌, length, get_or, ◌<◌, ◌≡◌}
use Rattle.std.proofs.lemmas.Int.{ints}
use Rattle.std.specs.Prelude.{FitsSigned}
use Rattle.std.specs.Int.{w32}
use Rattle.pooma_domain.specs.Cells.{interval}
use Rattle.pooma_layout.specs.Axes.{IsBorder}
use Rattle.pooma_part.specs.CutLines.{CutLine}
use Rattle.pooma_part.proofs.Dividing.{last_ends, earlier_ends}
use Rattle.pooma_part.proofs.line.Line.last_of.Goals as goal

pub returns-in-Some : goal.returns-in-Some
returns-in-Some c =
    let d = c.in-Some.border.now in
    let below : c.args.k < length c.self.inside.borders.items = omega (arith, ap length c.deref.ensures.value, c.in-Some.ensures.lookup.3.0) in
    let within : c.args.k < length c.args.self.now.borders = omega (arith, below, ap (λ (l : CutLine). length l.borders) c.self.view_is) in
    let is : d ≡ get_or c.self.inside.borders.items c.args.k d = c.in-Some.ensures.lookup.1 ∙ ap (λ xs. get_or xs c.args.k d) c.deref.ensures.value in
    let inside : IsBorder (interval c.self.inside.axis.first c.self.inside.axis.last) (get_or c.self.inside.borders.items c.args.k d) = c.self.invariant.inside c.args.k d below in
    let there : get_or c.args.self.now.borders c.args.k d ≡ d = ap (λ (l : CutLine). get_or l.borders c.args.k d) (sym c.self.view_is) ∙ sym is in
    let fits : FitsSigned w32 d = search rules in
    earlier_ends c.args.self.now c.args.k _ d within (omega (arith, ints, is, inside, fits, there, c.self.invariant.axis.low))

pub returns-in-None : goal.returns-in-None
returns-in-None c =
    let fits : FitsSigned w32 c.self.inside.axis.last = search rules in
    last_ends c.args.self.now c.args.k _
    (omega (arith, ap length c.deref.ensures.value, ap (λ (l : CutLine). length l.borders) c.self.view_is, c.in-None.ensures.lookup.3)) c.requires
    (omega (arith, ints, ap (λ (l : CutLine). l.whole.last) c.self.view_is))
