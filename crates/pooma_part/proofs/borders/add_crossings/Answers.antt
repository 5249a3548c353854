use Rattle.std.proofs.Common.{rules, sym, subst, ◌≡◌, pos, get_or, of_z, to_z}
use Rattle.std.proofs.lemmas.Int.{to_z-of_z}
use Rattle.std.specs.Int.{w32, w64}
use Rattle.std.specs.Prelude.{FitsSigned}
use Rattle.pooma_domain.specs.Axes.{interval_of}
use Rattle.pooma_part.specs.Crossing.{IsCrossing}
use Rattle.pooma_part.proofs.Adding.{crossed_more, crossed_all}
use Rattle.pooma_part.proofs.borders.add_crossings.Goals as goal

pub loop-border-preserved : goal.loop-border-preserved
loop-border-preserved c =
    let border = get_or c.args.borders.now c.loop-border.border-index (pos 0) in
    let fits : FitsSigned w32 (get_or c.args.borders.now c.loop-border.border-index (pos 0)) = search rules in
    let wide : FitsSigned w64 c.crossing.result = search rules in
    let same : to_z w64 (of_z w64 c.crossing.result) ≡ c.crossing.result = to_z-of_z w64 c.crossing.result wide in
    let here : IsCrossing c.args.numbers.now border c.crossing.result =
    subst (λ b. IsCrossing c.args.numbers.now b c.crossing.result) (to_z-of_z w32 border fits) c.crossing.ensures in
    crossed_more c.args.numbers.now (interval_of c.args.axis) c.args.places.now.items c.loop-border.places.items c.add_place.new.places.items c.args.borders.now
    c.loop-border.border-index (pos 0) (to_z w64 (of_z w64 c.crossing.result)) c.loop-border-test.true
    (subst (IsCrossing c.args.numbers.now border) (sym same) here) c.loop-border.invariant c.in_ok-add_place.ensures

pub returns : goal.returns
returns c =
    crossed_all c.args.numbers.now (interval_of c.args.axis) c.args.places.now.items c.loop-border.places.items c.loop-border.places.items c.args.borders.now
    c.loop-border.border-index c.loop-border-test.false c.loop-border.invariant
