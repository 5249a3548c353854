use Rattle.std.proofs.Common.{rules, ◌≡◌}
use Rattle.std.proofs.lemmas.Int.{to_z-of_z}
use Rattle.std.specs.Int.{w64, int_div_euclid}
use Rattle.std.specs.Prelude.{FitsSigned}
use Rattle.pooma_part.proofs.Stepping.{quotient_is}
use Rattle.pooma_part.proofs.borders.whole_steps.Goals as goal

quotient : (c : goal.After-div_euclid) → c.div_euclid.result ≡ int_div_euclid c.args.way c.args.step
quotient c =
    let way : FitsSigned w64 c.args.way = c.ranges.way in
    let step : FitsSigned w64 c.args.step = c.ranges.step in
    simp to_z-of_z at c.div_euclid.ensures

pub returns-clause-within : goal.returns-clause-within
returns-clause-within c =
    let fits : FitsSigned w64 c.div_euclid.result = search rules in
    simp to_z-of_z (quotient_is c.args.way c.args.step c.div_euclid.result c.requires.some (quotient c)).0

pub returns-clause-most : goal.returns-clause-most
returns-clause-most c =
    let fits : FitsSigned w64 c.div_euclid.result = search rules in
    simp to_z-of_z (quotient_is c.args.way c.args.step c.div_euclid.result c.requires.some (quotient c)).1
