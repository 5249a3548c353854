use Rattle.std.proofs.Common.{ap, ◌∙◌, to_z-of_z, FitsSigned, rules}
use Rattle.std.specs.Int.{w128}
use Rattle.pooma_lanes.specs.Totals.{sum_of}
use Rattle.pooma_lanes.proofs.Bits.{back_is}
use Rattle.pooma_lanes.proofs.totals.sum_of_lanes.Goals as goal

pub returns-clause-exact : goal.returns-clause-exact
returns-clause-exact c =
    let fits : FitsSigned w128 c.sum_one_by_one.result = search rules in
    to_z-of_z fits ∙ c.sum_one_by_one.ensures.exact ∙ ap sum_of (back_is c.args.block c.requires.fit)
