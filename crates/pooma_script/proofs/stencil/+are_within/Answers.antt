use Rattle.std.proofs.Common.{ap, ◌∙◌}
use Rattle.pooma_domain.specs.Cells.{IsIn}
use Rattle.pooma_domain.specs.Operations.{reaches}
use Rattle.pooma_script.specs.Bodies.{offsets_in}
use Rattle.pooma_script.proofs.Offsets.{all_of_both, all_of_three, offsets-Bin, offsets-Where}
use Rattle.pooma_script.proofs.stencil.+are_within.Goals as goal

pub returns-in-Bin : goal.returns-in-Bin
returns-in-Bin t c = all_of_both (IsIn (reaches c.args.lower.now c.args.upper.now)) (offsets_in c.get.result.now) (offsets_in c.get-in-Bin.result.now) (offsets_in c.args.body.now)
    c.are_within.result c.are_within-in-Bin.result c.both.result (rw (c.get.ensures, c.get-in-Bin.ensures) (ap offsets_in c.in-Bin.is ∙ offsets-Bin _ _ _))
    c.are_within.ensures c.are_within-in-Bin.ensures c.both.ensures

pub returns-in-Where : goal.returns-in-Where
returns-in-Where t c = all_of_three (IsIn (reaches c.args.lower.now c.args.upper.now)) (offsets_in c.get-in-Where-3.result.now) (offsets_in c.get-in-Where.result.now)
    (offsets_in c.get-in-Where-2.result.now) (offsets_in c.args.body.now) c.are_within-in-Where-3.result c.are_within-in-Where.result c.are_within-in-Where-2.result
    c.both-branches.result c.both-in-Where.result
    (rw (c.get-in-Where-3.ensures, c.get-in-Where.ensures, c.get-in-Where-2.ensures) (ap offsets_in c.in-Where.is ∙ offsets-Where _ _ _))
    c.are_within-in-Where-3.ensures c.are_within-in-Where.ensures c.are_within-in-Where-2.ensures c.both-branches.ensures c.both-in-Where.ensures
