use Rattle.std.proofs.Common.{arith, rules, subst, sym}
use Rattle.std.proofs.lemmas.Grind.{common_steps}
use Rattle.pooma_domain.specs.Cells.{IsIn}
use Rattle.pooma_domain.proofs.PaddedMoves.{ordered_box, firsts_in}
use Rattle.pooma_domain.proofs.boxes.BoxN.least.Goals as goal

pub returns-clause-value : goal.returns-clause-value
returns-clause-value c = first_of (search rules, grind (arith, common_steps))

pub returns-clause-inside : goal.returns-clause-inside
returns-clause-inside c =
    subst (IsIn c.args.self.now) (sym (returns-clause-value c))
    (firsts_in c.args.self.now (ordered_box _ _ _ _ _ c.self.invariant c.self.view_is))
