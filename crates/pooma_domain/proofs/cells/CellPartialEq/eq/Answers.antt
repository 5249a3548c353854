use Rattle.std.proofs.Common.{rules}
use Rattle.std.proofs.lemmas.Bool.Decides.{same_from_decides, Decides-int_eq}
use Rattle.std.specs.Cmp.Lexicographic.{pointwise_decides}
use Rattle.pooma_domain.proofs.cells.CellPartialEq.eq.Goals as goal

pub returns-then-self-other-3-clause-answer : goal.returns-then-self-other-3-clause-answer
returns-then-self-other-3-clause-answer c =
    same_from_decides _ _ (search rules) (pointwise_decides Decides-int_eq c.args.self.now c.args.other.now)
