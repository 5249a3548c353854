use Rattle.std.proofs.Common.{FitsSigned, sym, ap, subst, ◌∙◌, rules}
use Rattle.std.specs.Int.{w64}
use Rattle.std.proofs.lemmas.Int.{to_z-of_z}
use Rattle.pooma_num.specs.Sum.{Sum}
use Rattle.pooma_expr.specs.Reductions.{Kept, StandsFor, result_over}
use Rattle.pooma_expr.proofs.Joins.{all_result, some_result}
use Rattle.pooma_expr.proofs.partial.Partial.finish.Goals as goal

pub returns-in-All : goal.returns-in-All
returns-in-All c = λ xs h.
    let mine = subst (λ (x : Kept). StandsFor xs x) (sym c.self.view_is) h in
    let fits : FitsSigned w64 c.from.result = search rules in
    simp to_z-of_z (all_result _ xs _ _ _ c.in-All.is mine.set (c.count.ensures.count ∙ ap (λ (t : Sum). t.count) mine.total) c.from.ensures
    ∙ ap (λ (x : Kept). result_over x.reduction xs) c.self.view_is)

pub returns-in-Any : goal.returns-in-Any
returns-in-Any c = λ xs h.
    let mine = subst (λ (x : Kept). StandsFor xs x) (sym c.self.view_is) h in
    let fits : FitsSigned w64 c.from-in-Any.result = search rules in
    simp to_z-of_z (some_result _ xs _ _ c.in-Any.is mine.set c.from-in-Any.ensures
    ∙ ap (λ (x : Kept). result_over x.reduction xs) c.self.view_is)
