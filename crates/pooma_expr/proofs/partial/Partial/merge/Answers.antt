use Rattle.std.proofs.Common.{◌≡◌, FitsSigned, refl, sym, ap, subst, ◌∙◌, rules}
use Rattle.std.specs.Int.{w64}
use Rattle.std.proofs.lemmas.Int.{to_z-of_z}
use Rattle.pooma_expr.specs.Reductions.{Kept, StandsFor, join_all, join_of}
use Rattle.pooma_num.specs.Sum.{Sum}
use Rattle.pooma_expr.proofs.Joins.{merges}
use Rattle.pooma_expr.proofs.partial.Partial.merge.Goals as goal

pub returns-clause-numbers : goal.returns-clause-numbers
returns-clause-numbers c = λ xs ys h k.
    let mine = subst (λ (x : Kept). StandsFor xs x) (sym c.self.view_is) h in
    let others = subst (λ (x : Kept). StandsFor ys x) (sym c.other.view_is) k in
    let same : c.other.inside.reduction ≡ c.self.inside.reduction = ap (λ (x : Kept). x.reduction) c.other.view_is ∙ sym c.requires.reduction ∙ sym (ap (λ (x : Kept). x.reduction) c.self.view_is) in
    let fits : FitsSigned w64 c.join_parts-self-inside.result = search rules in
    let x_fits : FitsSigned w64 c.self.inside.joined = search rules in
    let y_fits : FitsSigned w64 c.other.inside.joined = search rules in
    let parts = simp to_z-of_z at c.join_parts-self-inside.ensures in
    let joined = to_z-of_z w64 _ fits ∙ parts xs ys mine.fit others.fit (c.count-count.ensures.count ∙ ap (λ (t : Sum). t.count) mine.total) (c.count-more.ensures.count ∙ ap (λ (t : Sum). t.count) others.total)
    mine.joined (others.joined ∙ ap (λ r. join_all (join_of r) ys) same) in
    merges xs ys _ _ _ mine others refl c.merge.ensures refl joined
