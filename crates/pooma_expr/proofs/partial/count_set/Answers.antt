use Rattle.std.proofs.Common.{rules, sym, ap, ◌∙◌, subst, arith, ◌≡◌, ◌+◌, ◌++◌, ◌∷◌, [], ℤ, pos, List, take, slice_index_or, to_z, of_z, w64}
use Rattle.std.specs.Prelude.{FitsSigned, count_by}
use Rattle.std.proofs.lemmas.List.{take_more}
use Rattle.pooma_expr.specs.Reductions.{AllFit, is_set}
use Rattle.pooma_expr.proofs.Joins.{AllFit-append, count_by-append}
use Rattle.pooma_expr.proofs.partial.count_set.Goals as goal

pub loop-v-preserved : goal.loop-v-preserved
loop-v-preserved c =
    let before : List ℤ = take c.loop-v.v-index c.args.values.now in
    let v : ℤ = slice_index_or c.args.values.now c.loop-v.v-index (pos 0) in
    let number_is : to_z w64 (of_z w64 v) ≡ v = search rules in
    let fits : FitsSigned w64 (to_z w64 (of_z w64 v)) = search rules in
    let more : take (c.loop-v.v-index + 1) c.args.values.now ≡ before ++ v ∷ [] = take_more c.args.values.now c.loop-v.v-index (pos 0) c.loop-v-test.true in
    let both : count_by is_set (before ++ v ∷ []) ≡ count_by is_set before + count_by is_set (v ∷ []) = count_by-append is_set before (v ∷ []) in
    let here : c.one_if_set-set.result ≡ count_by is_set (v ∷ []) = c.one_if_set-set.ensures.set ∙ ap (λ (x : ℤ). count_by is_set (x ∷ [])) number_is in
    let whole : count_by is_set (take (c.loop-v.v-index + 1) c.args.values.now) ≡ count_by is_set before + count_by is_set (v ∷ []) = ap (count_by is_set) more ∙ both in
    record {
      set = omega (arith, c.loop-v.invariant.set, here, whole);
      most = omega (arith, c.loop-v.invariant.most, c.one_if_set-set.ensures.most);
      fit = subst AllFit (sym more) (AllFit-append before (v ∷ []) c.loop-v.invariant.fit (subst (FitsSigned w64) number_is fits, tt));
    }
