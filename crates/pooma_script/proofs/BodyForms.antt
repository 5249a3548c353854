-- The depth and the offsets of a body at its forms.
use Rattle.std.proofs.Common.{◌≡◌, ℕ, ◌+◌, max, ℤ, List, [], ◌++◌, ap, subst, ◌∙◌}
use Rattle.std.proofs.lemmas.List.Elements.{All-head}
use Rattle.std.specs.Prelude.{All}
use Rattle.pooma_parse.specs.declared.form.RawExpr.{RawExpr}
use Rattle.pooma_parse.specs.declared.form.RawExpr.TheVariants as raw
use Rattle.pooma_parse.specs.declared.form.RawOp.{RawOp}
use Rattle.pooma_script.specs.Bodies.{depth_by, depth_in, offsets_by, offsets_in}
use Rattle.pooma_script.proofs.Expressions.{fold-Abs, fold-At, fold-Bin, fold-Neg, fold-Where}
use Rattle.pooma_script.proofs.Offsets.{back_of_all, front_of_all}

pub depth-Neg : (e a : RawExpr) → e ≡ raw.Neg a → depth_in e ≡ depth_in a + 1
depth-Neg e a is = ap depth_in is ∙ fold-Neg ℕ depth_by a

pub depth-Abs : (e a : RawExpr) → e ≡ raw.Abs a → depth_in e ≡ depth_in a + 1
depth-Abs e a is = ap depth_in is ∙ fold-Abs ℕ depth_by a

pub depth-Bin : (e : RawExpr) (op : RawOp) (a b : RawExpr) → e ≡ raw.Bin op a b → depth_in e ≡ max (depth_in a) (depth_in b) + 1
depth-Bin e op a b is = ap depth_in is ∙ fold-Bin ℕ depth_by op a b

pub depth-Where : (e c a b : RawExpr) → e ≡ raw.Where c a b → depth_in e ≡ max (depth_in c) (max (depth_in a) (depth_in b)) + 1
depth-Where e c a b is = ap depth_in is ∙ fold-Where ℕ depth_by c a b

-- what holds of all offsets holds of those of each operand
module _ (P : List ℤ → Type 0) where
  pub in_at : (e : RawExpr) (o : List ℤ) → e ≡ raw.At o → All P (offsets_in e) → P o
  in_at e o is all = All-head P o [] (subst (All P) (ap offsets_in is ∙ fold-At (List (List ℤ)) offsets_by o) all)

  pub in_neg : (e a : RawExpr) → e ≡ raw.Neg a → All P (offsets_in e) → All P (offsets_in a)
  in_neg e a is all = subst (All P) (ap offsets_in is ∙ fold-Neg (List (List ℤ)) offsets_by a) all

  pub in_abs : (e a : RawExpr) → e ≡ raw.Abs a → All P (offsets_in e) → All P (offsets_in a)
  in_abs e a is all = subst (All P) (ap offsets_in is ∙ fold-Abs (List (List ℤ)) offsets_by a) all

  pub in_bin : (e : RawExpr) (op : RawOp) (a b : RawExpr) → e ≡ raw.Bin op a b → All P (offsets_in e) → All P (offsets_in a) × All P (offsets_in b)
  in_bin e op a b is all =
      let both : All P (offsets_in a ++ offsets_in b) = subst (All P) (ap offsets_in is ∙ fold-Bin (List (List ℤ)) offsets_by op a b) all in
      (front_of_all P (offsets_in a) (offsets_in b) both, back_of_all P (offsets_in a) (offsets_in b) both)

  pub in_where : (e c a b : RawExpr) → e ≡ raw.Where c a b → All P (offsets_in e) → All P (offsets_in c) × All P (offsets_in a) × All P (offsets_in b)
  in_where e c a b is all =
      let three : All P (offsets_in c ++ (offsets_in a ++ offsets_in b)) = subst (All P) (ap offsets_in is ∙ fold-Where (List (List ℤ)) offsets_by c a b) all in
      let both : All P (offsets_in a ++ offsets_in b) = back_of_all P (offsets_in c) (offsets_in a ++ offsets_in b) three in
      (front_of_all P (offsets_in c) (offsets_in a ++ offsets_in b) three, front_of_all P (offsets_in a) (offsets_in b) both, back_of_all P (offsets_in a) (offsets_in b) both)
