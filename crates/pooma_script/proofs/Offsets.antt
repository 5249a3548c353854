-- The offsets of a body, operand by operand.
use Rattle.std.proofs.Common.{◌≡◌, Bool, ℤ, List, [], ◌∷◌, ◌++◌, refl, sym, ap, subst, ◌∙◌, arith}
use Rattle.std.proofs.lemmas.List.Elements.{All-append, All-cons, All-head, All-tail}
use Rattle.std.specs.Prelude.{◌↔◌, All, IsTrue}
use Rattle.pooma_parse.specs.declared.form.RawExpr.{RawExpr, fold-roll-RawExpr}
use Rattle.pooma_parse.specs.declared.form.RawExpr.TheOpen.{RawExpr-F}
use Rattle.pooma_parse.specs.declared.form.RawExpr.TheVariants.{Bin, Where, rolls-Bin, rolls-Where}
use Rattle.pooma_parse.specs.declared.form.RawOp.{RawOp}
use Rattle.pooma_script.specs.Bodies.{offsets_by, offsets_in}

pub offsets-Bin : (op : RawOp) (a b : RawExpr) → offsets_in (Bin op a b) ≡ offsets_in a ++ offsets_in b
offsets-Bin op a b = ap offsets_in (sym (rolls-Bin op a b)) ∙ fold-roll-RawExpr (List (List ℤ)) offsets_by (RawExpr-F.Bin op a b)

pub offsets-Where : (c a b : RawExpr) → offsets_in (Where c a b) ≡ offsets_in c ++ (offsets_in a ++ offsets_in b)
offsets-Where c a b = ap offsets_in (sym (rolls-Where c a b)) ∙ fold-roll-RawExpr (List (List ℤ)) offsets_by (RawExpr-F.Where c a b)

module _ {X : Type 0} (P : X → Type 0) where
  pub front_of_all : (xs ys : List X) → All P (xs ++ ys) → All P xs
  front_of_all [] ys h = λ k d below. absurd (omega arith)
  front_of_all (x ∷ xs) ys h = All-cons P x xs (All-head P x (xs ++ ys) h) (front_of_all xs ys (All-tail P x (xs ++ ys) h))

  pub back_of_all : (xs ys : List X) → All P (xs ++ ys) → All P ys
  back_of_all [] ys h = h
  back_of_all (x ∷ xs) ys h = back_of_all xs ys (All-tail P x (xs ++ ys) h)

  -- a test of two lists is one of both together
  pub all_of_both : (xs ys zs : List X) (a b r : Bool) → zs ≡ xs ++ ys → (IsTrue a ↔ All P xs) → (IsTrue b ↔ All P ys)
      → (IsTrue r ↔ (IsTrue a × IsTrue b)) → IsTrue r ↔ All P zs
  all_of_both xs ys zs a b r is f g h = (
    λ t. subst (All P) (sym is) (All-append P xs ys (f.0 (h.0 t).0) (g.0 (h.0 t).1)),
    λ all. let both : All P (xs ++ ys) = subst (All P) is all in h.1 (f.1 (front_of_all xs ys both), g.1 (back_of_all xs ys both)),
  )

  -- and of three
  pub all_of_three : (xs ys zs ws : List X) (a b c both all : Bool) → ws ≡ xs ++ (ys ++ zs) → (IsTrue a ↔ All P xs) → (IsTrue b ↔ All P ys) → (IsTrue c ↔ All P zs)
      → (IsTrue both ↔ (IsTrue b × IsTrue c)) → (IsTrue all ↔ (IsTrue a × IsTrue both)) → IsTrue all ↔ All P ws
  all_of_three xs ys zs ws a b c both all is f g h two three =
      all_of_both xs (ys ++ zs) ws a both all is f (all_of_both ys zs (ys ++ zs) b c both refl g h two) three
