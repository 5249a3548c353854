-- Folds of an expression at each of its forms, and induction over expressions.
use Rattle.std.proofs.Common.{◌≡◌, ℕ, ℤ, sym, ap, subst, ◌∙◌}
use Rattle.pooma_view.specs.Views.{Viewed}
use Rattle.pooma_expr.specs.declared.tree.Op.{Op}
use Rattle.pooma_expr.specs.declared.tree.Expr.{Expr}
use Rattle.pooma_expr.specs.declared.tree.Expr.TheViews.{roll-Expr}
use Rattle.pooma_expr.specs.declared.tree.Expr.TheOpen.{Expr-F}
use Rattle.pooma_expr.specs.declared.tree.Expr.TheFolds.{fold-Expr, fold-roll-Expr, ind-Expr, map-Expr}
use Rattle.pooma_expr.specs.declared.tree.Expr.TheVariants.{Literal, Scalar, Index, Read, Neg, Abs, Bin, Where, rolls-Literal, rolls-Scalar, rolls-Index, rolls-Read, rolls-Neg, rolls-Abs, rolls-Bin, rolls-Where}

module _ (A : Type 0) (step : Expr-F A → A) where
  abbrev folded : Expr → A
  folded = fold-Expr A step

  pub fold-Literal : (x : ℤ) → folded (Literal x) ≡ step (Expr-F.Literal x)
  fold-Literal x = ap folded (sym (rolls-Literal x)) ∙ fold-roll-Expr A step (Expr-F.Literal x)

  pub fold-Scalar : (n : ℕ) → folded (Scalar n) ≡ step (Expr-F.Scalar n)
  fold-Scalar n = ap folded (sym (rolls-Scalar n)) ∙ fold-roll-Expr A step (Expr-F.Scalar n)

  pub fold-Index : (n : ℕ) → folded (Index n) ≡ step (Expr-F.Index n)
  fold-Index n = ap folded (sym (rolls-Index n)) ∙ fold-roll-Expr A step (Expr-F.Index n)

  pub fold-Read : (v : Viewed) → folded (Read v) ≡ step (Expr-F.Read v)
  fold-Read v = ap folded (sym (rolls-Read v)) ∙ fold-roll-Expr A step (Expr-F.Read v)

  pub fold-Neg : (a : Expr) → folded (Neg a) ≡ step (Expr-F.Neg (folded a))
  fold-Neg a = ap folded (sym (rolls-Neg a)) ∙ fold-roll-Expr A step (Expr-F.Neg a)

  pub fold-Abs : (a : Expr) → folded (Abs a) ≡ step (Expr-F.Abs (folded a))
  fold-Abs a = ap folded (sym (rolls-Abs a)) ∙ fold-roll-Expr A step (Expr-F.Abs a)

  pub fold-Bin : (o : Op) (a b : Expr) → folded (Bin o a b) ≡ step (Expr-F.Bin o (folded a) (folded b))
  fold-Bin o a b = ap folded (sym (rolls-Bin o a b)) ∙ fold-roll-Expr A step (Expr-F.Bin o a b)

  pub fold-Where : (c a b : Expr) → folded (Where c a b) ≡ step (Expr-F.Where (folded c) (folded a) (folded b))
  fold-Where c a b = ap folded (sym (rolls-Where c a b)) ∙ fold-roll-Expr A step (Expr-F.Where c a b)

-- what holds of each form where it holds of the operands
pub record EachForm (P : Expr → Type 0) : Type 0 where
  pub literal : (x : ℤ) → P (Literal x)
  pub scalar : (n : ℕ) → P (Scalar n)
  pub index : (n : ℕ) → P (Index n)
  pub read : (v : Viewed) → P (Read v)
  pub neg : (a : Expr) → P a → P (Neg a)
  pub abs : (a : Expr) → P a → P (Abs a)
  pub bin : (o : Op) (a b : Expr) → P a → P b → P (Bin o a b)
  pub choice : (c a b : Expr) → P c → P a → P b → P (Where c a b)

pub by_form : (P : Expr → Type 0) → EachForm P → (e : Expr) → P e
by_form P h = ind-Expr P (λ x y is. (elim y as (λ z. map-Expr _ Expr (λ e. e.0) z ≡ x → P (roll-Expr x)) [
  | Expr-F.Literal n ↦ λ e. subst (λ l. P (roll-Expr l)) e (subst P (sym (rolls-Literal n)) (h.literal n))
  | Expr-F.Scalar n ↦ λ e. subst (λ l. P (roll-Expr l)) e (subst P (sym (rolls-Scalar n)) (h.scalar n))
  | Expr-F.Index n ↦ λ e. subst (λ l. P (roll-Expr l)) e (subst P (sym (rolls-Index n)) (h.index n))
  | Expr-F.Read v ↦ λ e. subst (λ l. P (roll-Expr l)) e (subst P (sym (rolls-Read v)) (h.read v))
  | Expr-F.Neg a ↦ λ e. subst (λ l. P (roll-Expr l)) e (subst P (sym (rolls-Neg a.0)) (h.neg a.0 a.1))
  | Expr-F.Abs a ↦ λ e. subst (λ l. P (roll-Expr l)) e (subst P (sym (rolls-Abs a.0)) (h.abs a.0 a.1))
  | Expr-F.Bin o a b ↦ λ e. subst (λ l. P (roll-Expr l)) e (subst P (sym (rolls-Bin o a.0 b.0)) (h.bin o a.0 b.0 a.1 b.1))
  | Expr-F.Where c a b ↦ λ e. subst (λ l. P (roll-Expr l)) e (subst P (sym (rolls-Where c.0 a.0 b.0)) (h.choice c.0 a.0 b.0 c.1 a.1 b.1))
]) is)
