-- Folds of the expression of a line at its forms, and induction over such expressions.
use Rattle.std.proofs.Common.{◌≡◌, ℤ, List, sym, ap, subst, ◌∙◌}
use Rattle.pooma_text.specs.declared.span.Span.{Span}
use Rattle.pooma_parse.specs.declared.form.RawExpr.{RawExpr}
use Rattle.pooma_parse.specs.declared.form.RawExpr.TheFolds.{fold-RawExpr, fold-roll-RawExpr, ind-RawExpr, map-RawExpr}
use Rattle.pooma_parse.specs.declared.form.RawExpr.TheViews.{roll-RawExpr}
use Rattle.pooma_parse.specs.declared.form.RawExpr.TheOpen.{RawExpr-F}
use Rattle.pooma_parse.specs.declared.form.RawExpr.TheVariants.{Number, Index, View, Apply, At, Neg, Abs, Bin, Where, rolls-Number, rolls-Index, rolls-View, rolls-Apply, rolls-At, rolls-Neg, rolls-Abs, rolls-Bin, rolls-Where}
use Rattle.pooma_parse.specs.declared.form.RawOp.{RawOp}
use Rattle.pooma_parse.specs.declared.form.RawView.{RawView}

module _ (A : Type 0) (step : RawExpr-F A → A) where
  abbrev folded : RawExpr → A
  folded = fold-RawExpr A step

  pub fold-Number : (n : ℤ) → folded (Number n) ≡ step (RawExpr-F.Number n)
  fold-Number n = ap folded (sym (rolls-Number n)) ∙ fold-roll-RawExpr A step (RawExpr-F.Number n)

  pub fold-Index : (axis : ℤ) → folded (Index axis) ≡ step (RawExpr-F.Index axis)
  fold-Index axis = ap folded (sym (rolls-Index axis)) ∙ fold-roll-RawExpr A step (RawExpr-F.Index axis)

  pub fold-View : (seen : RawView) → folded (View seen) ≡ step (RawExpr-F.View seen)
  fold-View seen = ap folded (sym (rolls-View seen)) ∙ fold-roll-RawExpr A step (RawExpr-F.View seen)

  pub fold-Apply : (stencil : Span) (seen : RawView) → folded (Apply stencil seen) ≡ step (RawExpr-F.Apply stencil seen)
  fold-Apply stencil seen = ap folded (sym (rolls-Apply stencil seen)) ∙ fold-roll-RawExpr A step (RawExpr-F.Apply stencil seen)

  pub fold-At : (offset : List ℤ) → folded (At offset) ≡ step (RawExpr-F.At offset)
  fold-At offset = ap folded (sym (rolls-At offset)) ∙ fold-roll-RawExpr A step (RawExpr-F.At offset)

  pub fold-Neg : (a : RawExpr) → folded (Neg a) ≡ step (RawExpr-F.Neg (folded a))
  fold-Neg a = ap folded (sym (rolls-Neg a)) ∙ fold-roll-RawExpr A step (RawExpr-F.Neg a)

  pub fold-Abs : (a : RawExpr) → folded (Abs a) ≡ step (RawExpr-F.Abs (folded a))
  fold-Abs a = ap folded (sym (rolls-Abs a)) ∙ fold-roll-RawExpr A step (RawExpr-F.Abs a)

  pub fold-Bin : (op : RawOp) (a b : RawExpr) → folded (Bin op a b) ≡ step (RawExpr-F.Bin op (folded a) (folded b))
  fold-Bin op a b = ap folded (sym (rolls-Bin op a b)) ∙ fold-roll-RawExpr A step (RawExpr-F.Bin op a b)

  pub fold-Where : (c a b : RawExpr) → folded (Where c a b) ≡ step (RawExpr-F.Where (folded c) (folded a) (folded b))
  fold-Where c a b = ap folded (sym (rolls-Where c a b)) ∙ fold-roll-RawExpr A step (RawExpr-F.Where c a b)

-- what holds of each form where it holds of the operands
pub record EachForm (P : RawExpr → Type 0) : Type 0 where
  pub number : (n : ℤ) → P (Number n)
  pub index : (axis : ℤ) → P (Index axis)
  pub view : (seen : RawView) → P (View seen)
  pub apply : (stencil : Span) (seen : RawView) → P (Apply stencil seen)
  pub at : (offset : List ℤ) → P (At offset)
  pub neg : (a : RawExpr) → P a → P (Neg a)
  pub abs : (a : RawExpr) → P a → P (Abs a)
  pub bin : (op : RawOp) (a b : RawExpr) → P a → P b → P (Bin op a b)
  pub choice : (c a b : RawExpr) → P c → P a → P b → P (Where c a b)

pub by_form : (P : RawExpr → Type 0) → EachForm P → (e : RawExpr) → P e
by_form P h = ind-RawExpr P (λ x y is. (elim y as (λ z. map-RawExpr _ RawExpr (λ e. e.0) z ≡ x → P (roll-RawExpr x)) [
  | RawExpr-F.Number n ↦ λ e. subst (λ l. P (roll-RawExpr l)) e (subst P (sym (rolls-Number n)) (h.number n))
  | RawExpr-F.Index axis ↦ λ e. subst (λ l. P (roll-RawExpr l)) e (subst P (sym (rolls-Index axis)) (h.index axis))
  | RawExpr-F.View seen ↦ λ e. subst (λ l. P (roll-RawExpr l)) e (subst P (sym (rolls-View seen)) (h.view seen))
  | RawExpr-F.Apply stencil seen ↦ λ e. subst (λ l. P (roll-RawExpr l)) e (subst P (sym (rolls-Apply stencil seen)) (h.apply stencil seen))
  | RawExpr-F.At offset ↦ λ e. subst (λ l. P (roll-RawExpr l)) e (subst P (sym (rolls-At offset)) (h.at offset))
  | RawExpr-F.Neg a ↦ λ e. subst (λ l. P (roll-RawExpr l)) e (subst P (sym (rolls-Neg a.0)) (h.neg a.0 a.1))
  | RawExpr-F.Abs a ↦ λ e. subst (λ l. P (roll-RawExpr l)) e (subst P (sym (rolls-Abs a.0)) (h.abs a.0 a.1))
  | RawExpr-F.Bin op a b ↦ λ e. subst (λ l. P (roll-RawExpr l)) e (subst P (sym (rolls-Bin op a.0 b.0)) (h.bin op a.0 b.0 a.1 b.1))
  | RawExpr-F.Where c a b ↦ λ e. subst (λ l. P (roll-RawExpr l)) e (subst P (sym (rolls-Where c.0 a.0 b.0)) (h.choice c.0 a.0 b.0 c.1 a.1 b.1))
]) is)
