-- Folds of a body, and of its expression, at each of its forms, and induction over bodies.
use Rattle.std.proofs.Common.{◌≡◌, ℤ, List, sym, ap, subst, ◌∙◌}
use Rattle.pooma_view.specs.Views.{Viewed}
use Rattle.pooma_expr.specs.declared.tree.Op.{Op}
use Rattle.pooma_expr.specs.declared.tree.Expr.{Expr}
use Rattle.pooma_expr.specs.declared.tree.Expr.TheViews.{roll-Expr}
use Rattle.pooma_expr.specs.declared.tree.Expr.TheOpen.{Expr-F}
use Rattle.pooma_expr.specs.declared.tree.Expr.TheFolds.{fold-Expr, fold-roll-Expr}
use Rattle.pooma_stencil.specs.declared.body.Body.{Body}
use Rattle.pooma_stencil.specs.declared.body.Body.TheViews.{roll-Body}
use Rattle.pooma_stencil.specs.declared.body.Body.TheOpen.{Body-F}
use Rattle.pooma_stencil.specs.declared.body.Body.TheFolds.{fold-Body, fold-roll-Body, ind-Body, map-Body}
use Rattle.pooma_stencil.specs.declared.body.Body.TheVariants.{Literal, At, Neg, Abs, Bin, Where, rolls-Literal, rolls-At, rolls-Neg, rolls-Abs, rolls-Bin, rolls-Where}
use Rattle.pooma_stencil.specs.Expansions.{expanded_by, expanded}

module _ (A : Type 0) (step : Body-F A → A) where
  abbrev folded : Body → A
  folded = fold-Body A step

  pub fold-Literal : (x : ℤ) → folded (Literal x) ≡ step (Body-F.Literal x)
  fold-Literal x = ap folded (sym (rolls-Literal x)) ∙ fold-roll-Body A step (Body-F.Literal x)

  pub fold-At : (o : List ℤ) → folded (At o) ≡ step (Body-F.At o)
  fold-At o = ap folded (sym (rolls-At o)) ∙ fold-roll-Body A step (Body-F.At o)

  pub fold-Neg : (a : Body) → folded (Neg a) ≡ step (Body-F.Neg (folded a))
  fold-Neg a = ap folded (sym (rolls-Neg a)) ∙ fold-roll-Body A step (Body-F.Neg a)

  pub fold-Abs : (a : Body) → folded (Abs a) ≡ step (Body-F.Abs (folded a))
  fold-Abs a = ap folded (sym (rolls-Abs a)) ∙ fold-roll-Body A step (Body-F.Abs a)

  pub fold-Bin : (o : Op) (a b : Body) → folded (Bin o a b) ≡ step (Body-F.Bin o (folded a) (folded b))
  fold-Bin o a b = ap folded (sym (rolls-Bin o a b)) ∙ fold-roll-Body A step (Body-F.Bin o a b)

  pub fold-Where : (c a b : Body) → folded (Where c a b) ≡ step (Body-F.Where (folded c) (folded a) (folded b))
  fold-Where c a b = ap folded (sym (rolls-Where c a b)) ∙ fold-roll-Body A step (Body-F.Where c a b)

-- what holds of each form where it holds of the operands
pub record EachForm (P : Body → Type 0) : Type 0 where
  pub literal : (x : ℤ) → P (Literal x)
  pub at : (o : List ℤ) → P (At o)
  pub neg : (a : Body) → P a → P (Neg a)
  pub abs : (a : Body) → P a → P (Abs a)
  pub bin : (o : Op) (a b : Body) → P a → P b → P (Bin o a b)
  pub choice : (c a b : Body) → P c → P a → P b → P (Where c a b)

pub by_form : (P : Body → Type 0) → EachForm P → (b : Body) → P b
by_form P h = ind-Body P (λ x y is. (elim y as (λ z. map-Body _ Body (λ e. e.0) z ≡ x → P (roll-Body x)) [
  | Body-F.Literal n ↦ λ e. subst (λ l. P (roll-Body l)) e (subst P (sym (rolls-Literal n)) (h.literal n))
  | Body-F.At o ↦ λ e. subst (λ l. P (roll-Body l)) e (subst P (sym (rolls-At o)) (h.at o))
  | Body-F.Neg a ↦ λ e. subst (λ l. P (roll-Body l)) e (subst P (sym (rolls-Neg a.0)) (h.neg a.0 a.1))
  | Body-F.Abs a ↦ λ e. subst (λ l. P (roll-Body l)) e (subst P (sym (rolls-Abs a.0)) (h.abs a.0 a.1))
  | Body-F.Bin o a b ↦ λ e. subst (λ l. P (roll-Body l)) e (subst P (sym (rolls-Bin o a.0 b.0)) (h.bin o a.0 b.0 a.1 b.1))
  | Body-F.Where c a b ↦ λ e. subst (λ l. P (roll-Body l)) e (subst P (sym (rolls-Where c.0 a.0 b.0)) (h.choice c.0 a.0 b.0 c.1 a.1 b.1))
]) is)

module _ (A : Type 0) (step : Expr-F A → A) (view : List ℤ → Viewed) where
  -- a fold of a body's expression
  abbrev pub through : Body → A
  through b = fold-Expr A step (expanded view b)

  abbrev opened : Body-F Expr → Expr
  opened b = roll-Expr (expanded_by view b)

  pub through-Literal : (x : ℤ) → through (Literal x) ≡ step (Expr-F.Literal x)
  through-Literal x = ap (fold-Expr A step) (fold-Literal Expr opened x) ∙ fold-roll-Expr A step (Expr-F.Literal x)

  pub through-At : (o : List ℤ) → through (At o) ≡ step (Expr-F.Read (view o))
  through-At o = ap (fold-Expr A step) (fold-At Expr opened o) ∙ fold-roll-Expr A step (Expr-F.Read (view o))

  pub through-Neg : (a : Body) → through (Neg a) ≡ step (Expr-F.Neg (through a))
  through-Neg a = ap (fold-Expr A step) (fold-Neg Expr opened a) ∙ fold-roll-Expr A step (Expr-F.Neg (expanded view a))

  pub through-Abs : (a : Body) → through (Abs a) ≡ step (Expr-F.Abs (through a))
  through-Abs a = ap (fold-Expr A step) (fold-Abs Expr opened a) ∙ fold-roll-Expr A step (Expr-F.Abs (expanded view a))

  pub through-Bin : (o : Op) (a b : Body) → through (Bin o a b) ≡ step (Expr-F.Bin o (through a) (through b))
  through-Bin o a b = ap (fold-Expr A step) (fold-Bin Expr opened o a b) ∙ fold-roll-Expr A step (Expr-F.Bin o (expanded view a) (expanded view b))

  pub through-Where : (c a b : Body) → through (Where c a b) ≡ step (Expr-F.Where (through c) (through a) (through b))
  through-Where c a b = ap (fold-Expr A step) (fold-Where Expr opened c a b) ∙ fold-roll-Expr A step (Expr-F.Where (expanded view c) (expanded view a) (expanded view b))
