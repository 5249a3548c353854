-- What the expression with numbers in place of its scalars has of the expression.
use Rattle.std.proofs.Common.{◌≡◌, ℕ, max, ℤ, pos, refl, sym, ap, ◌∙◌, arith, List, []}
use Rattle.std.specs.Prelude.{slice_index_or}
use Rattle.pooma_view.specs.Views.{Viewed}
use Rattle.pooma_expr.specs.declared.tree.Expr.{Expr}
use Rattle.pooma_expr.specs.declared.tree.Expr.TheViews.{roll-Expr}
use Rattle.pooma_expr.specs.declared.tree.Expr.TheOpen.{Expr-F}
use Rattle.pooma_expr.specs.declared.tree.Expr.TheFolds.{fold-Expr, fold-roll-Expr}
use Rattle.pooma_expr.specs.Values.{Checked, Contents, value_by, value}
use Rattle.pooma_expr.specs.Trees.{views_by, views_of, greatest_by, scalars_at, scalars_needed, axes_at, axes_needed, depth_by, depth_of, bound_by, bound}
use Rattle.pooma_expr.proofs.Trees.{EachForm, by_form, fold-Literal, fold-Scalar, fold-Index, fold-Read, fold-Neg, fold-Abs, fold-Bin, fold-Where}

module _ (A : Type 0) (f g : Expr-F A → A) (scalars : List ℤ) (same : (e : Expr-F A) → f (bound_by scalars e) ≡ g e) where
  abbrev through : Expr → A
  through e = fold-Expr A f (bound scalars e)

  abbrev Same : Expr → Type 0
  Same e = through e ≡ fold-Expr A g e

  fold_bound_by : EachForm Same
  fold_bound_by = record {
    literal = λ x. ap (fold-Expr A f) (fold-Literal Expr (λ e. roll-Expr (bound_by scalars e)) x) ∙ fold-roll-Expr A f (Expr-F.Literal x) ∙ same (Expr-F.Literal x) ∙ sym (fold-Literal A g x);
    scalar = λ n. ap (fold-Expr A f) (fold-Scalar Expr (λ e. roll-Expr (bound_by scalars e)) n) ∙ fold-roll-Expr A f (Expr-F.Literal (slice_index_or scalars n (pos 0))) ∙ same (Expr-F.Scalar n) ∙ sym (fold-Scalar A g n);
    index = λ n. ap (fold-Expr A f) (fold-Index Expr (λ e. roll-Expr (bound_by scalars e)) n) ∙ fold-roll-Expr A f (Expr-F.Index n) ∙ same (Expr-F.Index n) ∙ sym (fold-Index A g n);
    read = λ v. ap (fold-Expr A f) (fold-Read Expr (λ e. roll-Expr (bound_by scalars e)) v) ∙ fold-roll-Expr A f (Expr-F.Read v) ∙ same (Expr-F.Read v) ∙ sym (fold-Read A g v);
    neg = λ a ha. ap (fold-Expr A f) (fold-Neg Expr (λ e. roll-Expr (bound_by scalars e)) a) ∙ fold-roll-Expr A f (Expr-F.Neg (bound scalars a)) ∙ ap (λ (x : A). f (Expr-F.Neg x)) ha ∙ same (Expr-F.Neg (fold-Expr A g a)) ∙ sym (fold-Neg A g a);
    abs = λ a ha. ap (fold-Expr A f) (fold-Abs Expr (λ e. roll-Expr (bound_by scalars e)) a) ∙ fold-roll-Expr A f (Expr-F.Abs (bound scalars a)) ∙ ap (λ (x : A). f (Expr-F.Abs x)) ha ∙ same (Expr-F.Abs (fold-Expr A g a)) ∙ sym (fold-Abs A g a);
    bin = λ o a b ha hb. ap (fold-Expr A f) (fold-Bin Expr (λ e. roll-Expr (bound_by scalars e)) o a b) ∙ fold-roll-Expr A f (Expr-F.Bin o (bound scalars a) (bound scalars b)) ∙ ap (λ (x : A). f (Expr-F.Bin o x (through b))) ha ∙ ap (λ (x : A). f (Expr-F.Bin o (fold-Expr A g a) x)) hb ∙ same (Expr-F.Bin o (fold-Expr A g a) (fold-Expr A g b)) ∙ sym (fold-Bin A g o a b);
    choice = λ c a b hc ha hb. ap (fold-Expr A f) (fold-Where Expr (λ e. roll-Expr (bound_by scalars e)) c a b) ∙ fold-roll-Expr A f (Expr-F.Where (bound scalars c) (bound scalars a) (bound scalars b)) ∙ ap (λ (x : A). f (Expr-F.Where x (through a) (through b))) hc ∙ ap (λ (x : A). f (Expr-F.Where (fold-Expr A g c) x (through b))) ha ∙ ap (λ (x : A). f (Expr-F.Where (fold-Expr A g c) (fold-Expr A g a) x)) hb ∙ same (Expr-F.Where (fold-Expr A g c) (fold-Expr A g a) (fold-Expr A g b)) ∙ sym (fold-Where A g c a b);
  }

  pub fold_bound : (e : Expr) → fold-Expr A f (bound scalars e) ≡ fold-Expr A g e
  fold_bound = by_form Same fold_bound_by

abbrev no_scalar : Expr-F ℕ → ℕ
no_scalar e = 0

abbrev none : Expr → ℕ
none = fold-Expr ℕ (greatest_by no_scalar)

none_by : EachForm (λ e. none e ≡ 0)
none_by = record {
  literal = λ x. fold-Literal ℕ (greatest_by no_scalar) x;
  scalar = λ n. fold-Scalar ℕ (greatest_by no_scalar) n;
  index = λ n. fold-Index ℕ (greatest_by no_scalar) n;
  read = λ v. fold-Read ℕ (greatest_by no_scalar) v;
  neg = λ a h. fold-Neg ℕ (greatest_by no_scalar) a ∙ h;
  abs = λ a h. fold-Abs ℕ (greatest_by no_scalar) a ∙ h;
  bin = λ o a b h i. let both : max (none a) (none b) ≡ 0 = omega arith in fold-Bin ℕ (greatest_by no_scalar) o a b ∙ both;
  choice = λ c a b h i j. let all : max (none c) (max (none a) (none b)) ≡ 0 = omega arith in fold-Where ℕ (greatest_by no_scalar) c a b ∙ all;
}

none_needed : (e : Expr) → none e ≡ 0
none_needed = by_form (λ e. none e ≡ 0) none_by

module _ (scalars : List ℤ) where
  value_at : (has : Contents) (p : List ℤ) (e : Expr-F Checked) → value_by [] has p (bound_by scalars e) ≡ value_by scalars has p e
  value_at has p (Expr-F.Scalar n) = refl
  value_at has p (Expr-F.Literal x) = refl
  value_at has p (Expr-F.Index n) = refl
  value_at has p (Expr-F.Read v) = refl
  value_at has p (Expr-F.Neg a) = refl
  value_at has p (Expr-F.Abs a) = refl
  value_at has p (Expr-F.Bin o a b) = refl
  value_at has p (Expr-F.Where c a b) = refl

  pub value_bound : (e : Expr) (has : Contents) (p : List ℤ) → value [] has (bound scalars e) p ≡ value scalars has e p
  value_bound e has p = fold_bound Checked (value_by [] has p) (value_by scalars has p) scalars (value_at has p) e

  views_at : (e : Expr-F (List Viewed)) → views_by (bound_by scalars e) ≡ views_by e
  views_at (Expr-F.Scalar n) = refl
  views_at (Expr-F.Literal x) = refl
  views_at (Expr-F.Index n) = refl
  views_at (Expr-F.Read v) = refl
  views_at (Expr-F.Neg a) = refl
  views_at (Expr-F.Abs a) = refl
  views_at (Expr-F.Bin o a b) = refl
  views_at (Expr-F.Where c a b) = refl

  pub views_bound : (e : Expr) → views_of (bound scalars e) ≡ views_of e
  views_bound e = fold_bound (List Viewed) views_by views_by scalars views_at e

  axes_kept : (e : Expr-F ℕ) → greatest_by axes_at (bound_by scalars e) ≡ greatest_by axes_at e
  axes_kept (Expr-F.Scalar n) = refl
  axes_kept (Expr-F.Literal x) = refl
  axes_kept (Expr-F.Index n) = refl
  axes_kept (Expr-F.Read v) = refl
  axes_kept (Expr-F.Neg a) = refl
  axes_kept (Expr-F.Abs a) = refl
  axes_kept (Expr-F.Bin o a b) = refl
  axes_kept (Expr-F.Where c a b) = refl

  pub axes_bound : (e : Expr) → axes_needed (bound scalars e) ≡ axes_needed e
  axes_bound e = fold_bound ℕ (greatest_by axes_at) (greatest_by axes_at) scalars axes_kept e

  depth_kept : (e : Expr-F ℕ) → depth_by (bound_by scalars e) ≡ depth_by e
  depth_kept (Expr-F.Scalar n) = refl
  depth_kept (Expr-F.Literal x) = refl
  depth_kept (Expr-F.Index n) = refl
  depth_kept (Expr-F.Read v) = refl
  depth_kept (Expr-F.Neg a) = refl
  depth_kept (Expr-F.Abs a) = refl
  depth_kept (Expr-F.Bin o a b) = refl
  depth_kept (Expr-F.Where c a b) = refl

  pub depth_bound : (e : Expr) → depth_of (bound scalars e) ≡ depth_of e
  depth_bound e = fold_bound ℕ depth_by depth_by scalars depth_kept e

  none_kept : (e : Expr-F ℕ) → greatest_by scalars_at (bound_by scalars e) ≡ greatest_by no_scalar e
  none_kept (Expr-F.Scalar n) = refl
  none_kept (Expr-F.Literal x) = refl
  none_kept (Expr-F.Index n) = refl
  none_kept (Expr-F.Read v) = refl
  none_kept (Expr-F.Neg a) = refl
  none_kept (Expr-F.Abs a) = refl
  none_kept (Expr-F.Bin o a b) = refl
  none_kept (Expr-F.Where c a b) = refl

  -- no scalar is needed any more
  pub scalars_bound : (e : Expr) → scalars_needed (bound scalars e) ≡ 0
  scalars_bound e = fold_bound ℕ (greatest_by scalars_at) (greatest_by no_scalar) scalars none_kept e ∙ none_needed e
