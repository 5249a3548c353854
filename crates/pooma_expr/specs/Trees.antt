-- What an expression has in it: its views, scalars and axes, and how deep it is.
use Rattle.std.specs.Prelude.{ℕ, ◌+◌, max, ℤ, pos, List, [], ◌∷◌, ◌++◌, slice_index_or}
use Rattle.pooma_view.specs.Views.{Viewed}
use Rattle.pooma_expr.specs.declared.tree.Expr.{Expr}
use Rattle.pooma_expr.specs.declared.tree.Expr.TheOpen.{Expr-F}
use Rattle.pooma_expr.specs.declared.tree.Expr.TheViews.{roll-Expr}
use Rattle.pooma_expr.specs.declared.tree.Expr.TheFolds.{fold-Expr}

abbrev pub views_by : Expr-F (List Viewed) → List Viewed
views_by (Expr-F.Read v) = v ∷ []
views_by (Expr-F.Neg a) = a
views_by (Expr-F.Abs a) = a
views_by (Expr-F.Bin o a b) = a ++ b
views_by (Expr-F.Where c a b) = c ++ (a ++ b)
views_by e = []

-- the views that an expression reads, in the order of the text
abbrev pub views_of : Expr → List Viewed
views_of = fold-Expr (List Viewed) views_by

-- the greatest number that the operands need, or that a leaf needs
abbrev pub greatest_by : (Expr-F ℕ → ℕ) → Expr-F ℕ → ℕ
greatest_by leaf (Expr-F.Neg a) = a
greatest_by leaf (Expr-F.Abs a) = a
greatest_by leaf (Expr-F.Bin o a b) = max a b
greatest_by leaf (Expr-F.Where c a b) = max c (max a b)
greatest_by leaf e = leaf e

abbrev pub scalars_at : Expr-F ℕ → ℕ
scalars_at (Expr-F.Scalar number) = number + 1
scalars_at e = 0

abbrev pub axes_at : Expr-F ℕ → ℕ
axes_at (Expr-F.Index axis) = axis + 1
axes_at e = 0

-- how many scalars there have to be, so that each that it has is one of them
abbrev pub scalars_needed : Expr → ℕ
scalars_needed = fold-Expr ℕ (greatest_by scalars_at)

-- how many axes a position has to have, so that each on which it asks for the position's number is one of them
abbrev pub axes_needed : Expr → ℕ
axes_needed = fold-Expr ℕ (greatest_by axes_at)

abbrev pub depth_by : Expr-F ℕ → ℕ
depth_by (Expr-F.Neg a) = a + 1
depth_by (Expr-F.Abs a) = a + 1
depth_by (Expr-F.Bin o a b) = max a b + 1
depth_by (Expr-F.Where c a b) = max c (max a b) + 1
depth_by e = 1

-- how deep it is: a leaf is 1
abbrev pub depth_of : Expr → ℕ
depth_of = fold-Expr ℕ depth_by

-- a literal for a scalar
abbrev pub bound_by : {A : Type 0} → List ℤ → Expr-F A → Expr-F A
bound_by scalars (Expr-F.Scalar number) = Expr-F.Literal (slice_index_or scalars number (pos 0))
bound_by scalars e = e

-- the expression with each scalar's number in its place
abbrev pub bound : List ℤ → Expr → Expr
bound scalars = fold-Expr Expr (λ e. roll-Expr (bound_by scalars e))
