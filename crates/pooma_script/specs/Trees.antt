-- What the expression of a line is, in the words of its line: its tree, and what it reads.
use Rattle.std.specs.Prelude.{ℕ, ◌+◌, max, Bool, true, ◌&&◌, ◌||◌, pos, List, [], ◌∷◌, ◌++◌, Option, None, Some}
use Rattle.pooma_domain.specs.Cells.{count_of}
use Rattle.pooma_view.specs.Views.{Viewed}
use Rattle.pooma_expr.specs.declared.tree.Expr.{Expr}
use Rattle.pooma_expr.specs.declared.tree.Expr.TheOpen.{Expr-F}
use Rattle.pooma_expr.specs.declared.tree.Expr.TheViews.{roll-Expr}
use Rattle.pooma_stencil.specs.Expansions.{expansion}
use Rattle.pooma_parse.specs.declared.form.RawExpr.{RawExpr, fold-RawExpr}
use Rattle.pooma_parse.specs.declared.form.RawExpr.TheOpen.{RawExpr-F}
use Rattle.pooma_parse.specs.declared.form.RawSub.{RawSub}
use Rattle.pooma_script.specs.declared.names.Named.{Named}
use Rattle.pooma_script.specs.declared.names.Named.TheVariants as named
use Rattle.pooma_script.specs.Known.{Known, Names, is_array, is_scalar, is_stencil, named_at, named_in, stencil_named}
use Rattle.pooma_script.specs.Operators.{op_of}
use Rattle.pooma_script.specs.Views.{Reading, reading_of, view_of}

-- a scalar, or the view that is read
abbrev pub leaf : Option Named → Viewed → Expr
leaf (Some (named.Scalar n)) view = roll-Expr (Expr-F.Scalar n)
leaf other view = roll-Expr (Expr-F.Read view)

abbrev pub tree_by : Known → List ℕ → RawExpr-F Expr → Expr
tree_by known line (RawExpr-F.Number n) = roll-Expr (Expr-F.Literal n)
tree_by known line (RawExpr-F.Index axis) = roll-Expr (Expr-F.Index (count_of axis))
tree_by known line (RawExpr-F.View seen) = leaf (named_at known line seen.name) (view_of known line seen)
tree_by known line (RawExpr-F.Apply stencil seen) = expansion (stencil_named known (named_at known line stencil)) (view_of known line seen)
tree_by known line (RawExpr-F.At offset) = roll-Expr (Expr-F.Literal (pos 0))
tree_by known line (RawExpr-F.Neg a) = roll-Expr (Expr-F.Neg a)
tree_by known line (RawExpr-F.Abs a) = roll-Expr (Expr-F.Abs a)
tree_by known line (RawExpr-F.Bin op a b) = roll-Expr (Expr-F.Bin (op_of op) a b)
tree_by known line (RawExpr-F.Where c a b) = roll-Expr (Expr-F.Where c a b)

-- The tree of an expression. A stencil on a view is the stencil's body, in which each offset is a read of a part of the view.
abbrev pub tree_of : Known → List ℕ → RawExpr → Expr
tree_of known line = fold-RawExpr Expr (tree_by known line)

-- a scalar reads no array
abbrev pub unless_scalar : Option Named → Reading → List Reading
unless_scalar (Some (named.Scalar n)) reading = []
unless_scalar other reading = reading ∷ []

abbrev pub readings_by : Known → List ℕ → RawExpr-F (List Reading) → List Reading
readings_by known line (RawExpr-F.View seen) = unless_scalar (named_at known line seen.name) (reading_of known line None seen)
readings_by known line (RawExpr-F.Apply stencil seen) =
    reading_of known line (Some (stencil_named known (named_at known line stencil))) seen ∷ []
readings_by known line (RawExpr-F.Neg a) = a
readings_by known line (RawExpr-F.Abs a) = a
readings_by known line (RawExpr-F.Bin op a b) = a ++ b
readings_by known line (RawExpr-F.Where c a b) = c ++ (a ++ b)
readings_by known line other = []

-- the views and the stencils on views of an expression, in the order of the text
abbrev pub readings_in : Known → List ℕ → RawExpr → List Reading
readings_in known line = fold-RawExpr (List Reading) (readings_by known line)

abbrev pub axes_by : RawExpr-F ℕ → ℕ
axes_by (RawExpr-F.Index axis) = count_of axis + 1
axes_by (RawExpr-F.Neg a) = a
axes_by (RawExpr-F.Abs a) = a
axes_by (RawExpr-F.Bin op a b) = max a b
axes_by (RawExpr-F.Where c a b) = max c (max a b)
axes_by other = 0

-- how many axes there have to be, so that each `index` names one of them
abbrev pub axes_in : RawExpr → ℕ
axes_in = fold-RawExpr ℕ axes_by

-- a name with brackets is an array's, and one without is an array's or a scalar's
abbrev pub is_readable : Option (List RawSub) → Option Named → Bool
is_readable None what = is_array what || is_scalar what
is_readable (Some subs) what = is_array what

abbrev pub names_by : Names → List ℕ → RawExpr-F Bool → Bool
names_by names line (RawExpr-F.View seen) = is_readable seen.subs (named_in names line seen.name)
names_by names line (RawExpr-F.Apply stencil seen) = is_stencil (named_in names line stencil) && is_array (named_in names line seen.name)
names_by names line (RawExpr-F.Neg a) = a
names_by names line (RawExpr-F.Abs a) = a
names_by names line (RawExpr-F.Bin op a b) = a && b
names_by names line (RawExpr-F.Where c a b) = c && (a && b)
names_by names line other = true

-- whether each name of an expression names what it has to: a stencil is put on an array, and what is read is an array or a scalar
abbrev pub names_fit : Names → List ℕ → RawExpr → Bool
names_fit names line = fold-RawExpr Bool (names_by names line)
