-- Numbers of 64 bits in expressions.
use Rattle.std.specs.Prelude.{Bool, true, ◌&&◌, ℤ, FitsSigned}
use Rattle.std.specs.Int.{w64}
use Rattle.pooma_expr.specs.declared.tree.Expr.{Expr}
use Rattle.pooma_expr.specs.declared.tree.Expr.TheOpen.{Expr-F}
use Rattle.pooma_expr.specs.declared.tree.Expr.TheFolds.{fold-Expr}
use Rattle.pooma_expr.specs.Values.{fits}

abbrev pub IsWord : ℤ → Type 0
IsWord n = FitsSigned w64 n

abbrev pub literals_by : Expr-F Bool → Bool
literals_by (Expr-F.Literal x) = fits x
literals_by (Expr-F.Neg a) = a
literals_by (Expr-F.Abs a) = a
literals_by (Expr-F.Bin o a b) = a && b
literals_by (Expr-F.Where c a b) = c && (a && b)
literals_by e = true

-- whether each literal of the expression is one
abbrev pub literals_fit : Expr → Bool
literals_fit = fold-Expr Bool literals_by
