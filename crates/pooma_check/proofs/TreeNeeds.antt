-- The scalars and axes that the tree of an expression asks for are there.
use Rattle.std.proofs.Common.{◌≡◌, ℕ, ◌<◌, ◌≤◌, pos, List, Option, None, Some, refl, ap, arith}
use Rattle.pooma_text.specs.Lines.{text_at}
use Rattle.pooma_text.specs.declared.span.Span.{Span}
use Rattle.pooma_domain.specs.Cells.{count_of}
use Rattle.pooma_view.specs.Views.{Viewed}
use Rattle.pooma_expr.specs.declared.tree.Expr.{Expr}
use Rattle.pooma_expr.specs.declared.tree.Expr.TheFolds.{fold-roll-Expr}
use Rattle.pooma_expr.specs.declared.tree.Expr.TheOpen.{Expr-F}
use Rattle.pooma_expr.specs.Trees.{axes_at, axes_needed, greatest_by, scalars_at, scalars_needed}
use Rattle.pooma_stencil.specs.Expansions.{expansion}
use Rattle.pooma_stencil.specs.Stencils.{Stenciled}
use Rattle.pooma_parse.specs.declared.form.RawExpr.{RawExpr}
use Rattle.pooma_script.specs.declared.names.Named.{Named}
use Rattle.pooma_script.specs.declared.names.Named.TheVariants as named
use Rattle.pooma_script.specs.Known.{Known, declared_in, named_at, stencil_named}
use Rattle.pooma_script.specs.Operators.{op_of}
use Rattle.pooma_script.specs.Trees.{axes_by, axes_in, leaf, tree_by, tree_of}
use Rattle.pooma_script.specs.Views.{view_of}
use Rattle.pooma_script.proofs.Expressions.{by_form, fold-Abs, fold-Apply, fold-At, fold-Bin, fold-Index, fold-Neg, fold-Number, fold-View, fold-Where}
use Rattle.pooma_check.proofs.KnownAfter.{AreThere}

-- a name that is read asks for the scalar that it names
leaf_scalars : (what : Option Named) (view : Viewed) (most : ℕ) → ((n : ℕ) → what ≡ Some (named.Scalar n) → n < most) → scalars_needed (leaf what view) ≤ most
leaf_scalars None view most there = let e = fold-roll-Expr ℕ (greatest_by scalars_at) (Expr-F.Read view) in omega (arith, e)
leaf_scalars (Some (named.Layout n)) view most there = let e = fold-roll-Expr ℕ (greatest_by scalars_at) (Expr-F.Read view) in omega (arith, e)
leaf_scalars (Some (named.Array n)) view most there = let e = fold-roll-Expr ℕ (greatest_by scalars_at) (Expr-F.Read view) in omega (arith, e)
leaf_scalars (Some (named.Stencil n)) view most there = let e = fold-roll-Expr ℕ (greatest_by scalars_at) (Expr-F.Read view) in omega (arith, e)
leaf_scalars (Some (named.Scalar n)) view most there =
    let e = fold-roll-Expr ℕ (greatest_by scalars_at) (Expr-F.Scalar n) in
    let h = there n refl in omega (arith, e, h)

leaf_axes : (what : Option Named) (view : Viewed) → axes_needed (leaf what view) ≡ 0
leaf_axes None view = fold-roll-Expr ℕ (greatest_by axes_at) (Expr-F.Read view)
leaf_axes (Some (named.Layout n)) view = fold-roll-Expr ℕ (greatest_by axes_at) (Expr-F.Read view)
leaf_axes (Some (named.Array n)) view = fold-roll-Expr ℕ (greatest_by axes_at) (Expr-F.Read view)
leaf_axes (Some (named.Stencil n)) view = fold-roll-Expr ℕ (greatest_by axes_at) (Expr-F.Read view)
leaf_axes (Some (named.Scalar n)) view = fold-roll-Expr ℕ (greatest_by axes_at) (Expr-F.Scalar n)

module _ (known : Known) (line : List ℕ) where
  abbrev tree : RawExpr → Expr
  tree = tree_of known line

  module _ (there : AreThere known) (none : (s : Stenciled) (v : Viewed) → scalars_needed (expansion s v) ≡ 0) where
    abbrev most : ℕ
    most = (declared_in known).scalars

    named_scalar : (span : Span) (n : ℕ) → named_at known line span ≡ Some (named.Scalar n) → n < most
    named_scalar span n is = there (text_at line span) (named.Scalar n) is

    -- the scalars of a tree are declared
    pub scalars_of_tree : (e : RawExpr) → scalars_needed (tree e) ≤ most
    scalars_of_tree = by_form (λ e. scalars_needed (tree e) ≤ most) (record {
      number = λ n. let e = ap scalars_needed (fold-Number Expr (tree_by known line) n) in let f = fold-roll-Expr ℕ (greatest_by scalars_at) (Expr-F.Literal n) in omega (arith, e, f);
      index = λ axis. let e = ap scalars_needed (fold-Index Expr (tree_by known line) axis) in let f = fold-roll-Expr ℕ (greatest_by scalars_at) (Expr-F.Index (count_of axis)) in omega (arith, e, f);
      view = λ seen. let e = ap scalars_needed (fold-View Expr (tree_by known line) seen) in
          let f = leaf_scalars (named_at known line seen.name) (view_of known line seen) most (named_scalar seen.name) in omega (arith, e, f);
      apply = λ stencil seen. let e = ap scalars_needed (fold-Apply Expr (tree_by known line) stencil seen) in
          let f = none (stencil_named known (named_at known line stencil)) (view_of known line seen) in omega (arith, e, f);
      at = λ offset. let e = ap scalars_needed (fold-At Expr (tree_by known line) offset) in let f = fold-roll-Expr ℕ (greatest_by scalars_at) (Expr-F.Literal (pos 0)) in omega (arith, e, f);
      neg = λ a p. let e = ap scalars_needed (fold-Neg Expr (tree_by known line) a) in let f = fold-roll-Expr ℕ (greatest_by scalars_at) (Expr-F.Neg (tree a)) in omega (arith, e, f, p);
      abs = λ a p. let e = ap scalars_needed (fold-Abs Expr (tree_by known line) a) in let f = fold-roll-Expr ℕ (greatest_by scalars_at) (Expr-F.Abs (tree a)) in omega (arith, e, f, p);
      bin = λ op a b p q. let e = ap scalars_needed (fold-Bin Expr (tree_by known line) op a b) in
          let f = fold-roll-Expr ℕ (greatest_by scalars_at) (Expr-F.Bin (op_of op) (tree a) (tree b)) in omega (arith, e, f, p, q);
      choice = λ c a b r p q. let e = ap scalars_needed (fold-Where Expr (tree_by known line) c a b) in
          let f = fold-roll-Expr ℕ (greatest_by scalars_at) (Expr-F.Where (tree c) (tree a) (tree b)) in omega (arith, e, f, r, p, q);
    })

  module _ (none : (s : Stenciled) (v : Viewed) → axes_needed (expansion s v) ≡ 0) where
    -- a tree asks for no more axes than its line
    pub axes_of_tree : (e : RawExpr) → axes_needed (tree e) ≤ axes_in e
    axes_of_tree = by_form (λ e. axes_needed (tree e) ≤ axes_in e) (record {
      number = λ n. let e = ap axes_needed (fold-Number Expr (tree_by known line) n) in let f = fold-roll-Expr ℕ (greatest_by axes_at) (Expr-F.Literal n) in omega (arith, e, f);
      index = λ axis. let e = ap axes_needed (fold-Index Expr (tree_by known line) axis) in
          let f = fold-roll-Expr ℕ (greatest_by axes_at) (Expr-F.Index (count_of axis)) in let g = fold-Index ℕ axes_by axis in omega (arith, e, f, g);
      view = λ seen. let e = ap axes_needed (fold-View Expr (tree_by known line) seen) in
          let f = leaf_axes (named_at known line seen.name) (view_of known line seen) in omega (arith, e, f);
      apply = λ stencil seen. let e = ap axes_needed (fold-Apply Expr (tree_by known line) stencil seen) in
          let f = none (stencil_named known (named_at known line stencil)) (view_of known line seen) in omega (arith, e, f);
      at = λ offset. let e = ap axes_needed (fold-At Expr (tree_by known line) offset) in let f = fold-roll-Expr ℕ (greatest_by axes_at) (Expr-F.Literal (pos 0)) in omega (arith, e, f);
      neg = λ a p. let e = ap axes_needed (fold-Neg Expr (tree_by known line) a) in let f = fold-roll-Expr ℕ (greatest_by axes_at) (Expr-F.Neg (tree a)) in
          let g = fold-Neg ℕ axes_by a in omega (arith, e, f, g, p);
      abs = λ a p. let e = ap axes_needed (fold-Abs Expr (tree_by known line) a) in let f = fold-roll-Expr ℕ (greatest_by axes_at) (Expr-F.Abs (tree a)) in
          let g = fold-Abs ℕ axes_by a in omega (arith, e, f, g, p);
      bin = λ op a b p q. let e = ap axes_needed (fold-Bin Expr (tree_by known line) op a b) in
          let f = fold-roll-Expr ℕ (greatest_by axes_at) (Expr-F.Bin (op_of op) (tree a) (tree b)) in let g = fold-Bin ℕ axes_by op a b in omega (arith, e, f, g, p, q);
      choice = λ c a b r p q. let e = ap axes_needed (fold-Where Expr (tree_by known line) c a b) in
          let f = fold-roll-Expr ℕ (greatest_by axes_at) (Expr-F.Where (tree c) (tree a) (tree b)) in let g = fold-Where ℕ axes_by c a b in omega (arith, e, f, g, r, p, q);
    })
