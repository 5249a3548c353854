-- The views of an expression's tree are those of its readings.
use Rattle.std.proofs.Common.{◌≡◌, ℕ, List, ◌∷◌, ◌++◌, Option, Some, None, ◌⊎◌, inl, inr, refl, sym, ap, ◌∙◌}
use Rattle.std.proofs.lemmas.Grind.{flat_map-append}
use Rattle.std.proofs.lemmas.List.{append-nil}
use Rattle.std.specs.Prelude.{flat_map, pos}
use Rattle.pooma_domain.specs.Cells.{count_of}
use Rattle.pooma_view.specs.Views.{Viewed}
use Rattle.pooma_expr.specs.declared.tree.Expr.{Expr}
use Rattle.pooma_expr.specs.declared.tree.Expr.TheOpen.{Expr-F}
use Rattle.pooma_expr.specs.declared.tree.Expr.TheViews.{roll-Expr}
use Rattle.pooma_expr.specs.declared.tree.Expr.TheFolds.{fold-roll-Expr}
use Rattle.pooma_expr.specs.declared.tree.Op.{Op}
use Rattle.pooma_expr.specs.declared.tree.Op.TheVariants as op
use Rattle.pooma_expr.specs.Trees.{views_by, views_of}
use Rattle.pooma_parse.specs.declared.form.RawAssign.{RawAssign}
use Rattle.pooma_parse.specs.declared.form.RawAssign.TheVariants as assign
use Rattle.pooma_parse.specs.declared.form.RawExpr.{RawExpr}
use Rattle.pooma_parse.specs.declared.form.RawExpr.TheVariants as raw
use Rattle.pooma_parse.specs.declared.form.RawOp.{RawOp}
use Rattle.pooma_parse.specs.declared.form.RawSub.{RawSub}
use Rattle.pooma_script.specs.declared.names.Named.{Named}
use Rattle.pooma_script.specs.declared.names.Named.TheVariants as named
use Rattle.pooma_script.specs.Known.{Known, named_at}
use Rattle.pooma_script.specs.Operators.{op_of}
use Rattle.pooma_script.specs.Statements.{joined}
use Rattle.pooma_script.specs.Trees.{leaf, readings_by, readings_in, tree_by, tree_of, unless_scalar}
use Rattle.pooma_script.specs.Views.{Reading, reading_by}
use Rattle.pooma_script.proofs.Expressions.{by_form, fold-Abs, fold-Apply, fold-At, fold-Bin, fold-Index, fold-Neg, fold-Number, fold-View, fold-Where}
use Rattle.pooma_check.specs.Readings.{views_of_reading}

-- a name without brackets or with them is a read of its view, or a scalar
leaf_views : (what : Option Named) (array : ℕ) (subs : List RawSub)
    → views_of (leaf what (reading_by array None subs).view) ≡ flat_map views_of_reading (unless_scalar what (reading_by array None subs))
leaf_views None array subs = fold-roll-Expr (List Viewed) views_by (Expr-F.Read (reading_by array None subs).view)
leaf_views (Some (named.Layout n)) array subs = fold-roll-Expr (List Viewed) views_by (Expr-F.Read (reading_by array None subs).view)
leaf_views (Some (named.Array n)) array subs = fold-roll-Expr (List Viewed) views_by (Expr-F.Read (reading_by array None subs).view)
leaf_views (Some (named.Stencil n)) array subs = fold-roll-Expr (List Viewed) views_by (Expr-F.Read (reading_by array None subs).view)
leaf_views (Some (named.Scalar n)) array subs = fold-roll-Expr (List Viewed) views_by (Expr-F.Scalar n)

with_old : (o : Op) (target : Viewed) (value : Expr)
    → views_of (roll-Expr (Expr-F.Bin o (roll-Expr (Expr-F.Read target)) value)) ≡ target ∷ views_of value
with_old o target value =
    fold-roll-Expr (List Viewed) views_by (Expr-F.Bin o (roll-Expr (Expr-F.Read target)) value)
    ∙ ap (λ l. l ++ views_of value) (fold-roll-Expr (List Viewed) views_by (Expr-F.Read target))

-- two lists of views, and what they are of
both_views : (xs ys : List Viewed) (a b : List Reading) → xs ≡ flat_map views_of_reading a → ys ≡ flat_map views_of_reading b
    → xs ++ ys ≡ flat_map views_of_reading (a ++ b)
both_views xs ys a b p q = ap (λ l. l ++ ys) p ∙ ap (λ l. flat_map views_of_reading a ++ l) q ∙ sym (flat_map-append views_of_reading a b)

module _ (known : Known) (line : List ℕ) where
  abbrev tree : RawExpr → Expr
  tree = tree_of known line

  abbrev made : RawExpr → List Reading
  made = readings_in known line

  abbrev HasViews : RawExpr → Type 0
  HasViews e = views_of (tree e) ≡ flat_map views_of_reading (made e)

  at_bin : (op : RawOp) (a b : RawExpr) → HasViews a → HasViews b → HasViews (raw.Bin op a b)
  at_bin op a b p q =
      ap views_of (fold-Bin Expr (tree_by known line) op a b)
      ∙ fold-roll-Expr (List Viewed) views_by (Expr-F.Bin (op_of op) (tree a) (tree b))
      ∙ both_views (views_of (tree a)) (views_of (tree b)) (made a) (made b) p q
      ∙ ap (flat_map views_of_reading) (sym (fold-Bin (List Reading) (readings_by known line) op a b))

  at_where : (c a b : RawExpr) → HasViews c → HasViews a → HasViews b → HasViews (raw.Where c a b)
  at_where c a b r p q =
      ap views_of (fold-Where Expr (tree_by known line) c a b)
      ∙ fold-roll-Expr (List Viewed) views_by (Expr-F.Where (tree c) (tree a) (tree b))
      ∙ both_views (views_of (tree c)) (views_of (tree a) ++ views_of (tree b)) (made c) (made a ++ made b) r
      (both_views (views_of (tree a)) (views_of (tree b)) (made a) (made b) p q)
      ∙ ap (flat_map views_of_reading) (sym (fold-Where (List Reading) (readings_by known line) c a b))

  pub views_of_tree : (e : RawExpr) → HasViews e
  views_of_tree = by_form HasViews (record {
    number = λ n. ap views_of (fold-Number Expr (tree_by known line) n)
        ∙ fold-roll-Expr (List Viewed) views_by (Expr-F.Literal n)
        ∙ ap (flat_map views_of_reading) (sym (fold-Number (List Reading) (readings_by known line) n));
    index = λ axis. ap views_of (fold-Index Expr (tree_by known line) axis)
        ∙ fold-roll-Expr (List Viewed) views_by (Expr-F.Index (count_of axis))
        ∙ ap (flat_map views_of_reading) (sym (fold-Index (List Reading) (readings_by known line) axis));
    view = λ seen. ap views_of (fold-View Expr (tree_by known line) seen)
        ∙ leaf_views (named_at known line seen.name) _ _
        ∙ ap (flat_map views_of_reading) (sym (fold-View (List Reading) (readings_by known line) seen));
    apply = λ stencil seen. ap views_of (fold-Apply Expr (tree_by known line) stencil seen)
        ∙ sym (append-nil _)
        ∙ ap (flat_map views_of_reading) (sym (fold-Apply (List Reading) (readings_by known line) stencil seen));
    at = λ offset. ap views_of (fold-At Expr (tree_by known line) offset)
        ∙ fold-roll-Expr (List Viewed) views_by (Expr-F.Literal (pos 0))
        ∙ ap (flat_map views_of_reading) (sym (fold-At (List Reading) (readings_by known line) offset));
    neg = λ a p. ap views_of (fold-Neg Expr (tree_by known line) a)
        ∙ fold-roll-Expr (List Viewed) views_by (Expr-F.Neg (tree a)) ∙ p
        ∙ ap (flat_map views_of_reading) (sym (fold-Neg (List Reading) (readings_by known line) a));
    abs = λ a p. ap views_of (fold-Abs Expr (tree_by known line) a)
        ∙ fold-roll-Expr (List Viewed) views_by (Expr-F.Abs (tree a)) ∙ p
        ∙ ap (flat_map views_of_reading) (sym (fold-Abs (List Reading) (readings_by known line) a));
    bin = at_bin;
    choice = at_where;
  })

-- the views of an assignment's whole value: its target's first, where it is joined with the old values
pub views_of_joined : (how : RawAssign) (target : Viewed) (value : Expr)
    → (views_of (joined how target value) ≡ views_of value) ⊎ (views_of (joined how target value) ≡ target ∷ views_of value)
views_of_joined assign.Plain target value = inl refl
views_of_joined assign.Add target value = inr (with_old op.Add target value)
views_of_joined assign.Sub target value = inr (with_old op.Sub target value)
views_of_joined assign.Mul target value = inr (with_old op.Mul target value)
