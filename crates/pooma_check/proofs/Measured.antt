-- The tree of an expression has as many views and is as deep as its forms tell.
use Rattle.std.proofs.Common.{◌≡◌, ℕ, ◌+◌, ◌≤◌, max, List, ◌++◌, length, Option, Some, None, sym, ap, ap₂, ◌∙◌, arith}
use Rattle.std.specs.Prelude.{pos, if◌then◌else◌}
use Rattle.std.proofs.lemmas.List.{length-append, length-map}
use Rattle.pooma_domain.specs.Cells.{count_of}
use Rattle.pooma_view.specs.Views.{Viewed}
use Rattle.pooma_expr.specs.declared.tree.Expr.{Expr}
use Rattle.pooma_expr.specs.declared.tree.Expr.TheOpen.{Expr-F}
use Rattle.pooma_expr.specs.declared.tree.Expr.TheViews.{roll-Expr}
use Rattle.pooma_expr.specs.declared.tree.Expr.TheFolds.{fold-roll-Expr}
use Rattle.pooma_expr.specs.declared.tree.Op.{Op}
use Rattle.pooma_expr.specs.declared.tree.Op.TheVariants as op
use Rattle.pooma_expr.specs.Trees as trees
use Rattle.pooma_stencil.specs.Bodies as bodies
use Rattle.pooma_stencil.specs.Expansions.{expansion, view_read}
use Rattle.pooma_stencil.specs.Stencils.{Stenciled}
use Rattle.pooma_stencil.specs.declared.body.Body.{Body}
use Rattle.pooma_stencil.proofs.Expanded.{views-expanded, depth-expanded}
use Rattle.pooma_stencil.proofs.Trees as stencils
use Rattle.pooma_parse.specs.declared.form.RawAssign.{RawAssign}
use Rattle.pooma_parse.specs.declared.form.RawAssign.TheVariants as assign
use Rattle.pooma_parse.specs.declared.form.RawExpr.{RawExpr}
use Rattle.pooma_script.specs.declared.names.Named.{Named}
use Rattle.pooma_script.specs.declared.names.Named.TheVariants as named
use Rattle.pooma_script.specs.Known.{Known, is_scalar, named_at, stencil_named}
use Rattle.pooma_script.specs.Operators.{op_of}
use Rattle.pooma_script.specs.Statements.{joined}
use Rattle.pooma_script.specs.Trees.{leaf, tree_by, tree_of}
use Rattle.pooma_script.specs.Views.{view_of}
use Rattle.pooma_script.proofs.Expressions.{by_form, fold-Abs, fold-Apply, fold-At, fold-Bin, fold-Index, fold-Neg, fold-Number, fold-View, fold-Where}
use Rattle.pooma_check.specs.Measures.{reads_by, tree_reads, depth_by, tree_depth, old_reads}

-- a body is no less deep than a leaf
pub some_body_depth : (b : Body) → 1 ≤ bodies.body_depth b
some_body_depth = stencils.by_form (λ b. 1 ≤ bodies.body_depth b) (record {
  literal = λ x. omega (arith, stencils.fold-Literal ℕ bodies.depth_by x);
  at = λ o. omega (arith, stencils.fold-At ℕ bodies.depth_by o);
  neg = λ a h. omega (arith, stencils.fold-Neg ℕ bodies.depth_by a);
  abs = λ a h. omega (arith, stencils.fold-Abs ℕ bodies.depth_by a);
  bin = λ o a b h k. omega (arith, stencils.fold-Bin ℕ bodies.depth_by o a b);
  choice = λ c a b h k l. omega (arith, stencils.fold-Where ℕ bodies.depth_by c a b);
})

leaf_reads : (what : Option Named) (view : Viewed) → length (trees.views_of (leaf what view)) ≡ if is_scalar what then 0 else 1
leaf_reads None view = ap length (fold-roll-Expr (List Viewed) trees.views_by (Expr-F.Read view))
leaf_reads (Some (named.Layout n)) view = ap length (fold-roll-Expr (List Viewed) trees.views_by (Expr-F.Read view))
leaf_reads (Some (named.Array n)) view = ap length (fold-roll-Expr (List Viewed) trees.views_by (Expr-F.Read view))
leaf_reads (Some (named.Stencil n)) view = ap length (fold-roll-Expr (List Viewed) trees.views_by (Expr-F.Read view))
leaf_reads (Some (named.Scalar n)) view = ap length (fold-roll-Expr (List Viewed) trees.views_by (Expr-F.Scalar n))

leaf_depth : (what : Option Named) (view : Viewed) → trees.depth_of (leaf what view) ≡ 1
leaf_depth None view = fold-roll-Expr ℕ trees.depth_by (Expr-F.Read view)
leaf_depth (Some (named.Layout n)) view = fold-roll-Expr ℕ trees.depth_by (Expr-F.Read view)
leaf_depth (Some (named.Array n)) view = fold-roll-Expr ℕ trees.depth_by (Expr-F.Read view)
leaf_depth (Some (named.Stencil n)) view = fold-roll-Expr ℕ trees.depth_by (Expr-F.Read view)
leaf_depth (Some (named.Scalar n)) view = fold-roll-Expr ℕ trees.depth_by (Expr-F.Scalar n)

expansion_reads : (s : Stenciled) (v : Viewed) → length (trees.views_of (expansion s v)) ≡ length (bodies.offsets_of s.body)
expansion_reads s v = ap length (views-expanded (view_read s v) s.body) ∙ length-map (bodies.offsets_of s.body) (view_read s v)

module _ (known : Known) (line : List ℕ) where
  abbrev tree : RawExpr → Expr
  tree = tree_of known line

  abbrev HasReads : RawExpr → Type 0
  HasReads e = length (trees.views_of (tree e)) ≡ tree_reads known line e

  pub reads_of_tree : (e : RawExpr) → HasReads e
  reads_of_tree = by_form HasReads (record {
    number = λ n. ap (λ t. length (trees.views_of t)) (fold-Number Expr (tree_by known line) n) ∙ ap length (fold-roll-Expr (List Viewed) trees.views_by (Expr-F.Literal n)) ∙ sym (fold-Number ℕ (reads_by known line) n);
    index = λ axis. ap (λ t. length (trees.views_of t)) (fold-Index Expr (tree_by known line) axis) ∙ ap length (fold-roll-Expr (List Viewed) trees.views_by (Expr-F.Index (count_of axis))) ∙ sym (fold-Index ℕ (reads_by known line) axis);
    view = λ seen. ap (λ t. length (trees.views_of t)) (fold-View Expr (tree_by known line) seen) ∙ leaf_reads (named_at known line seen.name) (view_of known line seen) ∙ sym (fold-View ℕ (reads_by known line) seen);
    apply = λ stencil seen. ap (λ t. length (trees.views_of t)) (fold-Apply Expr (tree_by known line) stencil seen) ∙ expansion_reads (stencil_named known (named_at known line stencil)) (view_of known line seen) ∙ sym (fold-Apply ℕ (reads_by known line) stencil seen);
    at = λ offset. ap (λ t. length (trees.views_of t)) (fold-At Expr (tree_by known line) offset) ∙ ap length (fold-roll-Expr (List Viewed) trees.views_by (Expr-F.Literal (pos 0))) ∙ sym (fold-At ℕ (reads_by known line) offset);
    neg = λ a h. ap (λ t. length (trees.views_of t)) (fold-Neg Expr (tree_by known line) a) ∙ ap length (fold-roll-Expr (List Viewed) trees.views_by (Expr-F.Neg (tree a))) ∙ h ∙ sym (fold-Neg ℕ (reads_by known line) a);
    abs = λ a h. ap (λ t. length (trees.views_of t)) (fold-Abs Expr (tree_by known line) a) ∙ ap length (fold-roll-Expr (List Viewed) trees.views_by (Expr-F.Abs (tree a))) ∙ h ∙ sym (fold-Abs ℕ (reads_by known line) a);
    bin = λ o a b h k.
        ap (λ t. length (trees.views_of t)) (fold-Bin Expr (tree_by known line) o a b)
        ∙ ap length (fold-roll-Expr (List Viewed) trees.views_by (Expr-F.Bin (op_of o) (tree a) (tree b)))
        ∙ length-append (trees.views_of (tree a)) (trees.views_of (tree b))
        ∙ ap₂ (λ (m n : ℕ). m + n) h k
        ∙ sym (fold-Bin ℕ (reads_by known line) o a b);
    choice = λ c a b h k l.
        ap (λ t. length (trees.views_of t)) (fold-Where Expr (tree_by known line) c a b)
        ∙ ap length (fold-roll-Expr (List Viewed) trees.views_by (Expr-F.Where (tree c) (tree a) (tree b)))
        ∙ length-append (trees.views_of (tree c)) (trees.views_of (tree a) ++ trees.views_of (tree b))
        ∙ ap₂ (λ (m n : ℕ). m + n) h (length-append (trees.views_of (tree a)) (trees.views_of (tree b)) ∙ ap₂ (λ (m n : ℕ). m + n) k l)
        ∙ sym (fold-Where ℕ (reads_by known line) c a b);
  })

  abbrev HasDepth : RawExpr → Type 0
  HasDepth e = trees.depth_of (tree e) ≡ tree_depth known line e

  pub depth_of_tree : (e : RawExpr) → HasDepth e
  depth_of_tree = by_form HasDepth (record {
    number = λ n. ap trees.depth_of (fold-Number Expr (tree_by known line) n) ∙ fold-roll-Expr ℕ trees.depth_by (Expr-F.Literal n) ∙ sym (fold-Number ℕ (depth_by known line) n);
    index = λ axis. ap trees.depth_of (fold-Index Expr (tree_by known line) axis) ∙ fold-roll-Expr ℕ trees.depth_by (Expr-F.Index (count_of axis)) ∙ sym (fold-Index ℕ (depth_by known line) axis);
    view = λ seen. ap trees.depth_of (fold-View Expr (tree_by known line) seen) ∙ leaf_depth (named_at known line seen.name) (view_of known line seen) ∙ sym (fold-View ℕ (depth_by known line) seen);
    apply = λ stencil seen. ap trees.depth_of (fold-Apply Expr (tree_by known line) stencil seen)
        ∙ depth-expanded (view_read (stencil_named known (named_at known line stencil)) (view_of known line seen)) (stencil_named known (named_at known line stencil)).body
        ∙ sym (fold-Apply ℕ (depth_by known line) stencil seen);
    at = λ offset. ap trees.depth_of (fold-At Expr (tree_by known line) offset) ∙ fold-roll-Expr ℕ trees.depth_by (Expr-F.Literal (pos 0)) ∙ sym (fold-At ℕ (depth_by known line) offset);
    neg = λ a h. ap trees.depth_of (fold-Neg Expr (tree_by known line) a) ∙ fold-roll-Expr ℕ trees.depth_by (Expr-F.Neg (tree a)) ∙ ap (λ (n : ℕ). n + 1) h ∙ sym (fold-Neg ℕ (depth_by known line) a);
    abs = λ a h. ap trees.depth_of (fold-Abs Expr (tree_by known line) a) ∙ fold-roll-Expr ℕ trees.depth_by (Expr-F.Abs (tree a)) ∙ ap (λ (n : ℕ). n + 1) h ∙ sym (fold-Abs ℕ (depth_by known line) a);
    bin = λ o a b h k.
        ap trees.depth_of (fold-Bin Expr (tree_by known line) o a b)
        ∙ fold-roll-Expr ℕ trees.depth_by (Expr-F.Bin (op_of o) (tree a) (tree b))
        ∙ ap₂ (λ (m n : ℕ). max m n + 1) h k
        ∙ sym (fold-Bin ℕ (depth_by known line) o a b);
    choice = λ c a b h k l.
        ap trees.depth_of (fold-Where Expr (tree_by known line) c a b)
        ∙ fold-roll-Expr ℕ trees.depth_by (Expr-F.Where (tree c) (tree a) (tree b))
        ∙ ap₂ (λ (m n : ℕ). max m n + 1) h (ap₂ (λ (m n : ℕ). max m n) k l)
        ∙ sym (fold-Where ℕ (depth_by known line) c a b);
  })

  pub some_depth : (e : RawExpr) → 1 ≤ tree_depth known line e
  some_depth = by_form (λ e. 1 ≤ tree_depth known line e) (record {
    number = λ n. omega (arith, fold-Number ℕ (depth_by known line) n);
    index = λ axis. omega (arith, fold-Index ℕ (depth_by known line) axis);
    view = λ seen. omega (arith, fold-View ℕ (depth_by known line) seen);
    apply = λ stencil seen. omega (arith, fold-Apply ℕ (depth_by known line) stencil seen, some_body_depth (stencil_named known (named_at known line stencil)).body);
    at = λ offset. omega (arith, fold-At ℕ (depth_by known line) offset);
    neg = λ a h. omega (arith, fold-Neg ℕ (depth_by known line) a);
    abs = λ a h. omega (arith, fold-Abs ℕ (depth_by known line) a);
    bin = λ o a b h k. omega (arith, fold-Bin ℕ (depth_by known line) o a b);
    choice = λ c a b h k l. omega (arith, fold-Where ℕ (depth_by known line) c a b);
  })

-- what is joined with the old numbers reads one view more, and is one deeper
with_old_reads : (o : Op) (target : Viewed) (value : Expr) → length (trees.views_of (roll-Expr (Expr-F.Bin o (roll-Expr (Expr-F.Read target)) value))) ≡ length (trees.views_of value) + 1
with_old_reads o target value =
    let whole = ap length (fold-roll-Expr (List Viewed) trees.views_by (Expr-F.Bin o (roll-Expr (Expr-F.Read target)) value)) in
    let parts = length-append (trees.views_of (roll-Expr (Expr-F.Read target))) (trees.views_of value) in
    let first = ap length (fold-roll-Expr (List Viewed) trees.views_by (Expr-F.Read target)) in
    omega (arith, whole, parts, first)

with_old_depth : (o : Op) (target : Viewed) (value : Expr) → trees.depth_of (roll-Expr (Expr-F.Bin o (roll-Expr (Expr-F.Read target)) value)) ≡ max 1 (trees.depth_of value) + 1
with_old_depth o target value =
    fold-roll-Expr ℕ trees.depth_by (Expr-F.Bin o (roll-Expr (Expr-F.Read target)) value)
    ∙ ap (λ (n : ℕ). max n (trees.depth_of value) + 1) (fold-roll-Expr ℕ trees.depth_by (Expr-F.Read target))

pub reads_of_joined : (how : RawAssign) (target : Viewed) (value : Expr) → length (trees.views_of (joined how target value)) ≡ length (trees.views_of value) + old_reads how
reads_of_joined assign.Plain target value = omega arith
reads_of_joined assign.Add target value = with_old_reads op.Add target value
reads_of_joined assign.Sub target value = with_old_reads op.Sub target value
reads_of_joined assign.Mul target value = with_old_reads op.Mul target value

pub depth_of_joined : (how : RawAssign) (target : Viewed) (value : Expr) → 1 ≤ trees.depth_of value → trees.depth_of (joined how target value) ≡ trees.depth_of value + old_reads how
depth_of_joined assign.Plain target value some = omega arith
depth_of_joined assign.Add target value some = omega (arith, some, with_old_depth op.Add target value)
depth_of_joined assign.Sub target value some = omega (arith, some, with_old_depth op.Sub target value)
depth_of_joined assign.Mul target value some = omega (arith, some, with_old_depth op.Mul target value)

-- the same of the value of a line
module _ (known : Known) (line : List ℕ) (how : RawAssign) (target : Viewed) (value : RawExpr) where
  pub reads_of_assigned : length (trees.views_of (joined how target (tree_of known line value))) ≡ tree_reads known line value + old_reads how
  reads_of_assigned = omega (arith, reads_of_joined how target (tree_of known line value), reads_of_tree known line value)

  pub depth_of_assigned : trees.depth_of (joined how target (tree_of known line value)) ≡ tree_depth known line value + old_reads how
  depth_of_assigned =
      let is = depth_of_tree known line value in
      omega (arith, is, depth_of_joined how target (tree_of known line value) (omega (arith, is, some_depth known line value)))
