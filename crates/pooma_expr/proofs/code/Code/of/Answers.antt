use Rattle.std.proofs.Common.{[], ap, ◌∙◌, arith}
use Rattle.pooma_expr.specs.Trees.{axes_needed, depth_of, scalars_needed, views_of}
use Rattle.pooma_expr.specs.Values.{value}
use Rattle.pooma_expr.proofs.Bound.{value_bound, views_bound, axes_bound, depth_bound, scalars_bound}
use Rattle.pooma_expr.proofs.Kept.{kept}
use Rattle.pooma_expr.proofs.code.Code.of.Goals as goal

pub emit-requires : goal.emit-requires
emit-requires c = omega (arith, ap scalars_needed c.in_ok-tree.ensures.tree, scalars_bound c.args.scalars.now c.args.expr.now)

pub places-requires : goal.places-requires
places-requires c = omega (arith, ap depth_of c.in_ok-tree.ensures.tree, depth_bound c.args.scalars.now c.args.expr.now, c.requires.depth)

pub invariant_of-compiled : goal.invariant_of-compiled
invariant_of-compiled c =
    kept c.args.expr.now _ _ c.args.scalars.now _ _ _ _ _ c.in_ok-tree.ensures.tree c.of.ensures c.new-operations.ensures.items c.new-reads.ensures.items
    c.in_ok-emit.ensures.code c.in_ok-emit.ensures.reads c.places.ensures.places c.places.ensures.most c.requires.depth c.requires.reads

pub returns-clause-value : goal.returns-clause-value
returns-clause-value c = λ has p.
    ap (λ e. value [] has e p) (c.in_ok-new.ensures.ok ∙ c.of.ensures ∙ c.in_ok-tree.ensures.tree) ∙ value_bound c.args.scalars.now c.args.expr.now has p

pub returns-clause-views : goal.returns-clause-views
returns-clause-views c = ap views_of (c.in_ok-new.ensures.ok ∙ c.of.ensures ∙ c.in_ok-tree.ensures.tree) ∙ views_bound c.args.scalars.now c.args.expr.now

pub returns-clause-axes : goal.returns-clause-axes
returns-clause-axes c = ap axes_needed (c.in_ok-new.ensures.ok ∙ c.of.ensures ∙ c.in_ok-tree.ensures.tree) ∙ axes_bound c.args.scalars.now c.args.expr.now
