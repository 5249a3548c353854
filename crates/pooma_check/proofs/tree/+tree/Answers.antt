use Rattle.std.proofs.Common.{FitsSigned, rules, sym, w32, ◌∙◌, arith}
use Rattle.std.proofs.lemmas.Int.{to_z-of_z}
use Rattle.std.proofs.lemmas.Result.{IfOk-weaker}
use Rattle.pooma_script.proofs.BodyForms.{depth-Abs, depth-Bin, depth-Neg, depth-Where}
use Rattle.pooma_check.specs.Kept.{known_of}
use Rattle.pooma_check.proofs.TreeForms.{make_abs, make_apply_reads, make_bin, make_index, make_neg, make_view_reads, make_where, tree_apply}
use Rattle.pooma_check.proofs.tree.+tree.Goals as goal

pub tree-boxed-requires : goal.tree-boxed-requires
tree-boxed-requires t c = (omega (arith, c.decreases, depth-Neg _ _ c.in-Neg.is), (c.requires.kept, make_neg _ _ c.args.expr.now c.in-Neg.a c.in-Neg.is c.requires.can))

pub tree-boxed-requires-in-Abs : goal.tree-boxed-requires-in-Abs
tree-boxed-requires-in-Abs t c = (omega (arith, c.decreases, depth-Abs _ _ c.in-Abs.is), (c.requires.kept, make_abs _ _ c.args.expr.now c.in-Abs.a c.in-Abs.is c.requires.can))

pub tree-boxed-requires-in-Bin : goal.tree-boxed-requires-in-Bin
tree-boxed-requires-in-Bin t c = (omega (arith, c.decreases, depth-Bin _ _ _ _ c.in-Bin.is), (c.requires.kept, (make_bin _ _ c.args.expr.now c.in-Bin.op c.in-Bin.a c.in-Bin.b c.in-Bin.is c.requires.can).0))

pub tree-boxed-requires-in-Bin-2 : goal.tree-boxed-requires-in-Bin-2
tree-boxed-requires-in-Bin-2 t c = (omega (arith, c.decreases, depth-Bin _ _ _ _ c.in-Bin.is), (c.requires.kept, (make_bin _ _ c.args.expr.now c.in-Bin.op c.in-Bin.a c.in-Bin.b c.in-Bin.is c.requires.can).1))

pub tree-boxed-requires-in-Where : goal.tree-boxed-requires-in-Where
tree-boxed-requires-in-Where t c =
    (omega (arith, c.decreases, depth-Where _ _ _ _ c.in-Where.is), (c.requires.kept, (make_where _ _ c.args.expr.now c.in-Where.c c.in-Where.a c.in-Where.b c.in-Where.is c.requires.can).0))

pub tree-boxed-requires-in-Where-2 : goal.tree-boxed-requires-in-Where-2
tree-boxed-requires-in-Where-2 t c =
    (omega (arith, c.decreases, depth-Where _ _ _ _ c.in-Where.is), (c.requires.kept, (make_where _ _ c.args.expr.now c.in-Where.c c.in-Where.a c.in-Where.b c.in-Where.is c.requires.can).1))

pub tree-boxed-requires-in-Where-3 : goal.tree-boxed-requires-in-Where-3
tree-boxed-requires-in-Where-3 t c =
    (omega (arith, c.decreases, depth-Where _ _ _ _ c.in-Where.is), (c.requires.kept, (make_where _ _ c.args.expr.now c.in-Where.c c.in-Where.a c.in-Where.b c.in-Where.is c.requires.can).2))

pub tree-index_of-requires : goal.tree-index_of-requires
tree-index_of-requires t c =
    let fits : FitsSigned w32 c.in-Index.axis = search rules in
    let few = make_index (known_of c.args.known.now) c.args.text.now c.args.expr.now c.in-Index.axis c.in-Index.is c.requires.can in simp to_z-of_z few

pub tree-read-requires-clause-reads : goal.tree-read-requires-clause-reads
tree-read-requires-clause-reads t c = make_view_reads (known_of c.args.known.now) c.args.text.now c.args.expr.now c.in-View.seen c.in-View.is c.requires.can

pub tree-apply-requires-clause-reads : goal.tree-apply-requires-clause-reads
tree-apply-requires-clause-reads t c = make_apply_reads (known_of c.args.known.now) c.args.text.now c.args.expr.now c.in-Apply.stencil c.in-Apply.view c.in-Apply.is c.requires.can

pub tree-returns-in-Apply : goal.tree-returns-in-Apply
tree-returns-in-Apply t c = IfOk-weaker c.apply.result _ _ (λ made is. is
    ∙ sym (tree_apply (known_of c.args.known.now) c.args.text.now c.args.expr.now c.in-Apply.stencil c.in-Apply.view c.in-Apply.is)) c.apply.ensures
