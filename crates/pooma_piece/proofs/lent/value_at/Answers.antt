use Rattle.std.proofs.Common.{◌≤◌, ◌∙◌, ap, sym, subst, ℕ, length, []}
use Rattle.std.specs.Option.{option_copied}
use Rattle.std.specs.Prelude.{option_map}
use Rattle.pooma_expr.specs.declared.tree.Expr.{Expr}
use Rattle.pooma_expr.specs.Trees.{axes_needed}
use Rattle.pooma_expr.specs.Values.{value}
use Rattle.pooma_machine.specs.Slots.{contents}
use Rattle.pooma_piece.specs.Meaning.{content_of}
use Rattle.pooma_piece.proofs.Seen.{can_read_as, reads_agree_as}
use Rattle.pooma_piece.proofs.lent.value_at.Goals as goal

pub eval_at-requires-clause-axes : goal.eval_at-requires-clause-axes
eval_at-requires-clause-axes c =
    subst (λ (n : ℕ). axes_needed c.code-code.result.now ≤ n) (sym (c.coordinates_of_cells.ensures.length c.args.piece.now.positions c.args.p.now c.requires.inside))
    (subst (λ (e : Expr). axes_needed e ≤ length c.args.piece.now.positions) (sym c.code-code.ensures.tree) c.code-code.ensures.valid.axes)

pub eval_at-requires-clause-reads : goal.eval_at-requires-clause-reads
eval_at-requires-clause-reads c read within =
    can_read_as c.args.piece.now (option_map content_of (option_copied c.args.written)) (contents content_of c.args.reads.now) c.args.p.now c.code-code.ensures.valid c.requires.inside c.requires.there
    c.code-code.result.now c.code-code.ensures.tree c.reads.result.now c.reads.ensures.views c.sources.result.now c.sources.ensures read within

pub returns : goal.returns
returns c has sees =
    c.eval_at.ensures has
    (reads_agree_as c.args.piece.now (option_map content_of (option_copied c.args.written)) (contents content_of c.args.reads.now) has c.args.p.now c.code-code.ensures.valid sees
    c.code-code.result.now c.code-code.ensures.tree c.reads.result.now c.reads.ensures.views c.sources.result.now c.sources.ensures)
    ∙ ap (λ (e : Expr). value [] has e c.args.p.now) c.code-code.ensures.tree
