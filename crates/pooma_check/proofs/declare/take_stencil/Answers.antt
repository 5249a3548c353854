use Rattle.std.proofs.Common.{sym, ap, subst, ◌∙◌}
use Rattle.std.specs.Prelude.{All}
use Rattle.pooma_domain.specs.Cells.{IsIn}
use Rattle.pooma_domain.specs.Operations.{reaches}
use Rattle.pooma_stencil.specs.Bodies.{offsets_of}
use Rattle.pooma_check.proofs.BodyTrees.{offsets_of_body}
use Rattle.pooma_check.proofs.declare.take_stencil.Goals as goal

pub new-stencil-requires-clause-within : goal.new-stencil-requires-clause-within
new-stencil-requires-clause-within c =
    rw (c.cell_of.ensures, c.cell_of-2.ensures)
    (subst (All (IsIn (reaches c.args.lower.now c.args.upper.now))) (sym (ap offsets_of c.in_ok-made.ensures ∙ offsets_of_body c.args.expr.now)) c.requires.within)
