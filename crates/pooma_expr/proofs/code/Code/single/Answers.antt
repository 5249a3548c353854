use Rattle.std.proofs.Common.{sym, ap, ◌∙◌, subst, Option, IfSome}
use Rattle.pooma_expr.specs.Single.{single_of}
use Rattle.pooma_expr.specs.declared.single.Single.{Single}
use Rattle.pooma_expr.proofs.Singles.{HasValue, single_value}
use Rattle.pooma_expr.proofs.code.Code.single.Goals as goal

pub returns-clause-value : goal.returns-clause-value
returns-clause-value c =
    subst (λ (o : Option Single). IfSome o (HasValue c.args.self.now)) (sym (c.single_in.ensures ∙ ap single_of c.operations.ensures)) (single_value c.args.self.now)
