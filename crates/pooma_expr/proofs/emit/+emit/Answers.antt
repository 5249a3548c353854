use Rattle.std.proofs.Common.{◌++◌, ap, ◌∙◌}
use Rattle.pooma_expr.proofs.Choices.{written, choice_is, choice_views}
use Rattle.pooma_expr.proofs.emit.+emit.Goals as goal

pub returns-in_ok-emit-in-Where-3-clause-code : goal.returns-in_ok-emit-in-Where-3-clause-code
returns-in_ok-emit-in-Where-3-clause-code t c =
    written _ _ _ _ _ _ _ _ _ _ _ _ _ _
    c.in_ok-emit-in-Where.ensures.code (c.len-test_end.ensures ∙ c.emit-in-Where.new.code.ok.0) c.in_ok-put-in-Where.ensures
    c.in_ok-emit-in-Where-2.ensures.code (c.len-first_end.ensures ∙ c.emit-in-Where-2.new.code.ok.0) c.in_ok-put-in-Where-2.ensures
    c.in_ok-emit-in-Where-3.ensures.code (c.len-in-Where.ensures ∙ c.emit-in-Where-3.new.code.ok.0)
    ∙ ap (λ os. c.args.code.now.items ++ os) (choice_is _ _ _ _ _ _ _ _ _ _ c.in-Where.is c.get-in-Where.ensures c.get-in-Where-2.ensures c.get-in-Where-3.ensures c.in_ok-emit-in-Where.ensures.next c.in_ok-emit-in-Where-2.ensures.next)

pub returns-in_ok-emit-in-Where-3-clause-reads : goal.returns-in_ok-emit-in-Where-3-clause-reads
returns-in_ok-emit-in-Where-3-clause-reads t c =
    choice_views _ _ _ _ _ _ _ _ _ _ _ c.in-Where.is c.get-in-Where.ensures c.get-in-Where-2.ensures c.get-in-Where-3.ensures c.in_ok-emit-in-Where.ensures.reads c.in_ok-emit-in-Where-2.ensures.reads c.in_ok-emit-in-Where-3.ensures.reads
