use Rattle.std.proofs.Common.{◌∙◌}
use Rattle.std.proofs.lemmas.List.Elements.{All-rest}
use Rattle.pooma_model.specs.declared.statement.Statement.{Statement}
use Rattle.pooma_model.specs.Fit.{IsFit}
use Rattle.pooma_statement_tests.proofs.Statements.{given_fits}
use Rattle.pooma_statement_tests.proofs.scene.run_program.Goals as goal

pub execute-requires : goal.execute-requires
execute-requires c =
    given_fits c.args.program.now.declared c.loop-statement.scene c.loop-statement.walk c.next.new.self c.in-Some.statement.now
    c.loop-statement.invariant.same c.loop-statement.invariant.fit c.in-Some.ensures.some

pub loop-statement-preserved : goal.loop-statement-preserved
loop-statement-preserved c = record {
  same = c.execute.ensures ∙ c.loop-statement.invariant.same;
  fit = All-rest (λ (s : Statement). IsFit c.args.program.now.declared s.action) c.in-Some.statement.now c.next.new.self c.loop-statement.walk c.in-Some.ensures.some c.loop-statement.invariant.fit;
}
