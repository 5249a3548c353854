use Rattle.std.proofs.Common.{◌≡◌, ◌∷◌, rules, sym, subst}
use Rattle.pooma_model.specs.Fit.{AreFit}
use Rattle.pooma_statement_tests.proofs.Statements.{given_fits}
use Rattle.pooma_statement_tests.proofs.scene.first.Goals as goal

pub asked-requires : goal.asked-requires
asked-requires c =
    let same : c.in_ok-scene.scene ≡ c.in_ok-program.program.declared = search rules in
    let given : c.walk-walk.result ≡ c.in_ok-statement.statement.now ∷ c.next.new.self = search rules in
    given_fits c.in_ok-program.program.declared c.in_ok-scene.scene c.walk-walk.result c.next.new.self c.in_ok-statement.statement.now same
    (subst (AreFit c.in_ok-program.program.declared) (sym c.walk-walk.ensures.order) c.walk-walk.ensures.fit) given
