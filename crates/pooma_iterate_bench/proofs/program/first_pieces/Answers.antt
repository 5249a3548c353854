use Rattle.std.proofs.Common.{◌≡◌, ◌∷◌, arith, length, sym, subst}
use Rattle.std.proofs.lemmas.Int.{ints}
use Rattle.pooma_model.specs.Fit.{AreFit}
use Rattle.pooma_iterate_bench.proofs.Statements.{given_fits}
use Rattle.pooma_iterate_bench.proofs.program.first_pieces.Goals as goal

pub pieces-requires : goal.pieces-requires
pieces-requires c =
    let given : c.walk-walk.result ≡ c.in-Some.statement.now ∷ c.next.new.self = c.in-Some.ensures.some in
    let count : length c.deref.result.now ≡ c.args.program.now.declared.scalars = omega (arith, ints, c.in_ok-scalars.ensures.len, c.deref.ensures.len, c.scalars.ensures) in
    given_fits c.args.program.now.declared c.args.store.now _ c.walk-walk.result c.next.new.self c.in-Some.statement.now c.requires.shapes c.requires.layouts count
    (subst (AreFit c.args.program.now.declared) (sym c.walk-walk.ensures.order) c.walk-walk.ensures.fit) given
