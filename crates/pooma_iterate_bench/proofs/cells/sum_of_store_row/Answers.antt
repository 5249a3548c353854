use Rattle.std.proofs.Common.{◌≡◌, arith, rules, to_z, of_z, w32}
use Rattle.std.proofs.lemmas.Int.{ints}
use Rattle.pooma_store.specs.Standing.{HasTotal}
use Rattle.pooma_iterate_bench.proofs.Rows.{at_cell}
use Rattle.pooma_iterate_bench.proofs.cells.sum_of_store_row.Goals as goal

pub get-sum-requires-clause-cell : goal.get-sum-requires-clause-cell
get-sum-requires-clause-cell c =
    let same : to_z w32 (of_z w32 c.args.y) ≡ c.args.y = search rules in
    at_cell (HasTotal c.args.store.now.layouts 0) c.args.along.first c.args.along.last _ _ _ c.of2.result c.requires.there (omega (arith, ints)) (omega (arith, ints)) c.of2.ensures same
