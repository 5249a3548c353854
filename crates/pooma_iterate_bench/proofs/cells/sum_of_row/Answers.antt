use Rattle.std.proofs.Common.{◌≡◌, arith, rules, to_z, of_z, w32}
use Rattle.std.proofs.lemmas.Int.{ints}
use Rattle.pooma_domain.specs.Cells.{IsIn}
use Rattle.pooma_iterate_bench.proofs.Rows.{at_cell}
use Rattle.pooma_iterate_bench.proofs.cells.sum_of_row.Goals as goal

pub get-sum-requires : goal.get-sum-requires
get-sum-requires c =
    let same : to_z w32 (of_z w32 c.args.y) ≡ c.args.y = search rules in
    at_cell (IsIn c.args.patch.now.content.area) c.args.along.first c.args.along.last _ _ _ c.of2.result c.requires (omega (arith, ints)) (omega (arith, ints)) c.of2.ensures same
