use Rattle.std.proofs.Common.{◌≡◌, List, arith, rules, sym, subst, to_z, of_z, w32}
use Rattle.std.proofs.lemmas.Int.{ints}
use Rattle.pooma_domain.specs.Cells.{Interval, IsIn}
use Rattle.pooma_iterate_bench.proofs.Rows.{at_cell}
use Rattle.pooma_iterate_bench.proofs.cells.write_row.Goals as goal

pub set-requires-clause-inside : goal.set-requires-clause-inside
set-requires-clause-inside c =
    let same : to_z w32 (of_z w32 c.args.y) ≡ c.args.y = search rules in
    subst (λ (box : List Interval). IsIn box c.of2.result) (sym c.cells.invariant.area)
    (at_cell (IsIn c.args.patch.now.content.area) c.args.along.first c.args.along.last _ _ _ c.of2.result c.requires.inside
    (omega (arith, ints)) (omega (arith, ints)) c.of2.ensures same)
