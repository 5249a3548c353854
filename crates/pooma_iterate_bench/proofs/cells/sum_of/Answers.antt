use Rattle.std.proofs.Common.{arith, sym}
use Rattle.std.proofs.lemmas.Int.{ints}
use Rattle.pooma_iterate_bench.proofs.Rows.{row_of}
use Rattle.pooma_iterate_bench.proofs.cells.sum_of.Goals as goal

pub sum_of_row-sum-requires : goal.sum_of_row-sum-requires
sum_of_row-sum-requires c =
    row_of c.area-area.result c.args.patch.now.content.area _ _ _ (omega (arith, ints, c.dims.ensures.value, c.if-dims-ne2.false)) c.axis-along.ensures c.axis-across.ensures
    (sym c.area-area.ensures.value) (omega (arith, ints)) (omega (arith, ints))
