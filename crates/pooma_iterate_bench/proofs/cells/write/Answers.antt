use Rattle.std.proofs.Common.{◌∙◌, arith, sym}
use Rattle.std.proofs.lemmas.Int.{ints}
use Rattle.pooma_iterate_bench.proofs.Rows.{row_of}
use Rattle.pooma_iterate_bench.proofs.cells.write.Goals as goal

pub write_row-requires-clause-inside : goal.write_row-requires-clause-inside
write_row-requires-clause-inside c =
    row_of c.area-area.result c.rows.patch.content.area _ _ _ (omega (arith, ints, c.dims.ensures.value, c.if-dims-ne2.false)) c.axis-along.ensures c.axis-across.ensures
    (c.rows.invariant.area ∙ sym c.area-area.ensures.value) (omega (arith, ints)) (omega (arith, ints))
