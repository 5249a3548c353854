use Rattle.std.proofs.Common.{◌∙◌, ap, arith, sym}
use Rattle.std.proofs.lemmas.Int.{ints}
use Rattle.pooma_layout.specs.Patches.{total_of}
use Rattle.pooma_iterate_bench.proofs.Rows.{row_of}
use Rattle.pooma_iterate_bench.proofs.cells.sum_of_store.Goals as goal

pub sum_of_store_row-sum-requires-clause-there : goal.sum_of_store_row-sum-requires-clause-there
sum_of_store_row-sum-requires-clause-there c x low high = record {
  known = omega (arith, ints, c.arrays.ensures, c.if-arrays-eq0.false);
  inside =
      row_of c.total-total.result _ _ _ _ (omega (arith, ints, c.dims.ensures.value, c.if-dims-ne2.false)) c.axis-along.ensures c.axis-across.ensures
      (sym (c.total-total.ensures ∙ ap total_of c.layout.ensures)) (omega (arith, ints)) (omega (arith, ints)) x low high;
}
