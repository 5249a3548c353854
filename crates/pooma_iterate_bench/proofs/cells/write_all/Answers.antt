use Rattle.std.proofs.Common.{◌∙◌}
use Rattle.pooma_iterate_bench.proofs.cells.write_all.Goals as goal

pub patches-preserved : goal.patches-preserved
patches-preserved c = c.patches_in_place.ensures c.patches.patches c.patches.patch-index c.patch-item.result c.write_alone.new.patch c.write_alone.ensures ∙ c.patches.invariant
