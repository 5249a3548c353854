use Rattle.std.proofs.Common.{◌≡◌, map}
use Rattle.pooma_store.specs.Stored.{contents_of}
use Rattle.pooma_iterate_bench.proofs.cells.write_all.Given as goal

abbrev pub invariant-patches : goal.invariant-patches
invariant-patches l = map (λ object. object.area) (contents_of l.patches) ≡ map (λ object. object.area) (contents_of l.initial.patches)
