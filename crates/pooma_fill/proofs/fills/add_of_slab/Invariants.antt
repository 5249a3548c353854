use Rattle.std.proofs.Common.{◌≡◌, ◌++◌}
use Rattle.std.specs.Prelude.{flat_map}
use Rattle.pooma_fill.specs.Boxes.{numbers_below}
use Rattle.pooma_fill.specs.Filling.{fills_of_patch}
use Rattle.pooma_fill.proofs.fills.add_of_slab.Given as goal

abbrev pub invariant-loop-target : goal.invariant-loop-target
invariant-loop-target l =
    l.list.items ≡ l.initial.list.items ++ flat_map (fills_of_patch l.store.layouts l.fn.number l.shape l.fn.array l.slab) (numbers_below l.target)
