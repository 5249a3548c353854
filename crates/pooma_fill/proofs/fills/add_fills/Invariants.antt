use Rattle.std.proofs.Common.{◌≡◌, ◌++◌, take}
use Rattle.std.specs.Prelude.{flat_map}
use Rattle.pooma_field.specs.ShapeOf.{shape_of}
use Rattle.pooma_field.specs.Slabs.{slabs_of}
use Rattle.pooma_fill.specs.Filling.{fills_of_slab}
use Rattle.pooma_fill.proofs.fills.add_fills.Given as goal

abbrev pub invariant-loop-k : goal.invariant-loop-k
invariant-loop-k l =
    l.list.items ≡ l.initial.list.items ++ flat_map (fills_of_slab l.store.layouts l.fn.number l.shape l.fn.array) (take l.k (slabs_of (shape_of l.shape)))
