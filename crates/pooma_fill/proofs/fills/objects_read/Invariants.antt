use Rattle.std.proofs.Common.{◌≡◌, map, take}
use Rattle.pooma_field.specs.ShapeOf.{shape_of}
use Rattle.pooma_field.specs.Slabs.{cell_sources}
use Rattle.pooma_layout.specs.Patches.{owner_of}
use Rattle.pooma_store.specs.Numbering.{layout_at, object_of}
use Rattle.pooma_fill.proofs.fills.objects_read.Given as goal

abbrev pub invariant-loop-place : goal.invariant-loop-place
invariant-loop-place l =
    l.objects.items ≡ map (λ s. object_of l.store.layouts l.fn.array (owner_of (layout_at l.store.layouts l.fn.array) s)) (take l.place (cell_sources (shape_of l.shape) l.slab l.c))
