use Rattle.std.proofs.Common.{◌≡◌, ◌+◌, ◌≤◌, subst}
use Rattle.pooma_store.specs.Arrayed.{Arrayed}
use Rattle.pooma_store.specs.Numbering.{layout_at, patch_count, object_count, object_of}
use Rattle.pooma_store.proofs.KeptArrays.{array_there, first_object}
use Rattle.pooma_store.proofs.arrays.Arrays.first.Goals as goal

pub returns : goal.returns
returns c =
    let first = subst (λ (a : Arrayed). (c.index.result.now.first ≡ object_of a.layouts c.args.array 0) × (c.index.result.now.first + patch_count (layout_at a.layouts c.args.array) ≤ object_count a.layouts) × (object_count a.layouts ≤ 131072)) c.self.view_is
    (first_object c.self.inside.list.items c.args.array c.index.result.now
    (array_there c.self.inside.list.items c.args.self.now c.args.array c.self.view_is c.requires) c.index.ensures c.self.invariant.0 c.self.invariant.1) in
    record { value = first.0; room = first.1; few = first.2 }
