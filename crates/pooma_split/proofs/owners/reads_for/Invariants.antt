use Rattle.std.proofs.Common.{◌≡◌, map, take}
use Rattle.pooma_split.specs.Splits.{declared_in, object_for}
use Rattle.pooma_split.proofs.owners.reads_for.Given as goal

abbrev pub invariant-loop-view : goal.invariant-loop-view
invariant-loop-view l = l.reads.items ≡ map (object_for (declared_in l.store 0) l.part) (take l.view-index l.views)
