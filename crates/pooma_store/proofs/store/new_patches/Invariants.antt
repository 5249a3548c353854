use Rattle.std.proofs.Common.{◌≡◌, take}
use Rattle.pooma_store.specs.Numbering.{new_patches}
use Rattle.pooma_store.specs.Stored.{contents_of}
use Rattle.pooma_store.proofs.store.new_patches.Given as goal

abbrev pub invariant-loop-p : goal.invariant-loop-p
invariant-loop-p l = contents_of l.made.items ≡ take l.p (new_patches l.layout)
