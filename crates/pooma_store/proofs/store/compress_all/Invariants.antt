use Rattle.std.proofs.Common.{◌≡◌, take, All}
use Rattle.pooma_field.specs.Numbered.{IsFull}
use Rattle.pooma_store.specs.Stored.{contents_of}
use Rattle.pooma_store.proofs.KeptOnes.{AllStay}
use Rattle.pooma_store.proofs.store.compress_all.Given as goal

abbrev pub invariant-loop-patch : goal.invariant-loop-patch
invariant-loop-patch l = record {
  contents : contents_of l.patches ≡ contents_of l.initial.patches;
  full : All IsFull (take l.patch-index (contents_of l.patches));
  stay : AllStay l.initial.patches l.patches;
}
