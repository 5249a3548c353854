use Rattle.std.proofs.Common.{◌≡◌, false}
use Rattle.pooma_field.specs.Numbered.{IsFull}
use Rattle.pooma_patch.proofs.CopiedCells.{IsCopiedUpTo}
use Rattle.pooma_patch.proofs.patch.Patch.copy_box.Given as goal

abbrev pub invariant-loop-k : goal.invariant-loop-k
invariant-loop-k l = record {
  area : l.self.content.area ≡ l.initial.self.content.area;
  full : IsFull l.self.content;
  writable : l.self.one ≡ false;
  copied : IsCopiedUpTo l.b l.k l.from.content l.initial.self.content l.self.content;
}
