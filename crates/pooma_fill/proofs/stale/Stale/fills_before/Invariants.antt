use Rattle.std.proofs.Common.{◌≡◌, take}
use Rattle.pooma_fill.specs.Marks.{fills_from}
use Rattle.pooma_fill.proofs.stale.Stale.fills_before.Given as goal

abbrev pub invariant-loop-k : goal.invariant-loop-k
invariant-loop-k l = l.fills.items ≡ fills_from l.store.layouts l.fn.number l.action 0 (take l.k l.self.shapes) (take l.k l.self.marks)
