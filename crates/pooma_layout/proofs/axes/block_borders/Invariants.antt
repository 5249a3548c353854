use Rattle.std.proofs.Common.{◌≡◌, ◌+◌, length}
use Rattle.pooma_layout.specs.Blocks.{AreBlockStarts}
use Rattle.pooma_layout.proofs.axes.block_borders.Given as goal

abbrev pub invariant-loop-k : goal.invariant-loop-k
invariant-loop-k l = (length l.borders.items + 1 ≡ l.k) × AreBlockStarts l.first l.cells l.parts l.borders.items
