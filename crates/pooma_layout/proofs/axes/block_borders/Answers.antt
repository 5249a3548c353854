use Rattle.std.proofs.Common.{arith, ◌≤◌}
use Rattle.std.proofs.lemmas.Int.{ints}
use Rattle.pooma_layout.specs.Blocks.{block_start}
use Rattle.pooma_layout.proofs.Blocking.{starts_more, start_within}
use Rattle.pooma_layout.proofs.axes.block_borders.Goals as goal

pub loop-k-preserved : goal.loop-k-preserved
loop-k-preserved c =
    let within : block_start c.args.cells c.args.parts c.loop-k.k ≤ c.args.cells = start_within c.args.cells c.args.parts c.loop-k.k c.requires.some (omega arith) in
    rw (c.in_ok-push.ensures.items) (starts_more _ c.args.cells c.args.parts c.loop-k.k c.loop-k.borders.items _ c.loop-k.invariant.0 c.loop-k.invariant.1
    (omega (arith, ints, within, c.min.ensures, c.requires.near)))
