use Rattle.pooma_layout.proofs.Making.{GridTo}
use Rattle.pooma_layout.proofs.layouts.Layout.grid.Given as goal

abbrev pub invariant-loop-n : goal.invariant-loop-n
invariant-loop-n l = GridTo l.domain l.parts l.internal l.external l.n l.axes.items
