use Rattle.std.proofs.Common.{map}
use Rattle.pooma_layout.proofs.Making.{CutsTo}
use Rattle.pooma_layout.proofs.layouts.Layout.cuts.Given as goal

abbrev pub invariant-loop-n : goal.invariant-loop-n
invariant-loop-n l = CutsTo l.domain (map (λ list. list.items) l.cuts) l.internal l.external l.n l.axes.items
