use Rattle.std.proofs.Common.{◌≡◌, take}
use Rattle.pooma_layout.proofs.layouts.Layout.copied.Given as goal

abbrev pub invariant-loop-axis : goal.invariant-loop-axis
invariant-loop-axis l = l.axes.items ≡ take l.axis-index l.axis-items
