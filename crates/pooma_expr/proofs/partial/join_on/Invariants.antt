use Rattle.std.proofs.Common.{◌≡◌, take}
use Rattle.std.specs.Prelude.{fold}
use Rattle.pooma_expr.specs.Reductions.{join_of}
use Rattle.pooma_expr.proofs.partial.join_on.Given as goal

abbrev pub invariant-loop-v : goal.invariant-loop-v
invariant-loop-v l = l.joined ≡ fold (join_of l.reduction) l.first (take l.v-index l.rest)
