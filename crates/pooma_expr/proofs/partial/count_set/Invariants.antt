use Rattle.std.proofs.Common.{◌≡◌, ◌≤◌, take}
use Rattle.std.specs.Prelude.{count_by}
use Rattle.pooma_expr.specs.Reductions.{AllFit, is_set}
use Rattle.pooma_expr.proofs.partial.count_set.Given as goal

abbrev pub invariant-loop-v : goal.invariant-loop-v
invariant-loop-v l = record {
  set : l.set ≡ count_by is_set (take l.v-index l.values);
  most : l.set ≤ l.v-index;
  fit : AllFit (take l.v-index l.values);
}
