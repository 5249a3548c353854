use Rattle.std.proofs.Common.{◌-◌, pos, arith}
use Rattle.std.proofs.lemmas.Int.{ints}
use Rattle.pooma_script.proofs.Heads.{ascends_more, not_true}
use Rattle.pooma_script.proofs.layout.is_ascending.Goals as goal

pub returns-then-cuts-k : goal.returns-then-cuts-k
returns-then-cuts-k c = (
  λ f. absurd (not_true f),
  λ h. absurd (omega (arith, ints, h (c.loop-k.k - 1) c.loop-k.k (pos 0) (omega arith) (omega arith))),
)

pub loop-k-preserved : goal.loop-k-preserved
loop-k-preserved c = ascends_more c.args.cuts.now c.loop-k.k (omega arith) (omega arith) c.loop-k.invariant (omega (arith, ints))
