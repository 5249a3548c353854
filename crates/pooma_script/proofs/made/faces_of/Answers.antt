use Rattle.std.proofs.Common.{◌+◌, inl, inr, arith}
use Rattle.std.proofs.Math.ListN.{length-set}
use Rattle.pooma_script.specs.Operators.{updater_of}
use Rattle.pooma_script.proofs.Inside.{more_made}
use Rattle.pooma_script.proofs.made.faces_of.Goals as goal

pub loop-n-preserved : goal.loop-n-preserved
loop-n-preserved c = (
  rw length-set c.loop-n.invariant.0,
  more_made updater_of c.loop-n.updaters c.args.list.now c.loop-n.n (c.loop-n.n + 1) c.updater_of.result _ (omega arith)
      (elim c.requires [
        | inl h ↦ omega (arith, h, c.loop-n.invariant.0)
        | inr h ↦ elim h [ inl k ↦ omega (arith, k, c.loop-n.invariant.0) | inr k ↦ omega (arith, k, c.loop-n.invariant.0) ]
      ]) (omega arith) c.loop-n.invariant.1 c.updater_of.ensures,
)
