use Rattle.std.proofs.Common.{arith, refl}
use Rattle.pooma_top.proofs.Written.{written_more}
use Rattle.pooma_top.proofs.program.write_all.Goals as goal

pub loop-rest-preserved : goal.loop-rest-preserved
loop-rest-preserved g c =
    let kept = c.loop-rest.invariant.front in
    record {
      front = written_more _ kept.0 _ _ c.in_ok-written.written _ _ _ kept.1 kept.2 c.in_ok-written.ensures.bytes c.in_ok-written.ensures.within refl;
      later = omega (arith, c.loop-rest.invariant.later, c.in_ok-written.ensures.cause.later);
    }
