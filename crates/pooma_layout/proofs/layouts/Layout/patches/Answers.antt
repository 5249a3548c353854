use Rattle.std.proofs.Common.{arith}
use Rattle.pooma_layout.proofs.Stepping.{some_patch}
use Rattle.pooma_layout.proofs.layouts.Layout.patches.Goals as goal

pub returns-clause-some : goal.returns-clause-some
returns-clause-some c = omega (arith, c.count.ensures, some_patch c.deref.result.now)
