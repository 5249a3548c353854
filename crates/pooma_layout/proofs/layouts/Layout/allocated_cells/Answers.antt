use Rattle.std.proofs.Common.{arith, length}
use Rattle.pooma_layout.proofs.Counting.{power_fits}
use Rattle.pooma_layout.proofs.layouts.Layout.allocated_cells.Goals as goal

pub returns-clause-few : goal.returns-clause-few
returns-clause-few c =
    let few = power_fits c.allocated_cells.result (length c.deref.result.now) (rw c.deref.ensures.value c.self.invariant.few_axes) c.allocated_cells.ensures.few in
    omega (arith, few)
