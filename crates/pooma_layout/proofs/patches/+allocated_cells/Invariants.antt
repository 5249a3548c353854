use Rattle.std.proofs.Common.{length}
use Rattle.pooma_layout.proofs.patches.+allocated_cells.Given as goal

abbrev pub decreases-allocated_cells : goal.decreases-allocated_cells
decreases-allocated_cells l = length l.axes.now
