use Rattle.std.proofs.Common.{length}
use Rattle.pooma_script.proofs.made.+no_layers.Given as goal

-- the axes that are left
abbrev pub decreases-no_layers : goal.decreases-no_layers
decreases-no_layers l = length l.domain.now
