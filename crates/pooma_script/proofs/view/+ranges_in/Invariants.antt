use Rattle.std.proofs.Common.{length}
use Rattle.pooma_script.proofs.view.+ranges_in.Given as goal

-- what is left of the list
abbrev pub decreases-ranges_in : goal.decreases-ranges_in
decreases-ranges_in l = length l.subs.now
