use Rattle.std.proofs.Common.{length}
use Rattle.pooma_script.proofs.view.+all_take_some.Given as goal

-- what is left of the list
abbrev pub decreases-all_take_some : goal.decreases-all_take_some
decreases-all_take_some l = length l.subs.now
