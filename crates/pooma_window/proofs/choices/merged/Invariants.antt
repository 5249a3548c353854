use Rattle.std.proofs.Common.{◌+◌, length}
use Rattle.pooma_window.proofs.Uniting.{IsUnitedTo}
use Rattle.pooma_window.proofs.choices.merged.Given as goal

abbrev pub invariant-entries : goal.invariant-entries
invariant-entries l = IsUnitedTo l.fn.one l.fn.other l.left l.right l.all.items

abbrev pub decreases-entries : goal.decreases-entries
decreases-entries l = length l.left + length l.right
