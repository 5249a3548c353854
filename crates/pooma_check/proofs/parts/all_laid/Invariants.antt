use Rattle.std.proofs.Common.{◌≡◌, take}
use Rattle.std.specs.Prelude.{map}
use Rattle.pooma_part.specs.Cuts.{laid_in}
use Rattle.pooma_script.specs.Known.{declared_in}
use Rattle.pooma_check.specs.Kept.{known_of}
use Rattle.pooma_check.proofs.parts.all_laid.Given as goal

abbrev pub invariant-loop-view : goal.invariant-loop-view
invariant-loop-view l = l.seen.items ≡ map (laid_in (declared_in (known_of l.known))) (take l.view-index l.views)
