use Rattle.std.proofs.Common.{◌≡◌, length, take}
use Rattle.std.specs.Prelude.{map}
use Rattle.pooma_script.specs.Operators.{updater_of}
use Rattle.pooma_script.proofs.made.faces_of.Given as goal

-- the updaters so far
abbrev pub invariant-loop-n : goal.invariant-loop-n
invariant-loop-n l = (length l.updaters ≡ 6) × (take l.n l.updaters ≡ map updater_of (take l.n l.list))
