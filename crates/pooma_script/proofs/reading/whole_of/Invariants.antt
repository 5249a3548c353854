use Rattle.std.proofs.Common.{◌≡◌, length, pos, take}
use Rattle.std.specs.Prelude.{map}
use Rattle.pooma_parse.specs.declared.form.RawSub.TheVariants.{Range}
use Rattle.pooma_script.proofs.reading.whole_of.Given as goal

-- the ranges so far
abbrev pub invariant-loop-n : goal.invariant-loop-n
invariant-loop-n l = (length l.subs ≡ 3) × (take l.n l.subs ≡ map (λ axis. Range axis.first axis.last (pos 1)) (take l.n l.physical))
