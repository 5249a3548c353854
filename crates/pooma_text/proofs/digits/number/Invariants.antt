use Rattle.std.proofs.Common.{◌≡◌, drop}
use Rattle.pooma_text.specs.Number.{value_of}
use Rattle.pooma_text.proofs.Values.{continued}
use Rattle.pooma_text.proofs.digits.number.Given as goal

abbrev pub invariant-loop-digit : goal.invariant-loop-digit
invariant-loop-digit l = continued l.value (drop l.digit-index l.digits) ≡ value_of l.digits
