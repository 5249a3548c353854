use Rattle.std.proofs.Common.{arith}
use Rattle.std.proofs.lemmas.Int.{ints}
use Rattle.pooma_fill.proofs.boxes.at_face.Goals as goal

pub returns-then-face-from : goal.returns-then-face-from
returns-then-face-from c x on = (λ h. absurd (omega (arith, ints, h.low, h.high)), λ h. absurd (omega (arith, ints, h.low, c.if-face-from.true)))

pub returns-then-from-face : goal.returns-then-from-face
returns-then-from-face c x on = (λ h. absurd (omega (arith, ints, h.low, h.high)), λ h. absurd (omega (arith, ints, h.high, c.if-from-face.true)))

pub returns : goal.returns
returns c x on = (
  λ h. record { low = omega (arith, ints, c.if-face-from.false); high = omega (arith, ints, c.if-from-face.false) },
  λ h. record { low = omega (arith, ints, on.low); high = omega (arith, ints, on.high) },
)
