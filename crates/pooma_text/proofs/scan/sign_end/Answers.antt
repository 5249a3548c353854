use Rattle.std.proofs.Common.{◌+◌, ◌≤◌, length, ⊎_elim, arith}
use Rattle.std.proofs.lemmas.Bool.{iff_false}
use Rattle.pooma_text.proofs.Longest.{sign_ends, single_sign}
use Rattle.pooma_text.proofs.scan.sign_end.Goals as goal
use Rattle.pooma_text.proofs.scan.sign_end.Goals.{else-at-line-via-then-at-line+else-is_double_sign, else-at-line-via-else-at-line}

pub returns-then-is_double_sign-clause-longest : goal.returns-then-is_double_sign-clause-longest
returns-then-is_double_sign-clause-longest c = λ end within sign.
    ⊎_elim (λ two. omega (arith, two.0)) (λ one. omega (arith, one.0)) (sign_ends c.args.line.now c.args.at end within sign)

pub returns-then-is_single_sign-clause-fits : goal.returns-then-is_single_sign-clause-fits
returns-then-is_single_sign-clause-fits c =
    let within : c.args.at + 1 ≤ length c.args.line.now = omega arith in
    (within, single_sign c.args.line.now c.args.at within (c.is_single_sign.ensures.0 c.if-is_single_sign.true))

pub returns-then-is_single_sign-clause-longest : goal.returns-then-is_single_sign-clause-longest
returns-then-is_single_sign-clause-longest c = λ end within sign.
    ⊎_elim
    (λ two.
    elim c.else-at-line.branch [
      | else-at-line-via-then-at-line+else-is_double_sign w ↦ absurd (iff_false w.is_double_sign.ensures w.if-is_double_sign.false two.1)
      | else-at-line-via-else-at-line w ↦ omega (arith, two.0)
    ])
    (λ one. omega (arith, one.0))
    (sign_ends c.args.line.now c.args.at end within sign)

pub returns-else-is_single_sign-clause-longest : goal.returns-else-is_single_sign-clause-longest
returns-else-is_single_sign-clause-longest c = λ end within sign.
    ⊎_elim
    (λ two.
    elim c.else-at-line.branch [
      | else-at-line-via-then-at-line+else-is_double_sign w ↦ iff_false w.is_double_sign.ensures w.if-is_double_sign.false two.1
      | else-at-line-via-else-at-line w ↦ omega (arith, two.0)
    ])
    (λ one. iff_false c.is_single_sign.ensures c.if-is_single_sign.false one.1)
    (sign_ends c.args.line.now c.args.at end within sign)
