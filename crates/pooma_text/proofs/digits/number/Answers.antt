use Rattle.std.proofs.Common.{◌≡◌, ◌+◌, ◌-◌, ◌*◌, get_or, sym, ap, ◌∙◌, arith, drop}
use Rattle.pooma_text.proofs.Values.{continued, continued-drop, continued_ge}
use Rattle.pooma_text.proofs.digits.number.Goals as goal

pub returns-in_err-checked_mul : goal.returns-in_err-checked_mul
returns-in_err-checked_mul c =
    let i = c.loop-digit.digit-index in
    let next = continued-drop c.loop-digit.value c.args.digits.now i c.loop-digit-test.true in
    let least = continued_ge (c.loop-digit.value * 10 + (get_or c.args.digits.now i 0 - 48)) (drop (i + 1) c.args.digits.now) in
    rw c.from_residual.ensures (λ fits. c.in_err-checked_mul.ensures (omega (arith, next, least, c.loop-digit.invariant)))

pub returns-in_err-value : goal.returns-in_err-value
returns-in_err-value c =
    let i = c.loop-digit.digit-index in
    let next = continued-drop c.loop-digit.value c.args.digits.now i c.loop-digit-test.true in
    let least = continued_ge (c.loop-digit.value * 10 + (get_or c.args.digits.now i 0 - 48)) (drop (i + 1) c.args.digits.now) in
    rw c.from_residual-in_err-value.ensures
    (λ fits. c.in_err-value.ensures (omega (arith, next, least, c.loop-digit.invariant, c.in_ok-checked_mul.ensures.1, c.from.ensures)))

pub loop-digit-preserved : goal.loop-digit-preserved
loop-digit-preserved c =
    let i = c.loop-digit.digit-index in
    let next = continued-drop c.loop-digit.value c.args.digits.now i c.loop-digit-test.true in
    let value : c.in_ok-value.value ≡ c.loop-digit.value * 10 + (get_or c.args.digits.now i 0 - 48) = omega (arith, c.in_ok-checked_mul.ensures.1, c.from.ensures, c.in_ok-value.ensures.1) in
    ap (λ v. continued v (drop (i + 1) c.args.digits.now)) value ∙ sym next ∙ c.loop-digit.invariant
