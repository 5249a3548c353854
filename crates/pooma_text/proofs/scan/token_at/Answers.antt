use Rattle.std.proofs.Common.{refl, arith}
use Rattle.pooma_text.proofs.Longest.{begins_none, longest_number, longest_sign, longest_word}
use Rattle.pooma_text.proofs.scan.token_at.Goals as goal

pub returns-in_err-sign_end-clause-none : goal.returns-in_err-sign_end-clause-none
returns-in_err-sign_end-clause-none c = λ none.
    begins_none c.args.line.now c.args.at
    (λ letter. omega (arith, c.if-is_ascii_alphabetic.ensures.cases))
    (λ digit. omega (arith, c.if-is_ascii_digit.ensures.cases))
    c.in_err-sign_end.ensures.longest

pub returns-then-is_ascii_alphabetic-clause-longest : goal.returns-then-is_ascii_alphabetic-clause-longest
returns-then-is_ascii_alphabetic-clause-longest c =
    let w = c.word_end.ensures in
    (refl, longest_word c.args.line.now c.args.at c.word_end.result w.forward.0 w.forward.1 c.if-is_ascii_alphabetic.ensures.cases w.each w.stops)

pub returns-then-is_ascii_digit-clause-longest : goal.returns-then-is_ascii_digit-clause-longest
returns-then-is_ascii_digit-clause-longest c =
    let w = c.number_end.ensures in
    (refl, longest_number c.args.line.now c.args.at c.number_end.result w.forward.0 w.forward.1 c.if-is_ascii_digit.ensures.cases w.each w.stops)

pub returns-in_ok-sign_end-clause-longest : goal.returns-in_ok-sign_end-clause-longest
returns-in_ok-sign_end-clause-longest c =
    let w = c.in_ok-sign_end.ensures in
    (refl, longest_sign c.args.line.now c.args.at c.in_ok-sign_end.field-0 w.fits.0 w.fits.1 w.longest)
