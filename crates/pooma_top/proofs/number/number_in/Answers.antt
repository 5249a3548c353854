use Rattle.std.proofs.Common.{◌≡◌, ◌∙◌, ap, decimal, arith}
use Rattle.std.proofs.lemmas.Bool.{false≢true}
use Rattle.pooma_top.proofs.Numerals.{not_read, read_alone}
use Rattle.pooma_top.proofs.number.number_in.Goals as goal

pub returns-in_default-clause-none : goal.returns-in_default-clause-none
returns-in_default-clause-none c n low high is = not_read c.args.word.now c.parse.result c.in_default.field-0 c.args.most n c.in_default.is c.parse.ensures.value.0 c.ranges.most.fits high is

pub returns-then-number-least-clause-none : goal.returns-then-number-least-clause-none
returns-then-number-least-clause-none c n low high is =
    let same : n ≡ c.in-Ok.number = read_alone c.args.word.now c.parse.result c.in-Ok.number c.args.most n c.in-Ok.is c.parse.ensures.value.0 c.ranges.most.fits high is in
    omega (arith, same, low, c.if-number-least.true)

pub returns-then-number-most-clause-none : goal.returns-then-number-most-clause-none
returns-then-number-most-clause-none c n low high is =
    let same : n ≡ c.in-Ok.number = read_alone c.args.word.now c.parse.result c.in-Ok.number c.args.most n c.in-Ok.is c.parse.ensures.value.0 c.ranges.most.fits high is in
    omega (arith, same, high, c.if-number-most.true)

pub returns-then-not-is_written-clause-none : goal.returns-then-not-is_written-clause-none
returns-then-not-is_written-clause-none c n low high is =
    let same : n ≡ c.in-Ok.number = read_alone c.args.word.now c.parse.result c.in-Ok.number c.args.most n c.in-Ok.is c.parse.ensures.value.0 c.ranges.most.fits high is in
    false≢true (c.if-not-is_written.ensures.1 (is ∙ ap decimal same))
