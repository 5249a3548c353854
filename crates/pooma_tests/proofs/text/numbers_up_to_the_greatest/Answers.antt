use Rattle.std.proofs.Common.{lit≤}
use Rattle.std.specs.Char.{IsAsciiDigit}
use Rattle.std.proofs.lemmas.List.Elements.{All-replicate}
use Rattle.pooma_tests.proofs.text.numbers_up_to_the_greatest.Goals as goal

pub number-requires-6-clause-digits : goal.number-requires-6-clause-digits
number-requires-6-clause-digits g c = All-replicate IsAsciiDigit 200 57 (lit≤ tt, lit≤ tt)

pub number-requires-7-clause-digits : goal.number-requires-7-clause-digits
number-requires-7-clause-digits g c = All-replicate IsAsciiDigit 200 48 (lit≤ tt, lit≤ tt)
