use Rattle.pooma_parse.proofs.SomeReading.{line_is}
use Rattle.pooma_parse.proofs.law.some_reading.Goals as goal

pub returns : goal.returns
returns c = line_is c.one_reading.ensures.some c.one_reading.ensures.tokens c.one_reading.ensures.never_both
