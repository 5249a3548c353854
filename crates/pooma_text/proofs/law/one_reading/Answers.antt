use Rattle.pooma_text.proofs.Existence.{some_reading}
use Rattle.pooma_text.proofs.Readings.{no_list-stray, one_list, one_stray}
use Rattle.pooma_text.proofs.law.one_reading.Goals as goal

pub returns : goal.returns
returns c = record { some = some_reading; tokens = one_list; stray = one_stray; never_both = no_list-stray }
