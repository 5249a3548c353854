use Rattle.pooma_script.proofs.Ranges.{numbers_of_range}
use Rattle.pooma_script.proofs.Taken.{number_taken}
use Rattle.pooma_script.proofs.law.numbers_of_ranges.Goals as goal

pub returns : goal.returns
returns c = record { counted = numbers_of_range; named = number_taken }
