use Rattle.pooma_compress.proofs.EqualNumbers.{all_are_copies}
use Rattle.pooma_compress.proofs.cells.common_value.Goals as goal

pub returns-in-None-clause-found : goal.returns-in-None-clause-found
returns-in-None-clause-found c = all_are_copies c.args.values.now _ c.in-None.ensures.none
