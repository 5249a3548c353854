use Rattle.pooma_top.specs.Output.{shown}
use Rattle.pooma_top.proofs.Promises.{output_asked}
use Rattle.pooma_top.proofs.program.top.Goals as goal

pub returns-in-Ok-clause-cut_short : goal.returns-in-Ok-clause-cut_short
returns-in-Ok-clause-cut_short g c short input from = (
  shown c.in-Ok.answer,
  output_asked 64 _ c.in-Some.task _ _ c.in-Some.ensures.found c.in-Ok.ensures.answer input from,
  c.deliver.ensures.cut_short short,
)
