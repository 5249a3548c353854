use Rattle.std.proofs.Common.{arith}
use Rattle.pooma_top.specs.Output.{shown}
use Rattle.pooma_top.proofs.OneOutput.{done_by}
use Rattle.pooma_top.proofs.Promises.{given_for, output_asked, runs_nothing}
use Rattle.pooma_top.proofs.program.top_one.Goals as goal

pub returns-in-Ok-clause-cut_short : goal.returns-in-Ok-clause-cut_short
returns-in-Ok-clause-cut_short g c short input from = (
  shown c.in-Ok.answer,
  output_asked 1 _ c.in-Some.task _ _ c.in-Some.ensures.found c.in-Ok.ensures.answer input from,
  c.deliver.ensures.cut_short short,
)

pub returns-in-Ok-clause-asked : goal.returns-in-Ok-clause-asked
returns-in-Ok-clause-asked g c input bytes program from done script ends =
    let asks = c.in-Some.ensures.found in
    c.in-Ok.ensures.asked
    input
    bytes
    1
    program
    (given_for _ c.in-Some.task _ input asks.1 from)
    (done_by 1 (omega arith) _ c.in-Some.task input _ bytes asks done)
    script

pub returns-in-Ok-clause-unasked : goal.returns-in-Ok-clause-unasked
returns-in-Ok-clause-unasked g c no_run = c.answer_one.ensures.unasked (runs_nothing _ c.in-Some.task c.in-Some.ensures.found.1 no_run)

pub returns-in-Err-clause-unasked : goal.returns-in-Err-clause-unasked
returns-in-Err-clause-unasked g c no_run = c.answer_one.ensures.unasked (runs_nothing _ c.in-Some.task c.in-Some.ensures.found.1 no_run)
