use Rattle.pooma_top.proofs.Promises.{on_ok_kept, ready_for}
use Rattle.pooma_top.proofs.program.answer_one.Goals as goal

pub returns-clause-asked : goal.returns-clause-asked
returns-clause-asked g c input bytes workers program given done script =
    on_ok_kept
    _
    _
    _
    _
    c.in_memory.ensures
    (c.finish_one.ensures.asked
    program
    workers
    (ready_for c.one_script.ensures c.args.task input c.in_ok-prepared.prepared bytes workers program (c.in_ok-prepared.ensures.prepared input given) done script))
