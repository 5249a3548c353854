use Rattle.pooma_machine.specs.Values.{asks_of}
use Rattle.pooma_desk.specs.Tokens.{plan_of, history_of}
use Rattle.pooma_worker.proofs.Doing.{works_then, works_looked, ready_is_there}
use Rattle.pooma_worker.proofs.worker.work_loop.Goals as goal

pub follow-worked-requires-clause-issued : goal.follow-worked-requires-clause-issued
follow-worked-requires-clause-issued g c =
    let looked = c.look-looked.result.0 in
    let law = c.legal_histories_tell.ensures in
    let legal = c.look-looked.ensures.legal in
    let least = rw c.in-Some-ready.is at c.look-looked.ensures.ready in
    ready_is_there (asks_of g.W.Work.meaning (plan_of looked)) (history_of looked) c.in-Some-ready.entry _ _ least.ready (law.issued (plan_of looked) (history_of looked) legal c.in-Some-ready.entry).0 (law.within (plan_of looked) (history_of looked) legal)

pub returns-then-worked-clause-works : goal.returns-then-worked-clause-works
returns-then-worked-clause-works g c =
    let looked = works_looked c.args.pass c.loop.pass c.look-looked.result.0 c.loop.invariant.2 c.look-looked.ensures.looks in
    works_then c.args.pass c.look-looked.result.0 c.follow-worked.result.pass looked c.follow-worked.ensures.works.works

pub loop-preserved : goal.loop-preserved
loop-preserved g c =
    let looked = works_looked c.args.pass c.loop.pass c.look-looked.result.0 c.loop.invariant.2 c.look-looked.ensures.looks in
    (tt, tt, works_then c.args.pass c.look-looked.result.0 c.follow-worked.result.pass looked c.follow-worked.ensures.works.works)

pub loop-preserved-in_default : goal.loop-preserved-in_default
loop-preserved-in_default g c = (tt, tt, works_looked c.args.pass c.loop.pass c.look-looked.result.0 c.loop.invariant.2 c.look-looked.ensures.looks)
