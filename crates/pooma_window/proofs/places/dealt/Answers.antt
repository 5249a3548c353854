use Rattle.std.proofs.Common.{◌<◌, subst, sym, arith}
use Rattle.pooma_window.proofs.Seated.{some_left, next_dealt, all_dealt}
use Rattle.pooma_window.proofs.places.dealt.Goals as goal

pub split-kept-requires-clause-left : goal.split-kept-requires-clause-left
split-kept-requires-clause-left g c = some_left c.args.desk.now c.args.seats c.loop.places.items c.loop.first c.loop.invariant.0 (subst (λ n. n < c.args.seats) (sym c.loop.invariant.1) c.loop-test.true)

pub loop-preserved : goal.loop-preserved
loop-preserved g c =
    next_dealt c.args.desk.now c.args.seats c.loop.counter c.loop.places.items c.push.new.self.items c.with.result c.loop.first c.split-kept.result.0 c.split-kept.result.1
    c.loop.invariant c.loop-test.true c.split-kept.ensures.first c.split-kept.ensures.second c.split-kept.ensures.alone c.in_ok-push.ensures.items c.with.ensures

pub returns-clause-workers : goal.returns-clause-workers
returns-clause-workers g c =
    let dealt = c.loop.invariant.0 in
    let count = c.loop.invariant.1 in
    let end = c.loop-test.false in
    let most = c.loop.auto.counter-end in
    (all_dealt c.args.desk.now c.args.seats c.loop.places.items c.push-2.new.self.items c.with-2.result c.loop.first dealt (omega arith) c.in_ok-push-2.ensures.items c.with-2.ensures).2
