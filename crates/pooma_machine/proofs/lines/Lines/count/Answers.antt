use Rattle.std.proofs.Common.{arith}
use Rattle.pooma_machine.proofs.Counting.{request_below, sum_fits}
use Rattle.pooma_machine.proofs.lines.Lines.count.Goals as goal

pub overflow_add-total : goal.overflow_add-total
overflow_add-total c =
    let below = request_below c.args.requests.now c.requires.form c.loop-request.request-index _ c.loop-request-test.true in
    let fits = sum_fits c.loop-request.request-index _ c.args.entry c.loop-request.total c.earlier-total.result below c.earlier-total.ensures.object (omega (arith, c.ranges.entry.fits)) c.loop-request.invariant.1 c.earlier-total.ensures.few in
    omega (arith, fits)
