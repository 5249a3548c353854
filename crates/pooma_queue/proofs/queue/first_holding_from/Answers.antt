use Rattle.std.proofs.Common.{◌∙◌, sym}
use Rattle.pooma_queue.specs.Requests.{holds_back}
use Rattle.pooma_queue.proofs.Holding.{first_further, first_here, first_past}
use Rattle.pooma_queue.proofs.queue.first_holding_from.Goals as goal

pub loop-place-preserved : goal.loop-place-preserved
loop-place-preserved c = first_further (holds_back c.args.mode) c.args.requests.now c.loop-place.place _ c.loop-place.invariant c.loop-place-test.true (sym c.holds_back.ensures ∙ c.if-not-holds_back.true)

pub returns-else-not-holds_back : goal.returns-else-not-holds_back
returns-else-not-holds_back c = first_here (holds_back c.args.mode) c.args.requests.now c.loop-place.place _ c.loop-place.invariant (sym c.holds_back.ensures ∙ c.if-not-holds_back.false)

pub returns-after-loop-place : goal.returns-after-loop-place
returns-after-loop-place c = first_past (holds_back c.args.mode) c.args.requests.now c.loop-place.place c.loop-place.invariant c.loop-place-test.false
