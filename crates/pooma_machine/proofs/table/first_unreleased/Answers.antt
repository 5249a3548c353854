use Rattle.std.proofs.Common.{◌∙◌, sym, arith}
use Rattle.pooma_machine.proofs.Firsts.{open_within, open_further, open_found}
use Rattle.pooma_machine.proofs.table.first_unreleased.Goals as goal

pub loop-first-preserved : goal.loop-first-preserved
loop-first-preserved c = open_further c.args.statuses.now c.loop-first.first _ c.loop-first.invariant c.loop-first-test.true (sym c.is_released.ensures ∙ c.if-is_released.true)

pub returns-else-is_released : goal.returns-else-is_released
returns-else-is_released c = open_found c.args.statuses.now c.loop-first.first _ c.loop-first.invariant (sym c.is_released.ensures ∙ c.if-is_released.false)

pub returns-after-loop-first : goal.returns-after-loop-first
returns-after-loop-first c =
    let low = c.loop-first.invariant in
    let past = c.loop-first-test.false in
    omega (arith, open_within c.args.statuses.now, low, past)
