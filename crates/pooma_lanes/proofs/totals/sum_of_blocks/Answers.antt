use Rattle.std.proofs.Common.{◌≡◌, ◌+ℤ◌, ◌≤◌, ◌+◌, ap, ◌∙◌, length, sym, subst, map, arith, to_z, to_z-of_z, w64, FitsSigned, rules}
use Rattle.std.specs.Int.{w128}
use Rattle.pooma_lanes.specs.Totals.{sum_of}
use Rattle.pooma_lanes.proofs.Bits.{back, back_is, back-block}
use Rattle.pooma_lanes.proofs.RowTotals.{IsSummed, step}
use Rattle.pooma_lanes.proofs.totals.sum_of_blocks.Goals as goal

pub with_block-requires-clause-block : goal.with_block-requires-clause-block
with_block-requires-clause-block c = back-block c.load.result c.load.ensures.block

pub loop-at-preserved : goal.loop-at-preserved
loop-at-preserved c =
    let numbers = c.args.numbers.now in
    let total = to_z w128 c.loop-at.total-bits in
    let sums = map (to_z w64) c.loop-at.sums in
    let total' = c.with_block.result.0 in
    let sums' = c.with_block.result.1 in
    let block = c.load.result in
    let room : c.loop-at.at + 8 ≤ length numbers = omega (arith, c.loop-at-test.true, c.loop-at.invariant.within) in
    let exact : total' +ℤ sum_of sums' ≡ (total +ℤ sum_of sums) +ℤ sum_of block = c.with_block.ensures.exact ∙ ap (λ l. (total +ℤ sum_of sums) +ℤ sum_of l) (back_is block c.load.ensures.block.fit) in
    let next = step numbers c.loop-at.at total total' sums block sums' c.loop-at.invariant room c.load.ensures c.with_block.ensures.block exact c.with_block.ensures.bound in
    let fits : FitsSigned w128 total' = search rules in
    subst (λ z. IsSummed numbers (c.loop-at.at + 8) z (back sums')) (sym (to_z-of_z fits))
    (subst (IsSummed numbers (c.loop-at.at + 8) total') (sym (back_is sums' c.with_block.ensures.block.fit)) next)
