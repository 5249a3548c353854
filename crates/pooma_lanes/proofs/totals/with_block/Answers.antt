use Rattle.std.proofs.Common.{◌≡◌, ◌≤◌, ◌^◌, ◌+ℤ◌, arith, ap, ◌∙◌}
use Rattle.std.specs.Prelude.{unsigned_abs}
use Rattle.pooma_lanes.proofs.RowTotals.{wide_sum, lanes_more}
use Rattle.pooma_lanes.specs.Totals.{sum_of}
use Rattle.pooma_lanes.proofs.Bits.{back_is, back-block}
use Rattle.pooma_lanes.proofs.totals.with_block.Goals as goal

pub block-holds-requires-clause-left : goal.block-holds-requires-clause-left
block-holds-requires-clause-left c = back-block c.args.sums c.requires.sums

pub block-holds-requires-clause-right : goal.block-holds-requires-clause-right
block-holds-requires-clause-right c = back-block c.args.block c.requires.block

pub returns-then-holds-clause-exact : goal.returns-then-holds-clause-exact
returns-then-holds-clause-exact c =
    lanes_more c.args.total c.args.sums c.args.block c.block-holds.result.0 c.requires.sums c.requires.block c.block-holds.ensures.block c.ranges.total
    (λ k lt. (c.block-holds.ensures.exact c.if-holds.true k lt).1)

pub returns-then-holds-clause-block : goal.returns-then-holds-clause-block
returns-then-holds-clause-block c = back-block _ c.block-holds.ensures.block

pub sum_of_lanes-requires : goal.sum_of_lanes-requires
sum_of_lanes-requires c = back-block c.args.sums c.requires.sums

pub returns-clause-exact : goal.returns-clause-exact
returns-clause-exact c =
    let lanes : c.sum_of_lanes.result ≡ sum_of c.args.sums = c.sum_of_lanes.ensures.exact ∙ ap sum_of (back_is c.args.sums c.requires.sums.fit) in
    let few : unsigned_abs c.sum_of_lanes.result ≤ 2 ^ 100 = omega (arith, c.sum_of_lanes.ensures.bound) in
    (λ i. wide_sum c.args.total c.sum_of_lanes.result c.requires.room few i +ℤ sum_of (back_is c.args.block c.requires.block.fit i))
    ∙ (λ i. (c.args.total +ℤ lanes i) +ℤ sum_of c.args.block)

pub returns-clause-block : goal.returns-clause-block
returns-clause-block c = back-block c.args.block c.requires.block
