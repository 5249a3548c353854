use Rattle.std.proofs.Common.{◌≡◌, ◌+ℤ◌, ◌≤◌, ◌^◌, drop, ap, ◌∙◌, arith}
use Rattle.std.proofs.lemmas.List.{take_rest}
use Rattle.std.specs.Prelude.{unsigned_abs}
use Rattle.pooma_lanes.specs.Totals.{sum_of}
use Rattle.pooma_lanes.proofs.RowTotals.{wide_sum, front_and_rest}
use Rattle.pooma_lanes.proofs.totals.sum_row.Goals as goal

pub returns-clause-exact : goal.returns-clause-exact
returns-clause-exact c =
    let numbers = c.args.numbers.now in
    let front = c.sum_of_blocks-total.result.0 in
    let at = c.sum_of_blocks-total.result.1 in
    let rest = c.sum_one_by_one.result in
    let small : unsigned_abs front ≤ 2 ^ 100 = omega (arith, c.requires, c.sum_of_blocks-total.ensures.within, c.sum_of_blocks-total.ensures.bound) in
    let few : unsigned_abs rest ≤ 2 ^ 100 = omega (arith, c.requires, c.sum_one_by_one.ensures.bound) in
    let is : rest ≡ sum_of (drop at numbers) = c.sum_one_by_one.ensures.exact ∙ ap sum_of (take_rest numbers at) in
    wide_sum front rest small few ∙ (λ i. c.sum_of_blocks-total.ensures.exact i +ℤ is i) ∙ front_and_rest numbers at
