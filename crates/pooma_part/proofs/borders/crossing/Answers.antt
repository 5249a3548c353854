use Rattle.std.proofs.Common.{arith, rules}
use Rattle.std.proofs.lemmas.Int.{ints}
use Rattle.std.specs.Int.{w32, w64}
use Rattle.std.specs.Prelude.{FitsSigned, ◌≢◌, pos}
use Rattle.pooma_part.proofs.Changing.{crossing_up, crossing_down}
use Rattle.pooma_part.proofs.Stepping.{goes_down, next_is}
use Rattle.pooma_part.proofs.borders.crossing.Goals as goal

pub whole_steps-requires-clause-near : goal.whole_steps-requires-clause-near
whole_steps-requires-clause-near c =
    let first : FitsSigned w32 c.args.numbers.now.first = search rules in
    let border : FitsSigned w32 c.args.border = c.ranges.border in
    (omega (arith, ints, c.from.ensures, c.from-2.ensures), omega (arith, ints, c.from.ensures, c.from-2.ensures))

pub overflow_add-result : goal.overflow_add-result
overflow_add-result c = omega (arith, ints, c.whole_steps.ensures.near)

pub whole_steps-requires-else-stride-gt0-clause-near : goal.whole_steps-requires-else-stride-gt0-clause-near
whole_steps-requires-else-stride-gt0-clause-near c =
    let first : FitsSigned w32 c.args.numbers.now.first = search rules in
    let border : FitsSigned w32 c.args.border = c.ranges.border in
    (omega (arith, ints, c.from.ensures, c.from-2.ensures), omega (arith, ints, c.from.ensures, c.from-2.ensures))

pub overflow_add-result-else-stride-gt0 : goal.overflow_add-result-else-stride-gt0
overflow_add-result-else-stride-gt0 c = omega (arith, ints, c.whole_steps-else-stride-gt0.ensures.near)

pub returns-then-stride-gt0 : goal.returns-then-stride-gt0
returns-then-stride-gt0 c =
    let first : FitsSigned w32 c.args.numbers.now.first = search rules in
    let stride : FitsSigned w32 c.args.numbers.now.stride = search rules in
    let border : FitsSigned w32 c.args.border = c.ranges.border in
    crossing_up c.args.numbers.now c.args.border c.whole_steps.result _ _ _ c.whole_steps.ensures.within c.whole_steps.ensures.most
    (omega (arith, ints, c.from-stride.ensures))
    (omega (arith, ints, c.from.ensures, c.from-2.ensures))
    (next_is c.whole_steps.result c.whole_steps.ensures.near)

pub returns-else-stride-gt0 : goal.returns-else-stride-gt0
returns-else-stride-gt0 c =
    let first : FitsSigned w32 c.args.numbers.now.first = search rules in
    let stride : FitsSigned w32 c.args.numbers.now.stride = search rules in
    let border : FitsSigned w32 c.args.border = c.ranges.border in
    let wide : FitsSigned w64 c.from-stride.result = search rules in
    let moves : c.args.numbers.now.stride ≢ pos 0 = c.args.numbers.now.moves in
    crossing_down c.args.numbers.now c.args.border c.whole_steps-else-stride-gt0.result _ _ _ c.whole_steps-else-stride-gt0.ensures.within c.whole_steps-else-stride-gt0.ensures.most
    (goes_down c.from-stride.result c.args.numbers.now.stride wide c.if-stride-gt0.false (omega (arith, ints, c.from-stride.ensures)) moves)
    (omega (arith, ints, c.from-stride.ensures))
    (omega (arith, ints, c.from.ensures, c.from-2.ensures))
    (next_is c.whole_steps-else-stride-gt0.result c.whole_steps-else-stride-gt0.ensures.near)
