use Rattle.std.proofs.Common.{◌≢◌, ◌≤ℤ◌, neg_ℤ, length, arith}
use Rattle.std.proofs.lemmas.Int.{ints}
use Rattle.pooma_stencil.proofs.Firsts.{first_and_later, shorter, tells_none, tells_no, no_offset, reach_first, down_of, up_of}
use Rattle.pooma_stencil.proofs.extents.+reach.Goals as goal

pub returns-then-dims-eq0-2 : goal.returns-then-dims-eq0-2
returns-then-dims-eq0-2 t c =
    tells_none c.args.lower.now c.args.upper.now c.args.offset.now _ (omega (arith, c.dims-2.ensures.value, c.if-dims-eq0-2.true)) c.dims-then-dims-eq0-2.ensures.value

pub returns-then-dims-eq0-3 : goal.returns-then-dims-eq0-3
returns-then-dims-eq0-3 t c =
    let some : length c.args.lower.now ≢ 0 = omega (arith, c.dims.ensures.value, c.if-dims-eq0.false) in
    let some_up : length c.args.upper.now ≢ 0 = omega (arith, c.dims-2.ensures.value, c.if-dims-eq0-2.false) in
    tells_no (no_offset _ _ _ some some_up (omega (arith, c.dims-3.ensures.value, c.if-dims-eq0-3.true)))

pub returns-then-first-from : goal.returns-then-first-from
returns-then-first-from t c =
    tells_no (λ h.
    let down = down_of _ _ _ _ _ c.at-2.ensures c.at.ensures h in
    absurd (omega (arith, ints, down, c.if-first-from.true, c.from-first.ensures, c.from.ensures)))

pub returns-then-first-from-2 : goal.returns-then-first-from-2
returns-then-first-from-2 t c =
    tells_no (λ h.
    let up = up_of _ _ _ _ _ c.at-3.ensures c.at.ensures h in
    absurd (omega (arith, ints, up, c.if-first-from-2.true, c.from-first.ensures, c.from-2.ensures)))

pub reach-requires : goal.reach-requires
reach-requires t c =
    (omega (arith, c.decreases, shorter _ _ _ (first_and_later _ _ _ c.at-2.ensures c.rest.ensures)), tt)

pub returns : goal.returns
returns t c =
    let first = reach_first _ _ _ _ _ _ _ _ _ (first_and_later _ _ _ c.at-2.ensures c.rest.ensures) (first_and_later _ _ _ c.at-3.ensures c.rest-2.ensures) (first_and_later _ _ _ c.at.ensures c.rest-3.ensures) in
    let down : neg_ℤ c.at-2.result ≤ℤ c.at.result = omega (arith, ints, c.if-first-from.false, c.from-first.ensures, c.from.ensures) in
    let up : c.at.result ≤ℤ c.at-3.result = omega (arith, ints, c.if-first-from-2.false, c.from-first.ensures, c.from-2.ensures) in
    (λ t'. first.1 (down, up, c.reach.ensures.0 t'), λ h. c.reach.ensures.1 (first.0 h).2)
