use Rattle.pooma_num.specs.declared.fault.FaultKind.{FaultKind}
use Rattle.std.proofs.Common.{ℕ, ℤ, Result, ◌+◌, ◌≤◌, length, subst, sym, arith}
use Rattle.pooma_lanes.specs.Rows.{number_at, IsDoneUpTo}
use Rattle.pooma_lanes.proofs.Bits.{back-block, at_places, back}
use Rattle.pooma_lanes.proofs.Places.{block_more}
use Rattle.pooma_lanes.proofs.kernel.blocks.Goals as goal

pub block-holds-requires-clause-left : goal.block-holds-requires-clause-left
block-holds-requires-clause-left g c = back-block _ c.block.ensures.block

pub block-holds-requires-clause-right : goal.block-holds-requires-clause-right
block-holds-requires-clause-right g c = back-block _ c.block-in-loop-out.ensures.block

pub store-requires-clause-block : goal.store-requires-clause-block
store-requires-clause-block g c = back-block _ c.block-holds.ensures.block

pub loop-out-preserved : goal.loop-out-preserved
loop-out-preserved g c =
    let rs = c.block-holds.result.0 in
    let A : ℕ → Result ℤ FaultKind → Type 0 = λ k r. g.K.Checked.answers (number_at c.args.a k) (number_at c.args.b k) r in
    let done = at_places g.K.Checked.answers (number_at c.args.a) (number_at c.args.b) c.loop-out.at c.block.result c.block-in-loop-out.result rs
    c.block.ensures c.block-in-loop-out.ensures c.block-holds.ensures.block (c.block-holds.ensures.exact c.if-not-holds.false) in
    let room : c.loop-out.at + 8 ≤ length c.loop-out.out = omega (arith, c.loop-out-test.true, c.loop-out.invariant.0) in
    let more = block_more A c.args.out.now c.loop-out.out (back rs) c.loop-out.at c.loop-out.invariant.1 (back-block rs c.block-holds.ensures.block).count room done in
    (omega (arith, room, c.store.auto.out), subst (λ l. IsDoneUpTo A c.args.out.now l (c.loop-out.at + 8)) (sym c.store.ensures) more)
