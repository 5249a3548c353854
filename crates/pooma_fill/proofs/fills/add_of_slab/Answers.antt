use Rattle.std.proofs.Common.{◌≡◌, ◌∙◌, ap, arith, ◌+◌, ◌++◌, length, ℕ}
use Rattle.std.specs.Prelude.{flat_map}
use Rattle.pooma_store.specs.Numbering.{layout_at, patch_count}
use Rattle.pooma_fill.specs.Boxes.{numbers_below}
use Rattle.pooma_fill.specs.Filling.{fills_of_patch}
use Rattle.pooma_fill.proofs.Listed.{all_more, below_more}
use Rattle.pooma_fill.proofs.fills.add_of_slab.Goals as goal

pub add_of_patch-requires-clause-patch : goal.add_of_patch-requires-clause-patch
add_of_patch-requires-clause-patch c =
    let same : length _ ≡ patch_count (layout_at c.args.store.now.layouts c.args.array) = ap patch_count c.layout.ensures in
    omega (arith, c.loop-target-test.true, c.patches-target-end.ensures.value, same)

pub loop-target-preserved : goal.loop-target-preserved
loop-target-preserved c =
    all_more (fills_of_patch c.args.store.now.layouts c.args.number c.args.shape.now c.args.array c.args.slab.now) (numbers_below c.loop-target.target) (numbers_below (c.loop-target.target + 1)) c.loop-target.target c.args.list.now.items c.loop-target.list.items c.add_of_patch.new.list.items
    (below_more c.loop-target.target) c.loop-target.invariant c.in_ok-add_of_patch.ensures

pub returns : goal.returns
returns c =
    c.loop-target.invariant ∙ ap (λ (n : ℕ). c.args.list.now.items ++ flat_map (fills_of_patch c.args.store.now.layouts c.args.number c.args.shape.now c.args.array c.args.slab.now) (numbers_below n)) (let same = ap patch_count c.layout.ensures in omega (arith, c.loop-target-test.false, c.loop-target.auto.target-end, c.patches-target-end.ensures.value, same))
