use Rattle.std.proofs.Common.{arith, rules, ap, ◌∙◌, ◌≤◌, length}
use Rattle.std.proofs.lemmas.Int.{ints, to_z-of_z}
use Rattle.std.specs.Prelude.{FitsSigned}
use Rattle.std.specs.Int.{w32}
use Rattle.pooma_domain.specs.Axes.{interval_of}
use Rattle.pooma_domain.specs.Cells.{axis_length}
use Rattle.pooma_domain.specs.Operations.{each_of}
use Rattle.pooma_layout.specs.Axes.{IsNear, IsDepth, IsCovering}
use Rattle.pooma_layout.specs.Blocks.{IsPartCount, block_lengths, blocks_of}
use Rattle.pooma_layout.proofs.Counting.{length_of_interval}
use Rattle.pooma_layout.proofs.Making.{all_at, all_zip_at, all_of, length_of_zip, length-each_of, count_fits, count_cast, grid_more, grid_patches, is_layout}
use Rattle.pooma_layout.proofs.layouts.Layout.grid.Goals as goal

pub at-requires : goal.at-requires
at-requires c =
    omega (arith, c.loop-n-test.true, c.dims-n-end.ensures.value, length_of_zip IsPartCount c.args.domain c.args.parts.now c.requires.blocks)

pub overflow_cast-at : goal.overflow_cast-at
overflow_cast-at c =
    let fits : FitsSigned w32 c.at.result = search rules in
    let count : IsPartCount (interval_of c.axis.result) c.at.result =
    all_zip_at IsPartCount c.args.domain c.args.parts.now c.loop-n.n (interval_of c.axis.result) c.at.result c.requires.blocks c.axis.ensures c.at.ensures in
    count_fits c.at.result _ (interval_of c.axis.result) count (omega (arith, ints, length_of_interval (interval_of c.axis.result) c.axis.result.ordered, c.axis.result.low, c.axis.result.high)) (to_z-of_z w32 c.at.result fits)

pub blocks-requires-clause-near : goal.blocks-requires-clause-near
blocks-requires-clause-near c = all_at IsNear c.args.domain c.loop-n.n (interval_of c.axis.result) c.requires.near c.axis.ensures

pub blocks-requires-clause-depths : goal.blocks-requires-clause-depths
blocks-requires-clause-depths c =
    let inner : FitsSigned w32 c.at-in-loop-n.result = search rules in
    let outer : FitsSigned w32 c.at-in-loop-n-2.result = search rules in
    rw (to_z-of_z w32 c.at-in-loop-n.result inner, to_z-of_z w32 c.at-in-loop-n-2.result outer) (
      all_at IsDepth c.args.internal.now c.loop-n.n c.at-in-loop-n.result c.requires.depths.0 c.at-in-loop-n.ensures,
      all_at IsDepth c.args.external.now c.loop-n.n c.at-in-loop-n-2.result c.requires.depths.1 c.at-in-loop-n-2.ensures,
    )

pub blocks-requires-clause-covering : goal.blocks-requires-clause-covering
blocks-requires-clause-covering c =
    let outer : FitsSigned w32 c.at-in-loop-n-2.result = search rules in
    rw (to_z-of_z w32 c.at-in-loop-n-2.result outer)
    (all_zip_at IsCovering c.args.domain c.args.external.now c.loop-n.n (interval_of c.axis.result) c.at-in-loop-n-2.result c.requires.covering c.axis.ensures c.at-in-loop-n-2.ensures)

pub blocks-requires-clause-some : goal.blocks-requires-clause-some
blocks-requires-clause-some c =
    let fits : FitsSigned w32 c.at.result = search rules in
    let count : IsPartCount (interval_of c.axis.result) c.at.result =
    all_zip_at IsPartCount c.args.domain c.args.parts.now c.loop-n.n (interval_of c.axis.result) c.at.result c.requires.blocks c.axis.ensures c.at.ensures in
    (count_cast c.at.result _ (interval_of c.axis.result) count (to_z-of_z w32 c.at.result fits)).1

pub blocks-requires-clause-enough : goal.blocks-requires-clause-enough
blocks-requires-clause-enough c =
    let fits : FitsSigned w32 c.at.result = search rules in
    let count : IsPartCount (interval_of c.axis.result) c.at.result =
    all_zip_at IsPartCount c.args.domain c.args.parts.now c.loop-n.n (interval_of c.axis.result) c.at.result c.requires.blocks c.axis.ensures c.at.ensures in
    (count_cast c.at.result _ (interval_of c.axis.result) count (to_z-of_z w32 c.at.result fits)).2

pub loop-n-preserved : goal.loop-n-preserved
loop-n-preserved c =
    let fits : FitsSigned w32 c.at.result = search rules in
    let count : IsPartCount (interval_of c.axis.result) c.at.result =
    all_zip_at IsPartCount c.args.domain c.args.parts.now c.loop-n.n (interval_of c.axis.result) c.at.result c.requires.blocks c.axis.ensures c.at.ensures in
    let inner : FitsSigned w32 c.at-in-loop-n.result = search rules in
    let outer : FitsSigned w32 c.at-in-loop-n-2.result = search rules in
    let cast = (count_cast c.at.result _ (interval_of c.axis.result) count (to_z-of_z w32 c.at.result fits)).0 in
    rw c.in_ok-push.ensures.items
    (grid_more c.args.domain c.args.parts.now c.args.internal.now c.args.external.now c.loop-n.n c.loop-n.axes.items c.in_ok-axis.axis
    (interval_of c.axis.result) c.at.result c.at-in-loop-n.result c.at-in-loop-n-2.result c.loop-n.invariant
    c.axis.ensures c.at.ensures c.at-in-loop-n.ensures c.at-in-loop-n-2.ensures
    c.in_ok-axis.ensures.physical
    (c.in_ok-axis.ensures.guards.0 ∙ to_z-of_z w32 c.at-in-loop-n.result inner)
    (c.in_ok-axis.ensures.guards.1 ∙ to_z-of_z w32 c.at-in-loop-n-2.result outer)
    (c.in_ok-axis.ensures.lengths ∙ ap (block_lengths (axis_length (interval_of c.axis.result))) cast)
    c.in_ok-axis.ensures.valid)

pub invariant_of-result : goal.invariant_of-result
invariant_of-result c =
    let whole : length c.args.domain ≤ c.loop-n.n = omega (arith, c.loop-n-test.false, c.dims-n-end.ensures.value) in
    let physical = all_of _ c.args.domain c.loop-n.n c.loop-n.invariant.physical_so_far whole in
    let lengths = all_of _ (each_of blocks_of c.args.domain c.args.parts.now) c.loop-n.n c.loop-n.invariant.lengths_so_far (omega (arith, whole, length-each_of blocks_of c.args.domain c.args.parts.now)) in
    is_layout c.args.domain c.loop-n.axes.items c.requires.some c.dims.ensures.valid.few physical c.loop-n.invariant.valid
    (rw (grid_patches c.args.domain c.args.parts.now c.loop-n.axes.items c.requires.blocks lengths) c.requires.patches)

pub returns-clause-lengths : goal.returns-clause-lengths
returns-clause-lengths c =
    let whole : length c.args.domain ≤ c.loop-n.n = omega (arith, c.loop-n-test.false, c.dims-n-end.ensures.value) in
    all_of _ (each_of blocks_of c.args.domain c.args.parts.now) c.loop-n.n c.loop-n.invariant.lengths_so_far (omega (arith, whole, length-each_of blocks_of c.args.domain c.args.parts.now))
