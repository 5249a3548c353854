use Rattle.std.proofs.Common.{arith, ap, ◌∙◌, subst, ◌≡◌, ◌≤◌, rules}
use Rattle.std.proofs.lemmas.Int.{ints, to_z-of_z}
use Rattle.std.specs.Int.{w32}
use Rattle.std.specs.Prelude.{ℤ, pos, ◌+ℤ◌, FitsSigned}
use Rattle.pooma_domain.specs.Axes.{interval_of}
use Rattle.pooma_layout.specs.Axes.{CutAxis}
use Rattle.pooma_layout.specs.Blocks.{part_lengths, block_lengths, AreBlockStarts}
use Rattle.pooma_layout.proofs.Blocking.{blocks_ascend, blocks_inside, lengths_of_blocks}
use Rattle.pooma_layout.proofs.Counting.{length_of_interval}
use Rattle.pooma_layout.proofs.axes.AxisParts.blocks.Goals as goal

pub new-requires : goal.new-requires
new-requires c =
    let enough : c.args.parts ≤ c.axis_len-cells.result = omega (arith, c.requires.enough, c.axis_len-cells.ensures.value) in
    let end : c.args.physical.first +ℤ pos c.axis_len-cells.result ≡ c.args.physical.last +ℤ pos 1 =
    omega (arith, ints, c.axis_len-cells.ensures.value, length_of_interval (interval_of c.args.physical) c.requires.near.ordered) in
    let fits : FitsSigned w32 c.args.physical.first = search rules in
    let starts : AreBlockStarts c.args.physical.first c.axis_len-cells.result c.args.parts c.in_ok-borders.borders.items =
    subst (λ (first : ℤ). AreBlockStarts first c.axis_len-cells.result c.args.parts c.in_ok-borders.borders.items) (to_z-of_z w32 c.args.physical.first fits) c.in_ok-borders.ensures.starts in
    let inner : FitsSigned w32 c.args.internal = search rules in
    let outer : FitsSigned w32 c.args.external = search rules in
    rw (to_z-of_z w32 c.args.external outer, to_z-of_z w32 c.args.internal inner) (record {
      near = c.requires.near;
      external_depth = c.requires.depths.1;
      internal_depth = c.requires.depths.0;
      covering = c.requires.covering;
      ascending = blocks_ascend c.args.physical.first c.axis_len-cells.result c.args.parts c.in_ok-borders.borders.items c.requires.some enough starts;
      inside = blocks_inside (interval_of c.args.physical) c.axis_len-cells.result c.args.parts c.in_ok-borders.borders.items c.requires.some enough end c.in_ok-borders.ensures.count starts;
    })

pub returns-clause-lengths : goal.returns-clause-lengths
returns-clause-lengths c =
    let enough : c.args.parts ≤ c.axis_len-cells.result = omega (arith, c.requires.enough, c.axis_len-cells.ensures.value) in
    let end : c.args.physical.first +ℤ pos c.axis_len-cells.result ≡ c.args.physical.last +ℤ pos 1 =
    omega (arith, ints, c.axis_len-cells.ensures.value, length_of_interval (interval_of c.args.physical) c.requires.near.ordered) in
    let fits : FitsSigned w32 c.args.physical.first = search rules in
    let starts : AreBlockStarts c.args.physical.first c.axis_len-cells.result c.args.parts c.in_ok-borders.borders.items =
    subst (λ (first : ℤ). AreBlockStarts first c.axis_len-cells.result c.args.parts c.in_ok-borders.borders.items) (to_z-of_z w32 c.args.physical.first fits) c.in_ok-borders.ensures.starts in
    ap (λ (axis : CutAxis). part_lengths axis) c.new.ensures
    ∙ lengths_of_blocks (interval_of c.args.physical) c.axis_len-cells.result c.args.parts c.in_ok-borders.borders.items c.requires.some enough end c.in_ok-borders.ensures.count starts
    ∙ ap (λ cells. block_lengths cells c.args.parts) c.axis_len-cells.ensures.value
