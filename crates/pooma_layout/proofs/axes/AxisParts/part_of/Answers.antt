use Rattle.std.proofs.Common.{ap, ◌∙◌, rules, of_calls, ℤ}
use Rattle.std.proofs.lemmas.List.Sorted.{IsPartitionPoint-from_clause}
use Rattle.std.specs.Prelude.{int_le}
use Rattle.pooma_layout.specs.Axes.{part_of}
use Rattle.pooma_layout.proofs.Finding.{borders_part, counted_borders}
use Rattle.pooma_layout.proofs.axes.AxisParts.part_of.Goals as goal

pub returns : goal.returns
returns c =
    let point = IsPartitionPoint-from_clause (λ (border : ℤ). int_le border c.args.x) c.borders.result.now c.partition_point.result c.partition_point.ensures.partitioned (rw c.borders.ensures.value (borders_part c.args.self.now.borders c.args.x c.borders.ensures.valid.ascending)) (λ a r f k. search (rules, of_calls)) in
    counted_borders c.borders.result.now c.args.x c.partition_point.result c.partition_point.ensures.bound point ∙ ap (λ xs. part_of xs c.args.x) c.borders.ensures.value
