use Rattle.std.proofs.Common.{arith, map}
use Rattle.std.proofs.lemmas.List.Sums.{sum_by-take-le}
use Rattle.pooma_domain.specs.Axes.{interval_of}
use Rattle.pooma_domain.specs.Cells.{axis_length}
use Rattle.pooma_layout.specs.Axes.{allocated_part, parts}
use Rattle.pooma_layout.proofs.Allocating.{allocated_more, few_allocated}
use Rattle.pooma_layout.proofs.axes.AxisParts.allocated_len.Goals as goal

pub overflow_add-len : goal.overflow_add-len
overflow_add-len c =
    let more = allocated_more c.args.self.now c.loop-k.k c.loop-k.len (interval_of c.allocated.result) c.parts-k-end.ensures.valid c.requires c.loop-k.invariant c.allocated.ensures in
    omega (arith, more, c.axis_len.ensures.value)

pub loop-k-preserved : goal.loop-k-preserved
loop-k-preserved c =
    let more = allocated_more c.args.self.now c.loop-k.k c.loop-k.len (interval_of c.allocated.result) c.parts-k-end.ensures.valid c.requires c.loop-k.invariant c.allocated.ensures in
    omega (arith, more.0, c.axis_len.ensures.value, c.from-len.ensures)

pub returns-clause-few : goal.returns-clause-few
returns-clause-few c =
    let all = few_allocated c.args.self.now c.parts-k-end.ensures.valid c.requires in
    let most = sum_by-take-le axis_length (map (allocated_part c.args.self.now) (parts c.args.self.now)) c.loop-k.k in
    omega (arith, c.loop-k.invariant, most, all)
