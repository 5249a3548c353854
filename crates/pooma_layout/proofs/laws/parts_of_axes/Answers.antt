use Rattle.std.proofs.Common.{sym}
use Rattle.pooma_layout.specs.Axes.{total_axis}
use Rattle.pooma_layout.proofs.Cutting.{part_has, only_part_has, one_part_by_borders}
use Rattle.pooma_layout.proofs.Finding.{length-parts}
use Rattle.pooma_layout.proofs.Owning.{total_cut}
use Rattle.pooma_layout.proofs.laws.parts_of_axes.Goals as goal

pub returns-clause-counted : goal.returns-clause-counted
returns-clause-counted c = λ axis. sym (length-parts axis)

pub returns-clause-has : goal.returns-clause-has
returns-clause-has c = λ axis x low high. part_has (total_axis axis).first axis.borders (total_axis axis).last x low high

pub returns-clause-no_other : goal.returns-clause-no_other
returns-clause-no_other c = λ axis x k part valid at low high.
    only_part_has (total_axis axis).first axis.borders (total_axis axis).last x k part (total_cut axis valid) at low high

pub returns-clause-parted : goal.returns-clause-parted
returns-clause-parted c = one_part_by_borders
