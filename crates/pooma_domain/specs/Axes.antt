-- An axis of the code as an interval.
use Rattle.pooma_domain.specs.Cells.{Interval, interval}
use Rattle.pooma_domain.specs.declared.axes.Axis.{Axis}

-- the numbers of the axis
abbrev pub interval_of : Axis → Interval
interval_of axis = interval axis.first axis.last
