use Rattle.std.specs.Prelude.{int_div}
use Rattle.pooma_num.specs.Exact.{IsExactDivision}
use Rattle.pooma_lanes.specs.Rows.{IsDoneUpTo, number_at}
use Rattle.pooma_lanes.proofs.quotients.div_rows_by.Given as goal

abbrev pub invariant-loop-k : goal.invariant-loop-k
invariant-loop-k l = IsDoneUpTo (λ k r. IsExactDivision r l.by (int_div (number_at l.a k) l.by)) l.initial.out l.out l.k
