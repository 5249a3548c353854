use Rattle.pooma_lanes.specs.Rows.{IsDoneBetween, number_at}
use Rattle.pooma_lanes.proofs.kernel.rest.Given as goal

abbrev pub invariant-loop-k : goal.invariant-loop-k
invariant-loop-k g l = IsDoneBetween (λ k r. g.K.Checked.answers (number_at l.a k) (number_at l.b k) r) l.start l.initial.out l.out l.k
