use Rattle.std.proofs.Common.{ℕ, ℤ, Result, refl, arith}
use Rattle.pooma_num.specs.declared.fault.FaultKind.{FaultKind}
use Rattle.pooma_lanes.specs.Rows.{number_at}
use Rattle.pooma_lanes.proofs.Places.{nothing_done, whole}
use Rattle.pooma_lanes.proofs.kernel.one_by_one.Goals as goal

pub returns : goal.returns
returns g c =
    let A : ℕ → Result ℤ FaultKind → Type 0 = λ k r. g.K.Checked.answers (number_at c.args.a k) (number_at c.args.b k) r in
    let old = c.args.out.now in
    whole A old old c.rest.new.out 0 c.rest.result (omega arith) refl (nothing_done A old) c.rest.ensures
