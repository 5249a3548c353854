use Rattle.std.proofs.Common.{ℕ, ℤ, Result}
use Rattle.pooma_num.specs.declared.fault.FaultKind.{FaultKind}
use Rattle.pooma_lanes.specs.Rows.{number_at}
use Rattle.pooma_lanes.proofs.Places.{whole}
use Rattle.pooma_lanes.proofs.kernel.by_lanes.Goals as goal

pub returns : goal.returns
returns g c =
    let A : ℕ → Result ℤ FaultKind → Type 0 = λ k r. g.K.Checked.answers (number_at c.args.a k) (number_at c.args.b k) r in
    whole A c.args.out.now c.blocks-at.new.out c.rest.new.out c.blocks-at.result c.rest.result c.blocks-at.ensures.within c.blocks-at.auto.out c.blocks-at.ensures.done c.rest.ensures
