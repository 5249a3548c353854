use Rattle.pooma_domain.specs.Cells.{interval}
use Rattle.pooma_domain.proofs.PaddedBox.{box_of_one}
use Rattle.pooma_domain.proofs.boxes.BoxN.of1.Goals as goal

pub returns-clause-valid : goal.returns-clause-valid
returns-clause-valid c =
    rw (c.of.ensures.first, c.of.ensures.last)
    (box_of_one (interval c.args.a.first c.args.a.last) (record { ordered = c.args.a.ordered; low = c.args.a.low; high = c.args.a.high }))
