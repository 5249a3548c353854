use Rattle.std.proofs.Common.{ap, ◌∙◌, ◌*◌, min}
use Rattle.pooma_script.specs.declared.count.TheConstants.{CAP}
use Rattle.pooma_script.proofs.ViewPositions.{along_capped}
use Rattle.pooma_script.proofs.printed.+positions_from.Goals as goal

pub returns-in-Along : goal.returns-in-Along
returns-in-Along t c =
    along_capped c.order_of_cells.ensures.counted c.args.view.now.slots c.args.n c.in-Along.numbers _ _ CAP c.in-Along.ensures c.positions_from-in-Along.ensures
    (c.times.ensures ∙ ap (λ m. min (m * c.positions_from-in-Along.result) CAP) c.from.ensures)
