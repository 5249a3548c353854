use Rattle.std.proofs.Common.{sym, ap, ◌∙◌, length, map}
use Rattle.std.specs.Prelude.{List}
use Rattle.pooma_domain.specs.Cells.{Interval}
use Rattle.pooma_layout.specs.Blocks.{product}
use Rattle.pooma_model.proofs.CutParts.{boxes_counted}
use Rattle.pooma_part.specs.CutLines.{CutLine, parts_in}
use Rattle.pooma_part.proofs.cuts.Cutting.count.Goals as goal

pub returns-clause-boxes : goal.returns-clause-boxes
returns-clause-boxes c =
    c.count_of.ensures.value
    ∙ ap (λ (lines : List CutLine). product (map length (map parts_in lines))) c.deref.ensures.value
    ∙ ap (λ (cuts : List (List Interval)). product (map length cuts)) c.self.view_is
    ∙ sym (boxes_counted c.args.self.now)
