use Rattle.std.proofs.Common.{rules, subst, ◌∙◌}
use Rattle.pooma_part.specs.CutLines.{AreCutLines}
use Rattle.pooma_part.proofs.Dividing.{first_and_later, later_lines, with_each_part}
use Rattle.pooma_part.proofs.cuts.+boxes_of.Goals as goal

pub boxes_of-requires : goal.boxes_of-requires
boxes_of-requires t c =
    let split = first_and_later c.args.lines.now c.first-item.result c.in-len1-up.len_at_least c.first-item.is in
    (search rules, later_lines c.first-item.result _ (subst AreCutLines split c.requires))

pub with_parts-requires : goal.with_parts-requires
with_parts-requires t c =
    let split = first_and_later c.args.lines.now c.first-item.result c.in-len1-up.len_at_least c.first-item.is in
    with_each_part c.first-item.result _ c.deref.result.now (subst AreCutLines split c.requires) (c.deref.ensures.value ∙ c.in_ok-boxes_of-in-len1-up.ensures)
