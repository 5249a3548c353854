use Rattle.std.proofs.Common.{sym, ap, ◌∙◌, subst, ◌∷◌, ◌++◌, map}
use Rattle.std.specs.Prelude.{All, List}
use Rattle.pooma_domain.specs.Cells.{Interval, IsBox}
use Rattle.pooma_part.specs.CutLines.{parts_in}
use Rattle.pooma_part.proofs.Dividing.{joined_more}
use Rattle.pooma_part.proofs.cuts.with_parts.Goals as goal

pub add_boxes-requires : goal.add_boxes-requires
add_boxes-requires c =
    subst (λ (rest : List Interval). All (λ part. IsBox (part ∷ rest)) (parts_in c.args.first.now)) (sym c.rest-item.is)
    (c.requires c.loop-rest.rest-index c.rest-item.result c.loop-rest-test.true)

pub loop-rest-preserved : goal.loop-rest-preserved
loop-rest-preserved c =
    joined_more (λ (rest : List Interval). map (λ part. part ∷ rest) (parts_in c.args.first.now)) c.loop-rest.boxes.items c.add_boxes.new.boxes.items c.args.later.now c.loop-rest.rest-index c.rest-item.result
    c.loop-rest-test.true c.loop-rest.invariant
    (c.in_ok-add_boxes.ensures ∙ ap (λ (rest : List Interval). c.loop-rest.boxes.items ++ map (λ part. part ∷ rest) (parts_in c.args.first.now)) c.rest-item.is)
