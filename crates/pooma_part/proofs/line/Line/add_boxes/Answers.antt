use Rattle.std.proofs.Common.{◌∷◌}
use Rattle.pooma_domain.specs.Axes.{interval_of}
use Rattle.pooma_domain.specs.Cells.{Interval, IsBox}
use Rattle.pooma_part.specs.CutLines.{parts_in}
use Rattle.pooma_part.proofs.Dividing.{all_at, map_more}
use Rattle.pooma_part.proofs.line.Line.add_boxes.Goals as goal

pub after-requires : goal.after-requires
after-requires c =
    all_at (λ part. IsBox (part ∷ c.args.later.now)) (parts_in c.args.self.now) c.loop-k.k (interval_of c.part.result) c.requires c.part.ensures

pub loop-k-preserved : goal.loop-k-preserved
loop-k-preserved c =
    map_more (λ (part : Interval). part ∷ c.args.later.now) c.args.boxes.now.items c.loop-k.boxes.items c.push.new.self.items (parts_in c.args.self.now) c.loop-k.k
    (interval_of c.part.result) _ c.loop-k.invariant c.in_ok-push.ensures.items c.part.ensures c.after.ensures
