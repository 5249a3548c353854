use Rattle.std.proofs.Common.{◌∙◌, sym, ap, [], ◌∷◌, ◌++◌}
use Rattle.pooma_domain.specs.Axes.{interval_of}
use Rattle.pooma_field.specs.declared.shapes.Slab.{Slab}
use Rattle.pooma_field.specs.ShapeOf.{shape_of}
use Rattle.pooma_field.specs.Slabs.{slab_at}
use Rattle.pooma_field.proofs.SlabBoxes.{deep_is, kept_alone, left_out, some_numbers}
use Rattle.pooma_field.proofs.beside.add.Goals as goal

pub slab-requires-clause-deep : goal.slab-requires-clause-deep
slab-requires-clause-deep c =
    some_numbers c.args.high c.args.shape.now.physical c.args.shape.now.total c.args.axis (interval_of c.axis.result) (interval_of c.axis-2.result) c.reaches.result c.axis.ensures c.axis-2.ensures c.reaches.ensures c.if-reaches.true

pub returns-in_ok-push : goal.returns-in_ok-push
returns-in_ok-push c =
    kept_alone (slab_at (shape_of c.args.shape.now) c.args.axis c.args.high c.args.updater) c.args.list.now.items c.push.new.self.items c.reaches.result
    (deep_is (shape_of c.args.shape.now) c.args.axis c.args.high c.args.updater (interval_of c.axis.result) (interval_of c.axis-2.result) c.requires c.args.shape.now.valid.same_dims c.axis.ensures c.axis-2.ensures ∙ sym c.reaches.ensures)
    c.if-reaches.true
    (c.in_ok-push.ensures.items ∙ ap (λ (s : Slab). c.args.list.now.items ++ s ∷ []) c.slab.ensures)

pub returns-else-reaches : goal.returns-else-reaches
returns-else-reaches c =
    left_out (slab_at (shape_of c.args.shape.now) c.args.axis c.args.high c.args.updater) c.args.list.now.items _ c.reaches.result
    (deep_is (shape_of c.args.shape.now) c.args.axis c.args.high c.args.updater (interval_of c.axis.result) (interval_of c.axis-2.result) c.requires c.args.shape.now.valid.same_dims c.axis.ensures c.axis-2.ensures ∙ sym c.reaches.ensures)
    c.if-reaches.false cc
