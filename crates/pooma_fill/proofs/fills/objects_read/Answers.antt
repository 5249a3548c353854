use Rattle.std.proofs.Common.{◌≡◌, ◌<◌, ◌∙◌, sym, ap, subst, arith, ℕ, ℤ, ◌+◌, List, [], ◌∷◌, ◌++◌, length, map, take}
use Rattle.std.proofs.lemmas.List.{take_all}
use Rattle.pooma_domain.specs.Cells.{IsIn}
use Rattle.pooma_field.specs.ShapeOf.{shape_of}
use Rattle.pooma_field.specs.Slabs.{cell_sources}
use Rattle.pooma_field.specs.Shapes.{Shaped}
use Rattle.pooma_layout.specs.Axes.{CutAxis}
use Rattle.pooma_layout.specs.Patches.{owned_boxes, owner_of, total_of}
use Rattle.pooma_store.specs.Numbering.{layout_at, object_of}
use Rattle.pooma_store.specs.Standing.{shape_at}
use Rattle.pooma_store.specs.Stored.{Fits}
use Rattle.pooma_fill.proofs.Listed.{map_more, owner_within, source_total}
use Rattle.pooma_fill.proofs.fills.objects_read.Goals as goal

pub source_at-s-requires-clause-there : goal.source_at-s-requires-clause-there
source_at-s-requires-clause-there c =
    let count = c.sources-place-end.ensures (shape_of c.args.shape.now) c.args.c.now in omega (arith, count, c.loop-place-test.true)

pub owner-requires : goal.owner-requires
owner-requires c =
    let fits : Fits (shape_at c.args.store.now.shapes c.args.array) (layout_at c.args.store.now.layouts c.args.array) = c.objects-count.ensures.valid.arrays.fitting c.args.array c.requires.array in
    let total : (shape_of c.args.shape.now).total ≡ total_of (layout_at c.args.store.now.layouts c.args.array) = ap (λ (s : Shaped). s.total) (sym c.requires.shape) ∙ fits.total in
    subst (λ (layout : List CutAxis). IsIn (total_of layout) c.source_at-s.result) (sym c.layout-layout.ensures)
    (source_total (shape_of c.args.shape.now) c.args.slab.now c.args.c.now c.source_at-s.result c.loop-place.place (total_of (layout_at c.args.store.now.layouts c.args.array))
    (c.slabs_in_order.ensures.total_sources (shape_of c.args.shape.now) c.args.slab.now c.args.c.now c.args.shape.now.valid c.requires.slab c.requires.inside) c.source_at-s.ensures total)

pub object-requires-clause-patch : goal.object-requires-clause-patch
object-requires-clause-patch c =
    subst (λ (layout : List CutAxis). c.owner.result < length (owned_boxes layout)) c.layout-layout.ensures (owner_within c.layout-layout.result.now c.owner.result c.source_at-s.result c.owner.ensures.owns)

pub loop-place-preserved : goal.loop-place-preserved
loop-place-preserved c =
    let f = λ (s : List ℤ). object_of c.args.store.now.layouts c.args.array (owner_of (layout_at c.args.store.now.layouts c.args.array) s) in
    c.in_ok-push.ensures.items
    ∙ ap (λ (xs : List ℕ). xs ++ c.object.result ∷ []) c.loop-place.invariant
    ∙ ap (λ (k : ℕ). map f (take c.loop-place.place (cell_sources (shape_of c.args.shape.now) c.args.slab.now c.args.c.now)) ++ k ∷ [])
    (c.object.ensures.value ∙ ap (object_of c.args.store.now.layouts c.args.array) (c.owner.ensures.by_parts ∙ ap (λ (layout : List CutAxis). owner_of layout c.source_at-s.result) c.layout-layout.ensures))
    ∙ sym (map_more f (cell_sources (shape_of c.args.shape.now) c.args.slab.now c.args.c.now) c.loop-place.place (c.loop-place.place + 1) c.source_at-s.result (omega arith) c.source_at-s.ensures)

pub returns : goal.returns
returns c =
    let count = c.sources-place-end.ensures (shape_of c.args.shape.now) c.args.c.now in
    c.loop-place.invariant
    ∙ ap (map (λ (s : List ℤ). object_of c.args.store.now.layouts c.args.array (owner_of (layout_at c.args.store.now.layouts c.args.array) s)))
    (take_all c.loop-place.place (cell_sources (shape_of c.args.shape.now) c.args.slab.now c.args.c.now) (omega (arith, count, c.loop-place-test.false)))
