use Rattle.std.proofs.Common.{◌≤◌, ◌∙◌, ap, subst, arith, ℤ, pos, List, length, map, Some}
use Rattle.pooma_domain.specs.Cells.{cells_of}
use Rattle.pooma_field.specs.Shapes.{Shaped}
use Rattle.pooma_field.specs.ShapeOf.{shape_of}
use Rattle.pooma_field.specs.Slabs.{cell_sources}
use Rattle.pooma_layout.specs.Patches.{owner_of}
use Rattle.pooma_store.specs.Numbering.{layout_at, object_of}
use Rattle.pooma_store.specs.Standing.{shape_at}
use Rattle.pooma_store.specs.Stored.{Fits}
use Rattle.pooma_fill.proofs.Codes.{if_ok, literal_axes, literal_bound, literal_depth, literal_scalars, literal_views, none_at, none_within, same_fill, sources_alike}
use Rattle.std.proofs.lemmas.List.{length-map}
use Rattle.pooma_fill.proofs.Listed.{few_cells}
use Rattle.pooma_fill.proofs.Taken.{ordered_box}
use Rattle.pooma_fill.proofs.fills.fill_over.Goals as goal

pub new-requires-clause-reads : goal.new-requires-clause-reads
new-requires-clause-reads c = (
  c.in_ok-code.ensures.views ∙ literal_views (pos 0),
  λ cell. ap length (c.as_slice.ensures.value ∙ c.in_ok-reads.ensures) ∙ length-map (cell_sources (shape_of c.args.shape.now) c.args.slab.now _) _ ∙ sources_alike (shape_of c.args.shape.now) c.args.slab.now _ cell,
)

pub new-requires-clause-few : goal.new-requires-clause-few
new-requires-clause-few c =
    let shape = shape_of c.args.shape.now in
    let fits : Fits (shape_at c.args.store.now.shapes c.args.array) (layout_at c.args.store.now.layouts c.args.array) = c.objects-count.ensures.valid.arrays.fitting c.args.array c.requires.array in
    let few : length (cells_of shape.total) ≤ 4194304 = subst (λ (s : Shaped). length (cells_of s.total) ≤ 4194304) c.requires.shape fits.few in
    let fewer = few_cells c.order_of_cells.ensures.counted c.args.cells shape.total (ordered_box c.args.cells c.dims-cells_dims.ensures.valid) (ordered_box shape.total c.dims-total_dims.ensures.valid)
    (λ cell h. (c.slabs_in_order.ensures.external shape c.args.slab.now cell c.args.shape.now.valid c.requires.slab (c.requires.inside cell h)).0) in
    omega (arith, few, fewer)

pub new-requires-clause-within : goal.new-requires-clause-within
new-requires-clause-within c = none_within c.args.cells _ (c.in_ok-code.ensures.views ∙ literal_views (pos 0))

pub new-requires-clause-axes : goal.new-requires-clause-axes
new-requires-clause-axes c =
    let none = c.in_ok-code.ensures.axes ∙ literal_axes (pos 0) in omega (arith, none)

pub new-requires-clause-alike : goal.new-requires-clause-alike
new-requires-clause-alike c j k view at = absurd (none_at _ j view (c.in_ok-code.ensures.views ∙ literal_views (pos 0)) at)

pub of-requires-clause-depth : goal.of-requires-clause-depth
of-requires-clause-depth c = let one = literal_depth (pos 0) in omega (arith, one)

pub of-requires-clause-reads : goal.of-requires-clause-reads
of-requires-clause-reads c = let none = ap length (literal_views (pos 0)) in omega (arith, none)

pub of-requires-clause-scalars : goal.of-requires-clause-scalars
of-requires-clause-scalars c = let none = literal_scalars (pos 0) in omega (arith, none)

pub returns : goal.returns
returns c =
    if_ok c.new.result _ _ c.new.ensures
    (λ fill is. is ∙ same_fill c.args.store.now.layouts c.args.number c.args.shape.now c.args.array c.args.slab.now c.args.target c.args.cells _ _ _ (c.in_ok-code.ensures.tree ∙ literal_bound (pos 0)) (ap Some c.object.ensures.value)
    (c.as_slice.ensures.value ∙ c.in_ok-reads.ensures ∙ ap (λ (cell : List ℤ). map (λ s. object_of c.args.store.now.layouts c.args.array (owner_of (layout_at c.args.store.now.layouts c.args.array) s)) (cell_sources (shape_of c.args.shape.now) c.args.slab.now cell)) c.least.ensures.value))
