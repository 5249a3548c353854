use Rattle.std.proofs.Common.{◌≡◌, ◌∙◌, sym, ap, arith, ℕ, ◌<◌, ℤ, Some, List, length, map, slice_get, slice_set, to_z, of_z, w32}
use Rattle.std.proofs.lemmas.Int.{ints}
use Rattle.pooma_domain.specs.Axes.{interval_of}
use Rattle.pooma_domain.specs.Cells.{Interval}
use Rattle.pooma_field.specs.declared.updaters.Updater.{Updater}
use Rattle.pooma_field.specs.ShapeOf.{shape_of}
use Rattle.pooma_field.specs.Slabs.{axis_at, cell_sources, coordinate_at, sources_along}
use Rattle.pooma_field.specs.Updaters.{inner}
use Rattle.pooma_field.proofs.SlabBoxes.{axis_at_is}
use Rattle.pooma_field.proofs.SlabValues.{cell_of, second_source, some_source, source_is_first, coordinate_at_is}
use Rattle.pooma_field.proofs.SourceCells.{goes_by_dims}
use Rattle.pooma_field.proofs.shapes.Slab.source_at.Goals as goal

pub source-requires-clause-goes_by : goal.source-requires-clause-goes_by
source-requires-clause-goes_by c = (cell_of (shape_of c.args.shape.now) c.args.self.now c.args.c.now c.args.shape.now.valid c.requires.field c.requires.inside).by

pub source-requires-clause-has_source : goal.source-requires-clause-has_source
source-requires-clause-has_source c =
    some_source (cell_sources (shape_of c.args.shape.now) c.args.self.now c.args.c.now) _ c.args.place (omega (arith, c.if-place-eq0.true)) c.requires.there (source_is_first (shape_of c.args.shape.now) c.args.self.now c.args.c.now (cell_of (shape_of c.args.shape.now) c.args.self.now c.args.c.now c.args.shape.now.valid c.requires.field c.requires.inside))

pub axis-numbers-requires : goal.axis-numbers-requires
axis-numbers-requires c = (cell_of (shape_of c.args.shape.now) c.args.self.now c.args.c.now c.args.shape.now.valid c.requires.field c.requires.inside).there

pub at-requires : goal.at-requires
at-requires c = goes_by_dims (shape_of c.args.shape.now) c.args.self.now.axis c.args.c.now c.args.shape.now.valid (cell_of (shape_of c.args.shape.now) c.args.self.now c.args.c.now c.args.shape.now.valid c.requires.field c.requires.inside).by

pub with_coordinate-requires : goal.with_coordinate-requires
with_coordinate-requires c = goes_by_dims (shape_of c.args.shape.now) c.args.self.now.axis c.args.c.now c.args.shape.now.valid (cell_of (shape_of c.args.shape.now) c.args.self.now c.args.c.now c.args.shape.now.valid c.requires.field c.requires.inside).by

pub returns-then-place-eq0 : goal.returns-then-place-eq0
returns-then-place-eq0 c =
    ap (slice_get (cell_sources (shape_of c.args.shape.now) c.args.self.now c.args.c.now)) (let first : c.args.place ≡ 0 = omega (arith, c.if-place-eq0.true) in first)
    ∙ sym (source_is_first (shape_of c.args.shape.now) c.args.self.now c.args.c.now (cell_of (shape_of c.args.shape.now) c.args.self.now c.args.c.now c.args.shape.now.valid c.requires.field c.requires.inside)) ∙ c.source.ensures.cell

-- the inner cell, by the axis and the coordinate of the code
inner_is : (u : Updater) (box : List Interval) (c r : List ℤ) (n place : ℕ) (axis : Interval) (x x' y y' : ℤ) → slice_get box n ≡ Some axis → slice_get c n ≡ Some x → x' ≡ x → y ≡ inner axis x' → y' ≡ y → r ≡ slice_set c n y' → 0 < place → place < length (map (λ z. slice_set c n z) (sources_along u (axis_at box n) (coordinate_at c n))) → slice_get (map (λ z. slice_set c n z) (sources_along u (axis_at box n) (coordinate_at c n))) place ≡ Some r
inner_is u box c r n place axis x x' y y' at_axis at_x e is e' is_r later there =
    second_source u (axis_at box n) (coordinate_at c n) (λ z. slice_set c n z) place later there
    ∙ ap (λ (z : ℤ). Some (slice_set c n z))
    (ap (λ (q : Interval). inner q (coordinate_at c n)) (axis_at_is box n axis at_axis) ∙ ap (inner axis) (coordinate_at_is c n x at_x ∙ sym e) ∙ sym is ∙ sym e')
    ∙ ap Some (sym is_r)

pub returns-else-place-eq0 : goal.returns-else-place-eq0
returns-else-place-eq0 c =
    inner_is c.args.self.now.updater c.args.shape.now.physical c.args.c.now c.with_coordinate.result c.args.self.now.axis c.args.place (interval_of c.axis-numbers.result) c.at.result _ c.inner.result _ c.axis-numbers.ensures c.at.ensures
    (let same : to_z w32 (of_z w32 c.at.result) ≡ c.at.result = omega (arith, ints) in same) c.inner.ensures
    (let same : to_z w32 (of_z w32 c.inner.result) ≡ c.inner.result = omega (arith, ints) in same) c.with_coordinate.ensures (omega (arith, c.if-place-eq0.false)) c.requires.there
