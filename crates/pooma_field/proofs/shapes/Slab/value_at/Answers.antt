use Rattle.std.proofs.Common.{◌≡◌, ◌∙◌, sym, ap, arith, ℕ, ℤ, Some, List, pos, slice_get, slice_index_or, to_z, of_z, w32, w64}
use Rattle.std.proofs.lemmas.Int.{ints}
use Rattle.pooma_domain.specs.Axes.{interval_of}
use Rattle.pooma_domain.specs.Cells.{Interval}
use Rattle.pooma_field.specs.declared.updaters.Updater.{Updater}
use Rattle.pooma_field.specs.declared.updaters.Updater.TheVariants.{Extrapolate}
use Rattle.pooma_field.specs.ShapeOf.{shape_of}
use Rattle.pooma_field.specs.Slabs.{axis_at, coordinate_at, made_of}
use Rattle.pooma_field.specs.Updaters.{distance, extrapolation}
use Rattle.pooma_field.proofs.SlabBoxes.{axis_at_is}
use Rattle.pooma_field.proofs.SlabValues.{cell_of, coordinate_at_is}
use Rattle.pooma_field.proofs.SourceCells.{goes_by_dims}
use Rattle.pooma_field.proofs.shapes.Slab.value_at.Goals as goal

pub axis-requires : goal.axis-requires
axis-requires c = (cell_of (shape_of c.args.shape.now) c.args.self.now c.args.c.now c.args.shape.now.valid c.requires.field c.requires.inside).there

pub at-requires : goal.at-requires
at-requires c = goes_by_dims (shape_of c.args.shape.now) c.args.self.now.axis c.args.c.now c.args.shape.now.valid (cell_of (shape_of c.args.shape.now) c.args.self.now c.args.c.now c.args.shape.now.valid c.requires.field c.requires.inside).by

line_is : (u : Updater) (box : List Interval) (c : List ℤ) (n : ℕ) (axis : Interval) (x x' r r' : ℤ) (steps : ℕ) (values : List ℤ) → u ≡ Extrapolate → slice_get box n ≡ Some axis → slice_get c n ≡ Some x → x' ≡ x → steps ≡ distance axis x' → r ≡ extrapolation (slice_index_or values 0 (pos 0)) (slice_index_or values 1 (pos 0)) steps → r' ≡ r → r' ≡ made_of u (axis_at box n) (coordinate_at c n) values
line_is u box c n axis x x' r r' steps values line at_axis at_x e are is e' =
    e' ∙ is
    ∙ ap (extrapolation (slice_index_or values 0 (pos 0)) (slice_index_or values 1 (pos 0)))
    (are ∙ ap (distance axis) (e ∙ sym (coordinate_at_is c n x at_x)) ∙ ap (λ (q : Interval). distance q (coordinate_at c n)) (sym (axis_at_is box n axis at_axis)))
    ∙ ap (λ (v : Updater). made_of v (axis_at box n) (coordinate_at c n) values) (sym line)

pub returns-in-Extrapolate : goal.returns-in-Extrapolate
returns-in-Extrapolate c =
    line_is c.args.self.now.updater c.args.shape.now.physical c.args.c.now c.args.self.now.axis (interval_of c.axis.result) c.at.result _ c.on_line.result _ c.distance-steps.result c.args.values c.in-Extrapolate.is c.axis.ensures c.at.ensures
    (let same : to_z w32 (of_z w32 c.at.result) ≡ c.at.result = omega (arith, ints) in same) c.distance-steps.ensures c.on_line.ensures
    (let same : to_z w64 (of_z w64 c.on_line.result) ≡ c.on_line.result = omega (arith, ints) in same)
