use Rattle.std.proofs.Common.{◌≡◌, ◌∙◌, sym, ap, subst, arith, ℤ, to_z, of_z, w32, Some, Option, List, slice_get, slice_set, take}
use Rattle.std.proofs.lemmas.Int.{ints}
use Rattle.pooma_domain.specs.Axes.{interval_of}
use Rattle.pooma_domain.specs.Cells.{Interval, IsIn}
use Rattle.pooma_field.specs.Faces.{facing}
use Rattle.pooma_field.specs.Shapes.{inside_from}
use Rattle.pooma_field.specs.ShapeOf.{shape_of}
use Rattle.pooma_field.specs.Sources.{IsNear, source_number}
use Rattle.pooma_field.specs.declared.faces.Ends.{Ends}
use Rattle.pooma_field.specs.declared.updaters.Updater.{Updater}
use Rattle.pooma_field.proofs.SourceCells.{HasSource, goes_by_near, goes_by_dims, source_facts, updater_has_source, front_is, elsewhere}
use Rattle.pooma_field.proofs.sources.source.Goals as goal

pub at-x-requires : goal.at-x-requires
at-x-requires c = goes_by_dims (shape_of c.args.shape.now) c.args.axis c.args.c.now c.args.shape.now.valid c.requires.goes_by

same_x : (c : goal.After-coordinates-coordinates) → to_z w32 (of_z w32 c.at-x.result) ≡ c.at-x.result
same_x c = omega (arith, ints)

pub source_number-requires-clause-near : goal.source_number-requires-clause-near
source_number-requires-clause-near c =
    subst (IsNear (interval_of c.axis-numbers.result)) (let same : c.at-x.result ≡ to_z w32 (of_z w32 c.at-x.result) = omega (arith, ints) in same)
    (goes_by_near (shape_of c.args.shape.now) c.args.axis c.args.c.now (interval_of c.axis-numbers.result) c.at-x.result c.args.shape.now.valid c.requires.goes_by c.axis-numbers.ensures c.at-x.ensures)

-- the updater and the number of the call, without casts
number_of_ends : (u : Updater) (ends : Ends) (axis : Interval) (x x' : ℤ) (o : Option ℤ) → x' ≡ x → u ≡ facing ends axis x' → source_number u axis x' ≡ o → source_number (facing ends axis x) axis x ≡ o
number_of_ends u ends axis x x' o e f g =
    subst (λ (v : ℤ). source_number (facing ends axis v) axis v ≡ o) e (subst (λ (w : Updater). source_number w axis x' ≡ o) f g)

pub source_number-requires-clause-has_source : goal.source_number-requires-clause-has_source
source_number-requires-clause-has_source c =
    rw (c.facing-updater.ensures, same_x c)
    (updater_has_source (shape_of c.args.shape.now) c.args.axis c.args.c.now c.in-Some.faces (interval_of c.axis-numbers.result) c.ends.result c.at-x.result c.in-Some.is
    (record { axis_there = c.axis-numbers.ensures; ends_there = c.ends.ensures; coordinate = c.at-x.ensures }) c.requires.has_source)

pub bounds-coordinates-axis : goal.bounds-coordinates-axis
bounds-coordinates-axis c =
    omega (arith, goes_by_dims (shape_of c.args.shape.now) c.args.axis c.args.c.now c.args.shape.now.valid c.requires.goes_by, c.dims-dims.ensures.value, c.dims-dims.ensures.few)

pub offset_bounds-coordinates-axis : goal.offset_bounds-coordinates-axis
offset_bounds-coordinates-axis c =
    omega (arith, goes_by_dims (shape_of c.args.shape.now) c.args.axis c.args.c.now c.args.shape.now.valid c.requires.goes_by, c.dims-dims.ensures.value, c.dims-dims.ensures.few)

facts : (c : goal.After-front) → HasSource (shape_of c.args.shape.now) c.args.axis c.args.c.now c.source_number.result
facts c =
    source_facts (shape_of c.args.shape.now) c.args.axis c.args.c.now c.in-Some.faces (interval_of c.axis-numbers.result) c.ends.result c.at-x.result c.source_number.result c.args.shape.now.valid c.requires.goes_by c.in-Some.is
    (record { axis_there = c.axis-numbers.ensures; ends_there = c.ends.ensures; coordinate = c.at-x.ensures })
    (number_of_ends c.facing-updater.result c.ends.result (interval_of c.axis-numbers.result) c.at-x.result _ _ (let same : to_z w32 (of_z w32 c.at-x.result) ≡ c.at-x.result = omega (arith, ints) in same) c.facing-updater.ensures c.source_number.ensures)

result_is : (c : goal.After-front) → c.front.result ≡ slice_set c.args.c.now c.args.axis c.source_number.result
result_is c =
    front_is c.args.c.now c.coordinates-coordinates.result c.front.result c.dims-dims.result c.args.axis c.source_number.result c.coordinates-coordinates.ensures c.dims-dims.ensures.value c.dims-dims.ensures.few
    (goes_by_dims (shape_of c.args.shape.now) c.args.axis c.args.c.now c.args.shape.now.valid c.requires.goes_by)
    (c.front.ensures ∙ ap (λ (y : ℤ). take c.dims-dims.result (slice_set c.coordinates-coordinates.result c.args.axis y)) (let same : to_z w32 (of_z w32 c.source_number.result) ≡ c.source_number.result = omega (arith, ints) in same))

pub returns-clause-cell : goal.returns-clause-cell
returns-clause-cell c = (facts c).cell ∙ ap Some (sym (result_is c))

pub returns-clause-inside : goal.returns-clause-inside
returns-clause-inside c = subst (IsIn (inside_from c.args.axis (shape_of c.args.shape.now))) (sym (result_is c)) (facts c).inside

pub returns-clause-total : goal.returns-clause-total
returns-clause-total c = subst (IsIn c.args.shape.now.total) (sym (result_is c)) (facts c).total

pub returns-clause-elsewhere : goal.returns-clause-elsewhere
returns-clause-elsewhere c n other =
    ap (λ (d : List ℤ). slice_get d n) (result_is c) ∙ elsewhere c.args.c.now c.args.axis n c.source_number.result other
