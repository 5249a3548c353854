use Rattle.std.proofs.Common.{◌≡◌, ◌∙◌, refl, sym, ap, ℕ, ◌+◌, Some, List, [], ◌∷◌, ◌++◌, length, map, slice_get, take, arith}
use Rattle.std.proofs.Math.Seq.{take-length}
use Rattle.std.proofs.lemmas.List.{map-append}
use Rattle.pooma_field.specs.declared.shapes.Shape.{Shape}
use Rattle.pooma_field.specs.ShapeOf.{shape_of}
use Rattle.pooma_field.specs.Shapes.{Shaped}
use Rattle.pooma_fill.specs.Marks.{Staled, first_mark}
use Rattle.pooma_model.specs.Order.{Programmed}
use Rattle.pooma_run.proofs.Lists.{take_next}
use Rattle.pooma_run.specs.Plan.{IsOpening}
use Rattle.pooma_run.proofs.driver.arrays_have_shapes.Goals as goal

one_more : (declared : List Shaped) (k : ℕ) (shape : Shape) → slice_get declared k ≡ Some (shape_of shape)
    → (shapes : List Shape) × (map shape_of shapes ≡ take k declared) → (shapes : List Shape) × (map shape_of shapes ≡ take (k + 1) declared)
one_more declared k shape at some = (
  some.0 ++ shape ∷ [],
  map-append shape_of some.0 (shape ∷ []) ∙ (ap (λ (ss : List Shaped). ss ++ shape_of shape ∷ []) some.1 ∙ sym (take_next declared k (shape_of shape) at)),
)

all_of : (program : Programmed) (n : ℕ) → n ≡ length program.declared.shapes
    → (shapes : List Shape) × (map shape_of shapes ≡ take n program.declared.shapes) → (stale : Staled) × IsOpening program stale
all_of program n is some =
    let whole : map shape_of some.0 ≡ program.declared.shapes = some.1 ∙ (ap (λ k. take k program.declared.shapes) is ∙ take-length program.declared.shapes) in (
      record { shapes = some.0; layouts = program.declared.layouts; marks = map first_mark some.0; scalars = program.declared.scalars },
      record {
        declared = ap (λ (ss : List Shaped). record { shapes = ss; layouts = program.declared.layouts; scalars = program.declared.scalars }) whole;
        marks = refl;
      },
    )

pub arrays-preserved : goal.arrays-preserved
arrays-preserved c = one_more _ _ c.shape-shape.result.now c.shape-shape.ensures c.arrays.invariant

pub returns : goal.returns
returns c = all_of _ _ (omega arith) c.arrays.invariant
