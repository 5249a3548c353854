-- The shape of an array over a layout.
use Rattle.std.proofs.Common.{◌≡◌, ℕ, zero, suc, ◌*◌, List, [], ◌∷◌, length, Option, Some, refl, ap, arith}
use Rattle.std.proofs.lemmas.Int.{ints}
use Rattle.std.proofs.lemmas.List.Elements.{All-head, All-tail}
use Rattle.std.specs.Option.{ForSome}
use Rattle.std.specs.Prelude.{All, slice_get}
use Rattle.pooma_domain.specs.Cells.{Interval}
use Rattle.pooma_field.specs.Faces.{by_axis}
use Rattle.pooma_field.specs.Shapes.{IsAround, IsShape}
use Rattle.pooma_field.specs.declared.faces.Ends.{Ends}
use Rattle.pooma_field.specs.declared.updaters.Updater.{Updater}
use Rattle.pooma_layout.specs.Axes.{CutAxis, IsCutAxis, total_axis}
use Rattle.pooma_layout.specs.Patches.{physical_of, total_of}
use Rattle.pooma_script.specs.Layouts.{shape_on}

as_long : (layout : List CutAxis) → length (total_of layout) ≡ length (physical_of layout)
as_long [] = refl
as_long (axis ∷ layout) = ap (λ n. suc n) (as_long layout)

around_axis : (axis : CutAxis) → IsCutAxis axis → IsAround axis.physical (total_axis axis)
around_axis axis h = record {
  low = omega (arith, ints, h.external_depth.low);
  high = omega (arith, ints, h.external_depth.low);
  few_low = omega (arith, ints, h.covering);
  few_high = omega (arith, ints, h.covering);
}

around_each : (layout : List CutAxis) → All IsCutAxis layout → (n : ℕ) (p t : Interval) → slice_get (physical_of layout) n ≡ Some p → slice_get (total_of layout) n ≡ Some t → IsAround p t
around_each [] valid zero p t is are = cc
around_each [] valid (suc n) p t is are = cc
around_each (axis ∷ layout) valid zero p t is are =
    let same : axis.physical ≡ p = cc in
    let both : total_axis axis ≡ t = cc in
    rw (← same, ← both) (around_axis axis (All-head IsCutAxis axis layout valid))
around_each (axis ∷ layout) valid (suc n) p t is are = around_each layout (All-tail IsCutAxis axis layout valid) n p t is are

-- a layout, with two updaters for each axis or none, gives a shape
pub shape_over : (layout : List CutAxis) (faces : Option (List Ends)) → All IsCutAxis layout
    → ForSome faces (λ given. length given ≡ length (physical_of layout)) → IsShape (shape_on layout faces)
shape_over layout faces valid faced = record { same_dims = as_long layout; around = around_each layout valid; faced = faced }

-- two updaters for each axis
pub by_axis_length : (updaters : List Updater) (n : ℕ) → length updaters ≡ 2 * n → length (by_axis updaters) ≡ n
by_axis_length [] n is = omega (arith, is)
by_axis_length (low ∷ []) n is = absurd (omega (arith, is))
by_axis_length (low ∷ high ∷ updaters) zero is = absurd (omega (arith, is))
by_axis_length (low ∷ high ∷ updaters) (suc n) is = ap (λ k. suc k) (by_axis_length updaters n (omega (arith, is)))
