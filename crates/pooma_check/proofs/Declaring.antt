-- What a program declares of an array that is there.
use Rattle.std.proofs.Common.{◌≡◌, ℕ, zero, suc, ◌≤◌, List, [], ◌∷◌, length, Some, refl, sym, ap, subst, ◌∙◌, arith}
use Rattle.std.proofs.lemmas.Int.{ints}
use Rattle.std.proofs.lemmas.List.{length-map}
use Rattle.std.proofs.lemmas.List.Elements.{All-cons, All-head, All-nil, All-tail}
use Rattle.std.specs.List.{AllZip}
use Rattle.std.specs.Prelude.{All, map, slice_get}
use Rattle.pooma_domain.specs.Cells.{Interval}
use Rattle.pooma_field.specs.Shapes.{Shaped}
use Rattle.pooma_layout.specs.Axes.{CutAxis, IsCutAxis, total_axis}
use Rattle.pooma_layout.specs.Patches.{IsLayout, physical_of, total_of}
use Rattle.pooma_model.specs.Declarations.{Declared, IsArray, IsDeclaring}
use Rattle.pooma_view.specs.declared.slots.Slot.{Slot}
use Rattle.pooma_parse.specs.declared.form.RawSub.{RawSub}
use Rattle.pooma_script.specs.Views.{slot_of}
use Rattle.pooma_check.specs.Readings.{IsNearby, IsShapeThere}

array_at : (shapes : List Shaped) (layouts : List (List CutAxis)) (n : ℕ) (shape : Shaped) (layout : List CutAxis) → AllZip IsArray shapes layouts
    → slice_get shapes n ≡ Some shape → slice_get layouts n ≡ Some layout → IsArray shape layout
array_at [] [] n shape layout all a b = cc
array_at [] (l ∷ layouts) n shape layout all a b = absurd all
array_at (s ∷ shapes) [] n shape layout all a b = absurd all
array_at (s ∷ shapes) (l ∷ layouts) zero shape layout all a b =
    let first : s ≡ shape = cc in
    let second : l ≡ layout = cc in rw (← first, ← second) all.0
array_at (s ∷ shapes) (l ∷ layouts) (suc n) shape layout all a b = array_at shapes layouts n shape layout all.1 a b

nearby_axis : (axis : CutAxis) → IsCutAxis axis → IsNearby (total_axis axis)
nearby_axis axis h = record {
  low = omega (arith, ints, h.near.low, h.external_depth.high);
  high = omega (arith, ints, h.near.high, h.external_depth.high);
}

nearby_total : (layout : List CutAxis) → All IsCutAxis layout → All IsNearby (total_of layout)
nearby_total [] all = All-nil IsNearby
nearby_total (axis ∷ layout) all =
    All-cons IsNearby (total_axis axis) (total_of layout) (nearby_axis axis (All-head IsCutAxis axis layout all))
    (nearby_total layout (All-tail IsCutAxis axis layout all))

as_many_in_total : (layout : List CutAxis) → length (total_of layout) ≡ length layout
as_many_in_total [] = refl
as_many_in_total (axis ∷ layout) = ap (λ n. suc n) (as_many_in_total layout)

as_many : (layout : List CutAxis) → length (physical_of layout) ≡ length layout
as_many [] = refl
as_many (axis ∷ layout) = ap (λ n. suc n) (as_many layout)

pub shape_there : (declared : Declared) (n : ℕ) (shape : Shaped) (layout : List CutAxis) → IsDeclaring declared → IsLayout layout
    → slice_get declared.shapes n ≡ Some shape → slice_get declared.layouts n ≡ Some layout → IsShapeThere shape
shape_there declared n shape layout all valid a b =
    let array = array_at declared.shapes declared.layouts n shape layout all.arrays a b in
    let axes : length shape.physical ≡ length layout = ap length (sym array.physical) ∙ as_many layout in
    let whole : length shape.total ≡ length layout = ap length (sym array.total) ∙ as_many_in_total layout in record {
      some = omega (arith, axes, valid.some);
      few_axes = omega (arith, axes, valid.few_axes);
      same = whole ∙ sym axes;
      few_cells = array.few_cells;
      near = subst (All IsNearby) array.total (nearby_total layout valid.axes);
    }

-- as many SUBs as an array has axes are few
pub subs_few : (subs : List RawSub) (slots : List Slot) (shape : Shaped) (axes : List Interval) → map slot_of subs ≡ slots → length slots ≡ length axes
    → shape.physical ≡ axes → IsShapeThere shape → length subs ≤ 3
subs_few subs slots shape axes e f g there =
    omega (arith, length-map subs slot_of, ap length e, f, ap length g, there.few_axes)
