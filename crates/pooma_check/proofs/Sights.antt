-- What a sound statement reads can be seen at its positions.
use Rattle.std.proofs.Common.{◌≡◌, ℕ, ◌*◌, ◌≤◌, ℤ, pos, negsuc, ◌-ℤ◌, ◌+ℤ◌, ◌≤ℤ◌, List, [], ◌∷◌, length, None, Some, refl, sym, ap, subst, ◌∙◌, arith}
use Rattle.std.proofs.Math.Nat.{mul-le-mul_left, mul-le-mul_right}
use Rattle.std.proofs.lemmas.Int.{ints}
use Rattle.std.proofs.lemmas.List.Elements.{All-cons, All-head, All-nil, All-tail}
use Rattle.std.specs.Prelude.{All, slice_index_or}
use Rattle.pooma_domain.specs.Cells.{Interval, IsBox, IsIn, axis_length, cells_of, count_of, interval}
use Rattle.pooma_domain.specs.Operations.{each_of, moved}
use Rattle.pooma_view.specs.Slots.{places, positions_of}
use Rattle.pooma_view.specs.Views.{Viewed}
use Rattle.pooma_view.specs.declared.slots.Slot.{Slot}
use Rattle.pooma_view.specs.declared.slots.Slot.TheVariants.{Fixed, Along}
use Rattle.pooma_expr.specs.Trees.{views_of}
use Rattle.pooma_stencil.specs.Expansions.{IsPartOf, expansion, positions_on}
use Rattle.pooma_stencil.specs.Stencils.{IsExtent, IsStencil, Stenciled, result_positions}
use Rattle.pooma_model.specs.Declarations.{Declared, shape_at}
use Rattle.pooma_model.specs.Fit.{AreFew, IsReadable, LiesIn}
use Rattle.pooma_check.specs.Seen.{CanSee, IsSeenAt}

abbrev FromZero : Interval → Type 0
FromZero axis = axis.first ≡ pos 0

-- the positions of slots are counted from 0
from_zero : (slots : List Slot) → All FromZero (positions_of slots)
from_zero [] = All-nil FromZero
from_zero (Fixed x ∷ slots) = from_zero slots
from_zero (Along s ∷ slots) = All-cons FromZero (places s) (positions_of slots) refl (from_zero slots)

-- and so are those that extents leave
left_from_zero : (axes : List Interval) (extents : List ℤ) → All FromZero axes → All FromZero (each_of (λ axis n. interval axis.first (axis.last -ℤ n)) axes extents)
left_from_zero [] extents h = All-nil FromZero
left_from_zero (axis ∷ axes) [] h = All-nil FromZero
left_from_zero (axis ∷ axes) (n ∷ extents) h =
    All-cons FromZero (interval axis.first (axis.last -ℤ n)) (each_of (λ a m. interval a.first (a.last -ℤ m)) axes extents) (All-head FromZero axis axes h)
    (left_from_zero axes extents (All-tail FromZero axis axes h))

-- a part of a view may be read at its positions
part_seen : (declared : Declared) (whole v : Viewed) (axes : List Interval) → IsReadable declared whole → IsPartOf whole axes v → IsSeenAt declared axes v
part_seen declared whole v axes readable part = record {
  readable = subst (λ n. LiesIn declared (shape_at declared n).total (record { array = n; slots = v.slots })) (sym part.array) (record {
    there = readable.there;
    slots = part.slots ∙ readable.slots;
    cells = λ p inside.
        let at = part.cells p (subst (λ b. IsIn b p) part.positions inside) in
        subst (IsIn (shape_at declared whole.array).total) (sym at.2) (readable.cells at.0 at.1);
  });
  places = part.positions;
}

-- a view without a stencil
pub see_whole : (declared : Declared) (view : Viewed) (positions : List Interval) → IsReadable declared view → positions_of view.slots ≡ positions → AreFew (positions_of view.slots)
    → CanSee declared (record { stencil = None; view = view; positions = positions })
see_whole declared view positions readable places few = record {
  views = All-cons (IsSeenAt declared positions) view [] (record { readable = readable; places = places }) (All-nil (IsSeenAt declared positions));
  few = subst AreFew places few;
  from_zero = subst (All FromZero) places (from_zero view.slots);
}

-- a stencil on a view
pub see_parts : (declared : Declared) (s : Stenciled) (view : Viewed) (positions : List Interval) → IsReadable declared view → positions_of view.slots ≡ positions
    → All (IsPartOf view (positions_on s view)) (views_of (expansion s view)) → AreFew (positions_on s view)
    → CanSee declared (record { stencil = Some s; view = view; positions = positions })
see_parts declared s view positions readable places parts few =
    let left : positions_on s view ≡ result_positions s positions = ap (result_positions s) places in record {
      views = λ k d below. part_seen declared view (slice_index_or (views_of (expansion s view)) k d) (result_positions s positions) readable
          (subst (λ axes. IsPartOf view axes (slice_index_or (views_of (expansion s view)) k d)) left (parts k d below));
      few = subst AreFew left few;
      from_zero = left_from_zero positions (moved s.lower s.upper) (subst (All FromZero) places (from_zero view.slots));
    }

product_le : (a b m n : ℕ) → a ≤ m → b ≤ n → a * b ≤ m * n
product_le a b m n h k = omega (arith, mul-le-mul_right b h, mul-le-mul_left m k)

count_le : (x y : ℤ) → x ≤ℤ y → count_of x ≤ count_of y
count_le (pos n) (pos m) h = omega (arith, ints)
count_le (pos n) (negsuc m) h = absurd (omega (arith, ints))
count_le (negsuc n) y h = omega arith

module _ (counted : (axis : Interval) (axes : List Interval) → length (cells_of (axis ∷ axes)) ≡ axis_length axis * length (cells_of axes)) where
  -- extents leave no more cells than there are
  fewer_cells : (axes : List Interval) (extents : List ℤ) → length axes ≡ length extents → All (λ n. pos 0 ≤ℤ n) extents
      → length (cells_of (each_of (λ axis n. interval axis.first (axis.last -ℤ n)) axes extents)) ≤ length (cells_of axes)
  fewer_cells [] extents same h = omega arith
  fewer_cells (axis ∷ axes) [] same h = absurd (omega (arith, same))
  fewer_cells (axis ∷ axes) (n ∷ extents) same h =
      let less = fewer_cells axes extents (omega (arith, same)) (All-tail (λ m. pos 0 ≤ℤ m) n extents h) in
      let here = All-head (λ m. pos 0 ≤ℤ m) n extents h in
      let shorter : axis_length (interval axis.first (axis.last -ℤ n)) ≤ axis_length axis =
      count_le (((axis.last -ℤ n) -ℤ axis.first) +ℤ pos 1) ((axis.last -ℤ axis.first) +ℤ pos 1) (omega (arith, ints, here)) in
      let old = counted axis axes in
      let new = counted (interval axis.first (axis.last -ℤ n)) (each_of (λ a m. interval a.first (a.last -ℤ m)) axes extents) in
      omega (arith, old, new, product_le _ _ _ _ shorter less)

  extents_up : (lower upper : List ℤ) → All IsExtent lower → All IsExtent upper → All (λ n. pos 0 ≤ℤ n) (moved lower upper)
  extents_up [] upper h k = All-nil (λ n. pos 0 ≤ℤ n)
  extents_up (l ∷ lower) [] h k = All-nil (λ n. pos 0 ≤ℤ n)
  extents_up (l ∷ lower) (u ∷ upper) h k =
      let a = All-head IsExtent l lower h in let b = All-head IsExtent u upper k in
      All-cons (λ n. pos 0 ≤ℤ n) (l +ℤ u) (moved lower upper) (omega (arith, ints, a.0, b.0)) (extents_up lower upper (All-tail IsExtent l lower h) (All-tail IsExtent u upper k))

  moved_long : (lower upper : List ℤ) → length upper ≡ length lower → length (moved lower upper) ≡ length lower
  moved_long [] upper is = refl
  moved_long (l ∷ lower) [] is = absurd (omega (arith, is))
  moved_long (l ∷ lower) (u ∷ upper) is = let h = moved_long lower upper (omega (arith, is)) in omega (arith, h)

  -- the positions of a stencil's result are as few
  pub few_left : (s : Stenciled) (axes : List Interval) → IsStencil s → length s.lower ≡ length axes → AreFew axes → IsBox (result_positions s axes) → AreFew (result_positions s axes)
  few_left s axes valid same few box =
      let long = moved_long s.lower s.upper valid.paired in
      let less = fewer_cells axes (moved s.lower s.upper) (omega (arith, same, long)) (extents_up s.lower s.upper valid.low valid.high) in
      record { box = box; few = let most = few.few in omega (arith, less, most) }
