-- The coordinates of a box's cells one by one, and a box whose corners lie in another one.
use Rattle.std.proofs.Common.{refl, ap, arith}
use Rattle.std.proofs.lemmas.Int.{ints}
use Rattle.std.proofs.lemmas.List.Elements.{All-nil, All-cons, All-head, All-tail}
use Rattle.std.proofs.lemmas.Nat.{mul-le}
use Rattle.std.specs.Prelude.{◌≡◌, ℕ, zero, suc, ◌*◌, ◌≤◌, ℤ, Some, List, [], ◌∷◌, length, map, slice_get, All}
use Rattle.pooma_domain.specs.Cells.{Interval, axis_length, cells_of, IsIn, IsAxis, IsBox, IsOrdered}
use Rattle.pooma_domain.proofs.BoxSets.{Holds}
use Rattle.pooma_domain.proofs.CellOrder.{length-cells_of}
use Rattle.pooma_domain.proofs.PaddedBox.{length_of_axis}

pub length_of_cell : (axes : List Interval) (c : List ℤ) → IsIn axes c → length c ≡ length axes
length_of_cell [] [] h = refl
length_of_cell [] (x ∷ xs) h = absurd h
length_of_cell (axis ∷ axes) [] h = absurd h
length_of_cell (axis ∷ axes) (x ∷ xs) h = ap suc (length_of_cell axes xs h.2)

pub coordinate_on_axis : (axes : List Interval) (c : List ℤ) (n : ℕ) (axis : Interval) (x : ℤ) → IsIn axes c → slice_get axes n ≡ Some axis → slice_get c n ≡ Some x → Holds axis x
coordinate_on_axis [] c n axis x h e f = cc
coordinate_on_axis (a ∷ axes) [] n axis x h e f = absurd h
coordinate_on_axis (a ∷ axes) (y ∷ c) zero axis x h e f =
    let on_y : Holds a y = (h.0, h.1) in
    let same_axis : a ≡ axis = cc in
    let same_number : y ≡ x = cc in
    rw (← same_axis, ← same_number) on_y
coordinate_on_axis (a ∷ axes) (y ∷ c) (suc n) axis x h e f = coordinate_on_axis axes c n axis x h.2 e f

pub coordinates_are_cell : (axes : List Interval) (c : List ℤ) → length c ≡ length axes → ((n : ℕ) (axis : Interval) (x : ℤ) → slice_get axes n ≡ Some axis → slice_get c n ≡ Some x → Holds axis x) → IsIn axes c
coordinates_are_cell [] [] e f = tt
coordinates_are_cell [] (x ∷ xs) e f = cc
coordinates_are_cell (axis ∷ axes) [] e f = cc
coordinates_are_cell (axis ∷ axes) (x ∷ xs) e f =
    let here : Holds axis x = f 0 axis x refl refl in
    (here.0, here.1, coordinates_are_cell axes xs (omega arith) (λ n. f (suc n)))

pub cells_within : (inner outer : List Interval) (c : List ℤ) → IsIn outer (map (λ axis. axis.first) inner) → IsIn outer (map (λ axis. axis.last) inner) → IsIn inner c → IsIn outer c
cells_within [] [] c h k i = i
cells_within [] (b ∷ outer) c h k i = absurd h
cells_within (a ∷ inner) [] c h k i = absurd h
cells_within (a ∷ inner) (b ∷ outer) [] h k i = absurd i
cells_within (a ∷ inner) (b ∷ outer) (x ∷ c) h k i =
    (omega (arith, ints, h.0, i.0), omega (arith, ints, k.1, i.1), cells_within inner outer c h.2 k.2 i.2)

axes_within : (inner outer : List Interval) → All IsAxis outer → All IsOrdered inner → IsIn outer (map (λ axis. axis.first) inner) → IsIn outer (map (λ axis. axis.last) inner) → All IsAxis inner
axes_within [] outer v o h k = All-nil IsAxis
axes_within (a ∷ inner) [] v o h k = absurd h
axes_within (a ∷ inner) (b ∷ outer) v o h k =
    let wide : IsAxis b = All-head IsAxis b outer v in
    let ordered : IsOrdered a = All-head IsOrdered a inner o in
    All-cons IsAxis a inner
    (record { ordered = ordered; low = omega (arith, ints, wide.low, h.0); high = omega (arith, ints, wide.high, k.1) })
    (axes_within inner outer (All-tail IsAxis b outer v) (All-tail IsOrdered a inner o) h.2 k.2)

fewer_cells : (inner outer : List Interval) → All IsAxis inner → All IsAxis outer → IsIn outer (map (λ axis. axis.first) inner) → IsIn outer (map (λ axis. axis.last) inner) → length (cells_of inner) ≤ length (cells_of outer)
fewer_cells [] [] v w h k = omega arith
fewer_cells [] (b ∷ outer) v w h k = absurd h
fewer_cells (a ∷ inner) [] v w h k = absurd h
fewer_cells (a ∷ inner) (b ∷ outer) v w h k =
    let short : axis_length a ≤ axis_length b =
    omega (arith, ints, length_of_axis a (All-head IsAxis a inner v), length_of_axis b (All-head IsAxis b outer w), h.0, k.1) in
    let fewer : length (cells_of inner) ≤ length (cells_of outer) =
    fewer_cells inner outer (All-tail IsAxis a inner v) (All-tail IsAxis b outer w) h.2 k.2 in
    let products : axis_length a * length (cells_of inner) ≤ axis_length b * length (cells_of outer) =
    mul-le (axis_length a) (length (cells_of inner)) (axis_length b) (length (cells_of outer)) short fewer in
    omega (arith, products, length-cells_of a inner, length-cells_of b outer)

same_number_of_axes : (inner outer : List Interval) → IsIn outer (map (λ axis. axis.first) inner) → length inner ≡ length outer
same_number_of_axes [] [] h = refl
same_number_of_axes [] (b ∷ outer) h = absurd h
same_number_of_axes (a ∷ inner) [] h = absurd h
same_number_of_axes (a ∷ inner) (b ∷ outer) h = ap suc (same_number_of_axes inner outer h.2)

pub box_within : (inner outer : List Interval) → IsBox outer → All IsOrdered inner → IsIn outer (map (λ axis. axis.first) inner) → IsIn outer (map (λ axis. axis.last) inner) → IsBox inner
box_within inner outer v o h k =
    let whole : All IsAxis inner = axes_within inner outer v.whole o h k in
    record {
      few = omega (arith, v.few, same_number_of_axes inner outer h);
      whole = whole;
      countable = omega (arith, v.countable, fewer_cells inner outer whole v.whole h k);
    }
