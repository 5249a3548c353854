-- A box of three axes, of which those past its dims are 0:0, against the list of its axes.
use Rattle.std.proofs.Common.{refl, sym, ap, ◌∙◌, subst, arith, lit≤, Fits}
use Rattle.std.proofs.lemmas.Int.{ints}
use Rattle.std.proofs.lemmas.List.Elements.{All-nil, All-cons, All-take}
use Rattle.std.proofs.Math.Nat.{mul_comm, le-mul_of_pos_right, mod-eq_of_lt}
use Rattle.std.specs.Int.{w64}
use Rattle.std.specs.Prelude.{◌≡◌, ◌≢◌, ◌↔◌, ℕ, zero, suc, ◌+◌, ◌*◌, ◌/◌, ◌%◌, ◌^◌, ◌<◌, ◌≤◌, ℤ, pos, neg_ℤ, ◌+ℤ◌, ◌-ℤ◌, ◌≤ℤ◌, Some, List, [], ◌∷◌, length, slice_get, take}
use Rattle.pooma_domain.specs.Cells.{Interval, count_of, axis_length, cells_of, IsIn, IsAxis, IsBox}
use Rattle.pooma_domain.specs.Padding.{no_axis, IsPaddedBox, IsPaddedCell, length-padded}
use Rattle.pooma_domain.proofs.BoxSets.{Holds}
use Rattle.pooma_domain.proofs.CellOrder.{place, cell_of, length-cells_of, count_of_from_zero, quotient_below, place_below}

-- the number of cells of all three axes
abbrev pub volume : Interval → Interval → Interval → ℕ
volume x y z = axis_length x * axis_length y * axis_length z

pub length-no_axis : (x : Interval) → x ≡ no_axis → axis_length x ≡ 1
length-no_axis x e = ap axis_length e

pub length-cells-padded : (d : ℕ) (x y z : Interval) → d ≤ 3 → (d ≤ 0 → x ≡ no_axis) → (d ≤ 1 → y ≡ no_axis) → (d ≤ 2 → z ≡ no_axis) → length (cells_of (take d (x ∷ y ∷ z ∷ []))) ≡ volume x y z
length-cells-padded zero x y z few nx ny nz =
    rw (length-no_axis x (nx (lit≤ tt)), length-no_axis y (ny (lit≤ tt)), length-no_axis z (nz (lit≤ tt))) refl
length-cells-padded (suc zero) x y z few nx ny nz =
    length-cells_of x [] ∙ rw (length-no_axis y (ny (lit≤ tt)), length-no_axis z (nz (lit≤ tt))) (omega arith)
length-cells-padded (suc (suc zero)) x y z few nx ny nz =
    length-cells_of x (y ∷ []) ∙ ap (λ n. axis_length x * n) (length-cells_of y []) ∙ rw (length-no_axis z (nz (lit≤ tt))) (omega arith)
length-cells-padded (suc (suc (suc zero))) x y z few nx ny nz =
    length-cells_of x (y ∷ z ∷ [])
    ∙ ap (λ n. axis_length x * n) (length-cells_of y (z ∷ []) ∙ ap (λ n. axis_length y * n) (length-cells_of z []))
    ∙ omega arith
length-cells-padded (suc (suc (suc (suc d)))) x y z few nx ny nz = absurd (omega arith)

pub length-cells-box : (d : ℕ) (x y z : Interval) → IsPaddedBox d x y z → length (cells_of (take d (x ∷ y ∷ z ∷ []))) ≡ volume x y z
length-cells-box d x y z h = length-cells-padded d x y z h.few h.no_x h.no_y h.no_z

pub box_from_padded : (d : ℕ) (x y z : Interval) → IsPaddedBox d x y z → IsBox (take d (x ∷ y ∷ z ∷ []))
box_from_padded d x y z h = record {
  few = rw (length-padded d x y z h.few) h.few;
  whole = All-take IsAxis d (x ∷ y ∷ z ∷ []) (All-cons IsAxis x (y ∷ z ∷ []) h.x_axis (All-cons IsAxis y (z ∷ []) h.y_axis (All-cons IsAxis z [] h.z_axis (All-nil IsAxis))));
  countable = rw (length-cells-box d x y z h) h.countable;
}

pub zero_on_no_axis : (axis : Interval) (x : ℤ) → axis ≡ no_axis → x ≡ pos 0 → Holds axis x
zero_on_no_axis axis x e f = (omega (arith, ints, ap (λ (i : Interval). i.first) e), omega (arith, ints, ap (λ (i : Interval). i.last) e))

pub length_of_axis : (axis : Interval) → IsAxis axis → pos (axis_length axis) ≡ (axis.last -ℤ axis.first) +ℤ pos 1
length_of_axis axis h = count_of_from_zero ((axis.last -ℤ axis.first) +ℤ pos 1) (omega (arith, ints, h.ordered))

pub same_length_in : (axes : List Interval) (c : List ℤ) → IsIn axes c → length axes ≡ length c
same_length_in [] [] h = refl
same_length_in [] (x ∷ xs) h = absurd h
same_length_in (axis ∷ axes) [] h = absurd h
same_length_in (axis ∷ axes) (x ∷ xs) h = ap suc (same_length_in axes xs h.2)

-- a cell of as many coordinates lies in the box where each of three coordinates lies on its axis
pub in_from_three : (d : ℕ) (x y z : Interval) (p q r : ℤ) → d ≤ 3 → Holds x p → Holds y q → Holds z r → IsIn (take d (x ∷ y ∷ z ∷ [])) (take d (p ∷ q ∷ r ∷ []))
in_from_three zero x y z p q r few on_x on_y on_z = tt
in_from_three (suc zero) x y z p q r few on_x on_y on_z = (on_x.0, on_x.1, tt)
in_from_three (suc (suc zero)) x y z p q r few on_x on_y on_z = (on_x.0, on_x.1, (on_y.0, on_y.1, tt))
in_from_three (suc (suc (suc zero))) x y z p q r few on_x on_y on_z = (on_x.0, on_x.1, (on_y.0, on_y.1, (on_z.0, on_z.1, tt)))
in_from_three (suc (suc (suc (suc d)))) x y z p q r few on_x on_y on_z = absurd (omega arith)

pub three_from_in : (d : ℕ) (x y z : Interval) (p q r : ℤ) → d ≤ 3 → (d ≤ 0 → Holds x p) → (d ≤ 1 → Holds y q) → (d ≤ 2 → Holds z r) → IsIn (take d (x ∷ y ∷ z ∷ [])) (take d (p ∷ q ∷ r ∷ [])) → Holds x p × Holds y q × Holds z r
three_from_in zero x y z p q r few nx ny nz h = (nx (lit≤ tt), ny (lit≤ tt), nz (lit≤ tt))
three_from_in (suc zero) x y z p q r few nx ny nz h = ((h.0, h.1), ny (lit≤ tt), nz (lit≤ tt))
three_from_in (suc (suc zero)) x y z p q r few nx ny nz h = ((h.0, h.1), (h.2.0, h.2.1), nz (lit≤ tt))
three_from_in (suc (suc (suc zero))) x y z p q r few nx ny nz h = ((h.0, h.1), (h.2.0, h.2.1), (h.2.2.0, h.2.2.1))
three_from_in (suc (suc (suc (suc d)))) x y z p q r few nx ny nz h = absurd (omega arith)

pub in_padded : (d e : ℕ) (x y z : Interval) (p q r : ℤ) → IsPaddedBox d x y z → IsPaddedCell e p q r → IsIn (take d (x ∷ y ∷ z ∷ [])) (take e (p ∷ q ∷ r ∷ [])) ↔ ((d ≡ e) × Holds x p × Holds y q × Holds z r)
in_padded d e x y z p q r box cell = (
  λ h.
      let same : d ≡ e =
      sym (length-padded d x y z box.few) ∙ same_length_in (take d (x ∷ y ∷ z ∷ [])) (take e (p ∷ q ∷ r ∷ [])) h ∙ length-padded e p q r cell.few in
      let P : ℕ → Type 0 = λ n. IsIn (take d (x ∷ y ∷ z ∷ [])) (take n (p ∷ q ∷ r ∷ [])) in
      let there : IsIn (take d (x ∷ y ∷ z ∷ [])) (take d (p ∷ q ∷ r ∷ [])) = subst P (sym same) h in
      let all : Holds x p × Holds y q × Holds z r =
      three_from_in d x y z p q r box.few
      (λ few. zero_on_no_axis x p (box.no_x few) (cell.no_x (omega arith)))
      (λ few. zero_on_no_axis y q (box.no_y few) (cell.no_y (omega arith)))
      (λ few. zero_on_no_axis z r (box.no_z few) (cell.no_z (omega arith)))
      there in
      (same, all.0, all.1, all.2),
  λ h. let there : IsIn (take d (x ∷ y ∷ z ∷ [])) (take d (p ∷ q ∷ r ∷ [])) = in_from_three d x y z p q r box.few h.1 h.2 h.3 in
      let P : ℕ → Type 0 = λ n. IsIn (take d (x ∷ y ∷ z ∷ [])) (take n (p ∷ q ∷ r ∷ [])) in
      subst P h.0 there,
)

-- what decides one of two facts that stand together decides the other
pub iff_along : {A B C : Type 0} → (C ↔ B) → (A ↔ B) → A ↔ C
iff_along g f = (λ a. g.1 (f.0 a), λ c. f.1 (g.0 c))

-- the axes that a box has are the first ones of three
pub first_axis : {A : Type 0} (d n : ℕ) (x y z : A) → n < length (take d (x ∷ y ∷ z ∷ [])) → n ≡ 0 → slice_get (take d (x ∷ y ∷ z ∷ [])) n ≡ Some x
first_axis zero n x y z h e = absurd (omega arith)
first_axis (suc d) n x y z h e = rw e refl

pub second_axis : {A : Type 0} (d n : ℕ) (x y z : A) → n < length (take d (x ∷ y ∷ z ∷ [])) → n ≡ 1 → slice_get (take d (x ∷ y ∷ z ∷ [])) n ≡ Some y
second_axis zero n x y z h e = absurd (omega arith)
second_axis (suc zero) n x y z h e = absurd (omega arith)
second_axis (suc (suc d)) n x y z h e = rw e refl

pub third_axis : {A : Type 0} (d n : ℕ) (x y z : A) → d ≤ 3 → n < length (take d (x ∷ y ∷ z ∷ [])) → n ≢ 0 → n ≢ 1 → slice_get (take d (x ∷ y ∷ z ∷ [])) n ≡ Some z
third_axis zero n x y z few h ne0 ne1 = absurd (omega arith)
third_axis (suc zero) n x y z few h ne0 ne1 = absurd (omega arith)
third_axis (suc (suc zero)) n x y z few h ne0 ne1 = absurd (omega arith)
third_axis (suc (suc (suc zero))) n x y z few h ne0 ne1 = let e : n ≡ 2 = omega arith in rw e refl
third_axis (suc (suc (suc (suc d)))) n x y z few h ne0 ne1 = absurd (omega arith)

pub box_of_one : (axis : Interval) → IsAxis axis → IsBox (axis ∷ [])
box_of_one axis h = record {
  few = omega arith;
  whole = All-cons IsAxis axis [] h (All-nil IsAxis);
  countable =
      let low : neg_ℤ (pos 4000000) ≤ℤ axis.first = h.low in
      let high : axis.last ≤ℤ pos 4000000 = h.high in
      let short : axis_length axis < 2 ^ 63 = omega (arith, ints, length_of_axis axis h) in
      omega (arith, length-cells_of axis [], short);
}

-- a number of an axis that a box does not have is 0
pub number_of_no_axis : (axis : Interval) (i : ℕ) (p : ℤ) → axis ≡ no_axis → i < axis_length axis → p ≡ axis.first +ℤ pos i → p ≡ pos 0
number_of_no_axis axis i p e h is =
    omega (arith, ints, ap (λ (a : Interval). a.first) e, length-no_axis axis e)

pub volume_parts : (x y z : Interval) (k : ℕ) → k < volume x y z → (k % axis_length x < axis_length x) × (k / axis_length x % axis_length y < axis_length y) × (k / axis_length x / axis_length y < axis_length z)
volume_parts x y z k h =
    let nested : k < axis_length x * (axis_length y * axis_length z) = omega arith in
    let outer : (0 < axis_length x) × (k % axis_length x < axis_length x) × (k / axis_length x < axis_length y * axis_length z) =
    quotient_below (axis_length x) (axis_length y * axis_length z) k nested in
    let inner : (0 < axis_length y) × (k / axis_length x % axis_length y < axis_length y) × (k / axis_length x / axis_length y < axis_length z) =
    quotient_below (axis_length y) (axis_length z) (k / axis_length x) outer.2 in
    (outer.1, inner.1, inner.2)

-- the three numbers that stand at a place, each on its axis, are the cell at that place
pub cell_of-padded : (d : ℕ) (x y z : Interval) (k : ℕ) (p q r : ℤ) → d ≤ 3 → k < volume x y z → p ≡ x.first +ℤ pos (k % axis_length x) → q ≡ y.first +ℤ pos (k / axis_length x % axis_length y) → r ≡ z.first +ℤ pos (k / axis_length x / axis_length y) → take d (p ∷ q ∷ r ∷ []) ≡ cell_of (take d (x ∷ y ∷ z ∷ [])) k
cell_of-padded zero x y z k p q r few h ep eq er = refl
cell_of-padded (suc zero) x y z k p q r few h ep eq er = rw ep refl
cell_of-padded (suc (suc zero)) x y z k p q r few h ep eq er = rw (ep, eq) refl
cell_of-padded (suc (suc (suc zero))) x y z k p q r few h ep eq er =
    let parts : (k % axis_length x < axis_length x) × (k / axis_length x % axis_length y < axis_length y) × (k / axis_length x / axis_length y < axis_length z) = volume_parts x y z k h in
    rw (ep, eq, er, mod-eq_of_lt parts.2) refl
cell_of-padded (suc (suc (suc (suc d)))) x y z k p q r few h ep eq er = absurd (omega arith)

pub padded_cell_at : (d : ℕ) (x y z : Interval) (k a b : ℕ) (p q r : ℤ) → IsPaddedBox d x y z → k < length (cells_of (take d (x ∷ y ∷ z ∷ []))) → a ≡ axis_length x → b ≡ axis_length y → p ≡ x.first +ℤ pos (k % a) → q ≡ y.first +ℤ pos (k / a % b) → r ≡ z.first +ℤ pos (k / a / b) → IsPaddedCell d p q r × (take d (p ∷ q ∷ r ∷ []) ≡ cell_of (take d (x ∷ y ∷ z ∷ [])) k)
padded_cell_at d x y z k a b p q r box h ea eb ep eq er =
    let within : k < volume x y z = rw (← length-cells-box d x y z box) h in
    let ep' : p ≡ x.first +ℤ pos (k % axis_length x) = rw (← ea) ep in
    let eq' : q ≡ y.first +ℤ pos (k / axis_length x % axis_length y) = rw (← ea, ← eb) eq in
    let er' : r ≡ z.first +ℤ pos (k / axis_length x / axis_length y) = rw (← ea, ← eb) er in
    let parts : (k % axis_length x < axis_length x) × (k / axis_length x % axis_length y < axis_length y) × (k / axis_length x / axis_length y < axis_length z) = volume_parts x y z k within in (
      record {
        few = box.few;
        no_x = λ few. number_of_no_axis x (k % axis_length x) p (box.no_x few) parts.0 ep';
        no_y = λ few. number_of_no_axis y (k / axis_length x % axis_length y) q (box.no_y few) parts.1 eq';
        no_z = λ few. number_of_no_axis z (k / axis_length x / axis_length y) r (box.no_z few) parts.2 er';
      },
      cell_of-padded d x y z k p q r box.few within ep' eq' er',
    )

-- the place that three offsets make
abbrev pub place_of_three : Interval → Interval → Interval → ℤ → ℤ → ℤ → ℕ
place_of_three x y z p q r =
    count_of (p -ℤ x.first) + axis_length x * (count_of (q -ℤ y.first) + axis_length y * count_of (r -ℤ z.first))

pub place-padded : (d : ℕ) (x y z : Interval) (p q r : ℤ) → IsPaddedBox d x y z → IsPaddedCell d p q r → place (take d (x ∷ y ∷ z ∷ [])) (take d (p ∷ q ∷ r ∷ [])) ≡ place_of_three x y z p q r
place-padded zero x y z p q r box cell =
    rw (box.no_x (lit≤ tt), box.no_y (lit≤ tt), box.no_z (lit≤ tt), cell.no_x (lit≤ tt), cell.no_y (lit≤ tt), cell.no_z (lit≤ tt)) refl
place-padded (suc zero) x y z p q r box cell =
    rw (box.no_y (lit≤ tt), box.no_z (lit≤ tt), cell.no_y (lit≤ tt), cell.no_z (lit≤ tt)) refl
place-padded (suc (suc zero)) x y z p q r box cell =
    rw (box.no_z (lit≤ tt), cell.no_z (lit≤ tt)) refl
place-padded (suc (suc (suc zero))) x y z p q r box cell =
    let flat : axis_length z * 0 ≡ 0 = omega arith in
    let last : count_of (r -ℤ z.first) + axis_length z * 0 ≡ count_of (r -ℤ z.first) = omega arith in
    rw last refl
place-padded (suc (suc (suc (suc d)))) x y z p q r box cell = absurd (let few : suc (suc (suc (suc d))) ≤ 3 = box.few in omega arith)

pub dims_of_inside : (d e : ℕ) (x y z : Interval) (p q r : ℤ) → IsPaddedBox d x y z → IsPaddedCell e p q r → IsIn (take d (x ∷ y ∷ z ∷ [])) (take e (p ∷ q ∷ r ∷ [])) → d ≡ e
dims_of_inside d e x y z p q r box cell h = ((in_padded d e x y z p q r box cell).0 h).0

-- the place of a cell in the box, by its three offsets
pub padded_place : (d e : ℕ) (x y z : Interval) (p q r : ℤ) (a b u v w : ℕ) → IsPaddedBox d x y z → IsPaddedCell e p q r → IsIn (take d (x ∷ y ∷ z ∷ [])) (take e (p ∷ q ∷ r ∷ [])) → a ≡ axis_length x → b ≡ axis_length y → pos u ≡ p -ℤ x.first → pos v ≡ q -ℤ y.first → pos w ≡ r -ℤ z.first → u + a * (v + b * w) ≡ place (take d (x ∷ y ∷ z ∷ [])) (take e (p ∷ q ∷ r ∷ []))
padded_place d e x y z p q r a b u v w box cell h ea eb eu ev ew =
    let same : d ≡ e = dims_of_inside d e x y z p q r box cell h in
    let Cell : ℕ → Type 0 = λ n. IsPaddedCell n p q r in
    let Place : ℕ → Type 0 = λ n. u + a * (v + b * w) ≡ place (take d (x ∷ y ∷ z ∷ [])) (take n (p ∷ q ∷ r ∷ [])) in
    let is : place (take d (x ∷ y ∷ z ∷ [])) (take d (p ∷ q ∷ r ∷ [])) ≡ place_of_three x y z p q r =
    place-padded d x y z p q r box (subst Cell (sym same) cell) in
    subst Place same (rw (is, ← eu, ← ev, ← ew, ea, eb) refl)

-- that sum and its steps fit
pub placed : (d e : ℕ) (x y z : Interval) (p q r : ℤ) (a b u v w : ℕ) → IsPaddedBox d x y z → IsPaddedCell e p q r → IsIn (take d (x ∷ y ∷ z ∷ [])) (take e (p ∷ q ∷ r ∷ [])) → a ≡ axis_length x → b ≡ axis_length y → pos u ≡ p -ℤ x.first → pos v ≡ q -ℤ y.first → pos w ≡ r -ℤ z.first → (u + a * (v + b * w) ≡ place (take d (x ∷ y ∷ z ∷ [])) (take e (p ∷ q ∷ r ∷ []))) × Fits w64 (b * w) × Fits w64 (v + b * w) × Fits w64 (a * (v + b * w)) × Fits w64 (u + a * (v + b * w))
placed d e x y z p q r a b u v w box cell h ea eb eu ev ew =
    let axes : List Interval = take d (x ∷ y ∷ z ∷ []) in
    let cells : List ℤ = take e (p ∷ q ∷ r ∷ []) in
    let is : u + a * (v + b * w) ≡ place axes cells = padded_place d e x y z p q r a b u v w box cell h ea eb eu ev ew in
    let all : u + a * (v + b * w) < 2 ^ 63 =
    let below : place axes cells < length (cells_of axes) = place_below axes cells h in
    omega (arith, below, is, (box_from_padded d x y z box).countable) in
    let some : 0 < a = omega (arith, ints, ea, length_of_axis x box.x_axis, box.x_axis.ordered) in
    let wide : v + b * w ≤ (v + b * w) * a = le-mul_of_pos_right (v + b * w) some in
    let turned : (v + b * w) * a ≡ a * (v + b * w) = mul_comm (v + b * w) a in
    (is, omega arith, omega arith, omega arith, omega arith)

-- the steps before the offset on the first axis is known
pub rounds_fit : (d e : ℕ) (x y z : Interval) (p q r : ℤ) (b v w : ℕ) → IsPaddedBox d x y z → IsPaddedCell e p q r → IsIn (take d (x ∷ y ∷ z ∷ [])) (take e (p ∷ q ∷ r ∷ [])) → b ≡ axis_length y → pos v ≡ q -ℤ y.first → pos w ≡ r -ℤ z.first → Fits w64 (b * w) × Fits w64 (v + b * w)
rounds_fit d e x y z p q r b v w box cell h eb ev ew =
    let on_x : Holds x p = ((in_padded d e x y z p q r box cell).0 h).1 in
    let offset : pos (count_of (p -ℤ x.first)) ≡ p -ℤ x.first = count_of_from_zero (p -ℤ x.first) (omega (arith, ints, on_x.0)) in
    let all = placed d e x y z p q r (axis_length x) b (count_of (p -ℤ x.first)) v w box cell h refl eb offset ev ew in
    (all.1, all.2)
