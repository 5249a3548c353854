-- What is made of boxes of three axes, of which those past their dims are 0:0.
use Rattle.std.proofs.Common.{refl, sym, ap, ◌∙◌, subst, arith, lit≤}
use Rattle.std.proofs.lemmas.Int.{ints, clamps}
use Rattle.std.proofs.lemmas.List.Elements.{All-head, All-tail, All-cons, All-nil, All-take, All-weaker}
use Rattle.std.proofs.lemmas.Nat.{mul-le}
use Rattle.std.proofs.Math.Nat.{mul_comm, mul-pos, le-mul_of_pos_right, le-div_iff_mul-le}
use Rattle.std.specs.Prelude.{◌+◌, ◌≡◌, ◌≢◌, ◌↔◌, ℕ, zero, suc, ◌-◌, ◌*◌, ◌/◌, ◌^◌, ◌<◌, ◌≤◌, ℤ, pos, ◌+ℤ◌, ◌-ℤ◌, ◌≤ℤ◌, Some, All, List, [], ◌∷◌, length, map, slice_get, slice_set, take}
use Rattle.pooma_domain.specs.Cells.{Interval, interval, axis_length, IsIn, IsOrdered, IsAxis, IsBox}
use Rattle.pooma_domain.specs.Operations.{each_of, common, common_axes, shifted, shifted_axis, reach, reaches, grown, grown_axis, HaveCommonCell}
use Rattle.pooma_domain.specs.Padding.{no_axis, IsPaddedBox, IsPaddedCell, length-padded}
use Rattle.pooma_domain.proofs.BoxSets.{common_axes_meet}
use Rattle.pooma_domain.proofs.PaddedBox.{volume, length-cells-padded, length_of_axis, box_from_padded, first_axis, second_axis, third_axis}

pub same_interval : (a b : Interval) → a.first ≡ b.first → a.last ≡ b.last → a ≡ b
same_interval a b e f = ap (λ v. interval v a.last) e ∙ ap (λ v. interval b.first v) f

-- the first interval has numbers, and all lie in the second
pub record IsWithin (a b : Interval) : Type 0 where
  pub ordered : a.first ≤ℤ a.last
  pub low : b.first ≤ℤ a.first
  pub high : a.last ≤ℤ b.last

pub within_no_axis : (a b : Interval) → IsWithin a b → b ≡ no_axis → a ≡ no_axis
within_no_axis a b h e =
    let first : b.first ≡ pos 0 = ap (λ (i : Interval). i.first) e in
    let last : b.last ≡ pos 0 = ap (λ (i : Interval). i.last) e in
    same_interval a no_axis (omega (arith, ints, h.ordered, h.low, h.high)) (omega (arith, ints, h.ordered, h.low, h.high))

pub within_axis_is : (a b : Interval) → IsWithin a b → IsAxis b → IsAxis a
within_axis_is a b h k = record {
  ordered = h.ordered;
  low = omega (arith, ints, h.low, k.low);
  high = omega (arith, ints, h.high, k.high);
}

pub within_length : (a b : Interval) → IsWithin a b → IsAxis b → axis_length a ≤ axis_length b
within_length a b h k =
    omega (arith, ints, length_of_axis a (within_axis_is a b h k), length_of_axis b k, h.low, h.high)

-- a box that is narrowed on its axes is a box
pub narrowed_box : (d : ℕ) (x y z x' y' z' : Interval) → IsPaddedBox d x y z → IsWithin x' x → IsWithin y' y → IsWithin z' z → IsPaddedBox d x' y' z'
narrowed_box d x y z x' y' z' box hx hy hz =
    let small : volume x' y' z' ≤ volume x y z =
    mul-le (axis_length x' * axis_length y') (axis_length z') (axis_length x * axis_length y) (axis_length z)
    (mul-le (axis_length x') (axis_length y') (axis_length x) (axis_length y) (within_length x' x hx box.x_axis) (within_length y' y hy box.y_axis))
    (within_length z' z hz box.z_axis) in
    record {
      few = box.few;
      no_x = λ h. within_no_axis x' x hx (box.no_x h);
      no_y = λ h. within_no_axis y' y hy (box.no_y h);
      no_z = λ h. within_no_axis z' z hz (box.no_z h);
      x_axis = within_axis_is x' x hx box.x_axis;
      y_axis = within_axis_is y' y hy box.y_axis;
      z_axis = within_axis_is z' z hz box.z_axis;
      countable = omega (arith, small, box.countable);
    }

pub no_axis_is : IsAxis no_axis
no_axis_is = record { ordered = omega (arith, ints); low = omega (arith, ints); high = omega (arith, ints) }

pub is_axis_if_none : (x : Interval) → x ≡ no_axis → IsAxis x
is_axis_if_none x e = subst IsAxis (sym e) no_axis_is

-- three axes whose front is a box, and of which the others are 0:0, are kept as that box
pub padded_from_box : (d : ℕ) (x y z : Interval) → d ≤ 3 → (d ≤ 0 → x ≡ no_axis) → (d ≤ 1 → y ≡ no_axis) → (d ≤ 2 → z ≡ no_axis) → IsBox (take d (x ∷ y ∷ z ∷ [])) → IsPaddedBox d x y z
padded_from_box d x y z few nx ny nz box =
    let axes : IsAxis x × IsAxis y × IsAxis z = three_axes d x y z few nx ny nz box.whole in
    record {
      few = few;
      no_x = nx;
      no_y = ny;
      no_z = nz;
      x_axis = axes.0;
      y_axis = axes.1;
      z_axis = axes.2;
      countable = rw (← length-cells-padded d x y z few nx ny nz) box.countable;
    }
  where
    three_axes : (d : ℕ) (x y z : Interval) → d ≤ 3 → (d ≤ 0 → x ≡ no_axis) → (d ≤ 1 → y ≡ no_axis) → (d ≤ 2 → z ≡ no_axis) → All IsAxis (take d (x ∷ y ∷ z ∷ [])) → IsAxis x × IsAxis y × IsAxis z
    three_axes zero x y z few nx ny nz all =
        (is_axis_if_none x (nx (lit≤ tt)), is_axis_if_none y (ny (lit≤ tt)), is_axis_if_none z (nz (lit≤ tt)))
    three_axes (suc zero) x y z few nx ny nz all =
        (All-head IsAxis x [] all, is_axis_if_none y (ny (lit≤ tt)), is_axis_if_none z (nz (lit≤ tt)))
    three_axes (suc (suc zero)) x y z few nx ny nz all =
        (All-head IsAxis x (y ∷ []) all, All-head IsAxis y [] (All-tail IsAxis x (y ∷ []) all), is_axis_if_none z (nz (lit≤ tt)))
    three_axes (suc (suc (suc zero))) x y z few nx ny nz all =
        let rest : All IsAxis (y ∷ z ∷ []) = All-tail IsAxis x (y ∷ z ∷ []) all in
        (All-head IsAxis x (y ∷ z ∷ []) all, All-head IsAxis y (z ∷ []) rest, All-head IsAxis z [] (All-tail IsAxis y (z ∷ []) rest))
    three_axes (suc (suc (suc (suc d)))) x y z few nx ny nz all = absurd (omega arith)

-- an operation on each axis goes on in the front of three
pub each_of-three : {A B C : Type 0} (f : A → B → C) → (d : ℕ) (x y z : A) (p q r : B) → each_of f (take d (x ∷ y ∷ z ∷ [])) (take d (p ∷ q ∷ r ∷ [])) ≡ take d (f x p ∷ f y q ∷ f z r ∷ [])
each_of-three f zero x y z p q r = refl
each_of-three f (suc zero) x y z p q r = refl
each_of-three f (suc (suc zero)) x y z p q r = refl
each_of-three f (suc (suc (suc zero))) x y z p q r = refl
each_of-three f (suc (suc (suc (suc d)))) x y z p q r = refl

-- a box of axes that hold a cell has numbers on each axis
pub ordered_three : (d : ℕ) (x y z : Interval) (c : List ℤ) → d ≤ 3 → (d ≤ 0 → IsOrdered x) → (d ≤ 1 → IsOrdered y) → (d ≤ 2 → IsOrdered z) → IsIn (take d (x ∷ y ∷ z ∷ [])) c → IsOrdered x × IsOrdered y × IsOrdered z
ordered_three zero x y z c few nx ny nz h = (nx (lit≤ tt), ny (lit≤ tt), nz (lit≤ tt))
ordered_three (suc zero) x y z [] few nx ny nz h = absurd h
ordered_three (suc zero) x y z (p ∷ ps) few nx ny nz h = (omega (arith, ints, h.0, h.1), ny (lit≤ tt), nz (lit≤ tt))
ordered_three (suc (suc zero)) x y z [] few nx ny nz h = absurd h
ordered_three (suc (suc zero)) x y z (p ∷ []) few nx ny nz h = absurd h.2
ordered_three (suc (suc zero)) x y z (p ∷ q ∷ ps) few nx ny nz h =
    (omega (arith, ints, h.0, h.1), omega (arith, ints, h.2.0, h.2.1), nz (lit≤ tt))
ordered_three (suc (suc (suc zero))) x y z [] few nx ny nz h = absurd h
ordered_three (suc (suc (suc zero))) x y z (p ∷ []) few nx ny nz h = absurd h.2
ordered_three (suc (suc (suc zero))) x y z (p ∷ q ∷ []) few nx ny nz h = absurd h.2.2
ordered_three (suc (suc (suc zero))) x y z (p ∷ q ∷ r ∷ ps) few nx ny nz h =
    (omega (arith, ints, h.0, h.1), omega (arith, ints, h.2.0, h.2.1), omega (arith, ints, h.2.2.0, h.2.2.1))
ordered_three (suc (suc (suc (suc d)))) x y z c few nx ny nz h = absurd (omega arith)

-- a box moved on its axes
pub shifted-three : (d e : ℕ) (x y z : Interval) (p q r : ℤ) → d ≡ e → shifted (take d (x ∷ y ∷ z ∷ [])) (take e (p ∷ q ∷ r ∷ [])) ≡ take d (shifted_axis x p ∷ shifted_axis y q ∷ shifted_axis z r ∷ [])
shifted-three d e x y z p q r same =
    ap (λ n. shifted (take d (x ∷ y ∷ z ∷ [])) (take n (p ∷ q ∷ r ∷ []))) (sym same) ∙ each_of-three shifted_axis d x y z p q r

no_shift : (x : Interval) (p : ℤ) → x ≡ no_axis → p ≡ pos 0 → shifted_axis x p ≡ no_axis
no_shift x p e f = rw (e, f) refl

pub shifted_box : (d e : ℕ) (x y z : Interval) (p q r : ℤ) → d ≡ e → IsPaddedBox d x y z → IsPaddedCell e p q r → IsBox (shifted (take d (x ∷ y ∷ z ∷ [])) (take e (p ∷ q ∷ r ∷ []))) → IsPaddedBox d (shifted_axis x p) (shifted_axis y q) (shifted_axis z r)
shifted_box d e x y z p q r same box cell valid =
    padded_from_box d (shifted_axis x p) (shifted_axis y q) (shifted_axis z r) box.few
    (λ h. no_shift x p (box.no_x h) (cell.no_x (omega arith)))
    (λ h. no_shift y q (box.no_y h) (cell.no_y (omega arith)))
    (λ h. no_shift z r (box.no_z h) (cell.no_z (omega arith)))
    (subst IsBox (shifted-three d e x y z p q r same) valid)

-- a box grown on its axes
pub grown-three : (d e f : ℕ) (x y z : Interval) (p q r s t u : ℤ) → d ≡ e → d ≡ f → grown (take d (x ∷ y ∷ z ∷ [])) (reaches (take e (p ∷ q ∷ r ∷ [])) (take f (s ∷ t ∷ u ∷ []))) ≡ take d (grown_axis x (reach p s) ∷ grown_axis y (reach q t) ∷ grown_axis z (reach r u) ∷ [])
grown-three d e f x y z p q r s t u same also =
    ap (λ n. grown (take d (x ∷ y ∷ z ∷ [])) (reaches (take n (p ∷ q ∷ r ∷ [])) (take f (s ∷ t ∷ u ∷ [])))) (sym same)
    ∙ ap (λ n. grown (take d (x ∷ y ∷ z ∷ [])) (reaches (take d (p ∷ q ∷ r ∷ [])) (take n (s ∷ t ∷ u ∷ [])))) (sym also)
    ∙ ap (grown (take d (x ∷ y ∷ z ∷ []))) (each_of-three reach d p q r s t u)
    ∙ each_of-three grown_axis d x y z (reach p s) (reach q t) (reach r u)

no_growth : (x : Interval) (p s : ℤ) → x ≡ no_axis → p ≡ pos 0 → s ≡ pos 0 → grown_axis x (reach p s) ≡ no_axis
no_growth x p s e f g = rw (e, f, g) refl

pub grown_box : (d e f : ℕ) (x y z : Interval) (p q r s t u : ℤ) → d ≡ e → d ≡ f → IsPaddedBox d x y z → IsPaddedCell e p q r → IsPaddedCell f s t u → IsBox (grown (take d (x ∷ y ∷ z ∷ [])) (reaches (take e (p ∷ q ∷ r ∷ [])) (take f (s ∷ t ∷ u ∷ [])))) → IsPaddedBox d (grown_axis x (reach p s)) (grown_axis y (reach q t)) (grown_axis z (reach r u))
grown_box d e f x y z p q r s t u same also box low high valid =
    padded_from_box d (grown_axis x (reach p s)) (grown_axis y (reach q t)) (grown_axis z (reach r u)) box.few
    (λ h. no_growth x p s (box.no_x h) (low.no_x (omega arith)) (high.no_x (omega arith)))
    (λ h. no_growth y q t (box.no_y h) (low.no_y (omega arith)) (high.no_y (omega arith)))
    (λ h. no_growth z r u (box.no_z h) (low.no_z (omega arith)) (high.no_z (omega arith)))
    (subst IsBox (grown-three d e f x y z p q r s t u same also) valid)

-- the common axes of two boxes
pub common-three : (d e : ℕ) (x y z p q r : Interval) → d ≡ e → common_axes (take d (x ∷ y ∷ z ∷ [])) (take e (p ∷ q ∷ r ∷ [])) ≡ take d (common x p ∷ common y q ∷ common z r ∷ [])
common-three d e x y z p q r same =
    ap (λ n. common_axes (take d (x ∷ y ∷ z ∷ [])) (take n (p ∷ q ∷ r ∷ []))) (sym same) ∙ each_of-three common d x y z p q r

no_common : (x p : Interval) → x ≡ no_axis → p ≡ no_axis → IsOrdered (common x p)
no_common x p e f = rw (e, f) (omega (arith, ints))

pub common_ordered : (d e : ℕ) (x y z p q r : Interval) → d ≡ e → IsPaddedBox d x y z → IsPaddedBox e p q r → HaveCommonCell (take d (x ∷ y ∷ z ∷ [])) (take e (p ∷ q ∷ r ∷ [])) → IsOrdered (common x p) × IsOrdered (common y q) × IsOrdered (common z r)
common_ordered d e x y z p q r same box other h =
    let length_d : length (take d (x ∷ y ∷ z ∷ [])) ≡ d = length-padded d x y z box.few in
    let length_e : length (take e (p ∷ q ∷ r ∷ [])) ≡ e = length-padded e p q r other.few in
    let inside : IsIn (common_axes (take d (x ∷ y ∷ z ∷ [])) (take e (p ∷ q ∷ r ∷ []))) h.0 =
    (common_axes_meet (take d (x ∷ y ∷ z ∷ [])) (take e (p ∷ q ∷ r ∷ [])) (length_d ∙ same ∙ sym length_e) h.0).1 (h.1, h.2) in
    ordered_three d (common x p) (common y q) (common z r) h.0 box.few
    (λ few. no_common x p (box.no_x few) (other.no_x (omega arith)))
    (λ few. no_common y q (box.no_y few) (other.no_y (omega arith)))
    (λ few. no_common z r (box.no_z few) (other.no_z (omega arith)))
    (subst (λ (axes : List Interval). IsIn axes h.0) (common-three d e x y z p q r same) inside)

-- the first corner of a box lies in it
corner : List Interval → List ℤ
corner [] = []
corner (axis ∷ axes) = axis.first ∷ corner axes

corner_in : (axes : List Interval) → All IsOrdered axes → IsIn axes (corner axes)
unfolding corner
corner_in [] h = tt
corner_in (axis ∷ axes) h =
    let here : IsOrdered axis = All-head IsOrdered axis axes h in
    (omega (arith, ints), here, corner_in axes (All-tail IsOrdered axis axes h))

pub common_cell : (a b : List Interval) → length a ≡ length b → All IsOrdered (common_axes a b) → HaveCommonCell a b
common_cell a b e h =
    let both : IsIn a (corner (common_axes a b)) × IsIn b (corner (common_axes a b)) =
    (common_axes_meet a b e (corner (common_axes a b))).0 (corner_in (common_axes a b) h) in
    (corner (common_axes a b), both.0, both.1)

pub common_within : (a b : Interval) → IsOrdered (common a b) → IsWithin (common a b) a
common_within a b h = record {
  ordered = h;
  low = omega (arith, ints, clamps);
  high = omega (arith, ints, clamps);
}

-- two axes make a box
pub layer_fits : (x y : Interval) → IsAxis x → IsAxis y → axis_length x * axis_length y ≤ 8000001 * 8000001
layer_fits x y hx hy =
    mul-le (axis_length x) (axis_length y) 8000001 8000001
    (omega (arith, ints, length_of_axis x hx, hx.low, hx.high))
    (omega (arith, ints, length_of_axis y hy, hy.low, hy.high))

pub same_dims : (d e : ℕ) (x y z : Interval) (p q r : ℤ) → IsPaddedBox d x y z → IsPaddedCell e p q r → length (take d (x ∷ y ∷ z ∷ [])) ≡ length (take e (p ∷ q ∷ r ∷ [])) → d ≡ e
same_dims d e x y z p q r box cell h = omega (arith, length-padded d x y z box.few, length-padded e p q r cell.few)

pub same_box_dims : (d e : ℕ) (x y z p q r : Interval) → IsPaddedBox d x y z → IsPaddedBox e p q r → length (take d (x ∷ y ∷ z ∷ [])) ≡ length (take e (p ∷ q ∷ r ∷ [])) → d ≡ e
same_box_dims d e x y z p q r box other h = omega (arith, length-padded d x y z box.few, length-padded e p q r other.few)

-- the three axes that a shift makes are kept as the shifted box
pub shift_needs : (d e : ℕ) (x y z : Interval) (p q r : ℤ) (axes : List Interval) (by : List ℤ) → IsPaddedBox d x y z → IsPaddedCell e p q r → take d (x ∷ y ∷ z ∷ []) ≡ axes → take e (p ∷ q ∷ r ∷ []) ≡ by → length axes ≡ length by → IsBox (shifted axes by) → IsPaddedBox d (shifted_axis x p) (shifted_axis y q) (shifted_axis z r) × (take d (shifted_axis x p ∷ shifted_axis y q ∷ shifted_axis z r ∷ []) ≡ shifted axes by)
shift_needs d e x y z p q r axes by box cell ea eb same valid =
    let dims : d ≡ e = same_dims d e x y z p q r box cell (ap length ea ∙ same ∙ sym (ap length eb)) in
    let is : shifted (take d (x ∷ y ∷ z ∷ [])) (take e (p ∷ q ∷ r ∷ [])) ≡ shifted axes by = rw (ea, eb) refl in
    (shifted_box d e x y z p q r dims box cell (subst IsBox (sym is) valid), sym (shifted-three d e x y z p q r dims) ∙ is)

pub shift_makes : (d e : ℕ) (x y z : Interval) (p q r : ℤ) (axes : List Interval) (by : List ℤ) (x' y' z' : Interval) → IsPaddedBox d x y z → IsPaddedCell e p q r → take d (x ∷ y ∷ z ∷ []) ≡ axes → take e (p ∷ q ∷ r ∷ []) ≡ by → length axes ≡ length by → IsBox (shifted axes by) → x'.first ≡ x.first +ℤ p → x'.last ≡ x.last +ℤ p → y'.first ≡ y.first +ℤ q → y'.last ≡ y.last +ℤ q → z'.first ≡ z.first +ℤ r → z'.last ≡ z.last +ℤ r → IsPaddedBox d x' y' z' × (take d (x' ∷ y' ∷ z' ∷ []) ≡ shifted axes by)
shift_makes d e x y z p q r axes by x' y' z' box cell ea eb same valid xf xl yf yl zf zl =
    let ex : x' ≡ shifted_axis x p = same_interval x' (shifted_axis x p) xf xl in
    let ey : y' ≡ shifted_axis y q = same_interval y' (shifted_axis y q) yf yl in
    let ez : z' ≡ shifted_axis z r = same_interval z' (shifted_axis z r) zf zl in
    rw (ex, ey, ez) (shift_needs d e x y z p q r axes by box cell ea eb same valid)

-- the three axes that a growth makes are kept as the grown box
pub grow_needs : (d e f : ℕ) (x y z : Interval) (p q r s t u : ℤ) (axes : List Interval) (low high : List ℤ) → IsPaddedBox d x y z → IsPaddedCell e p q r → IsPaddedCell f s t u → take d (x ∷ y ∷ z ∷ []) ≡ axes → take e (p ∷ q ∷ r ∷ []) ≡ low → take f (s ∷ t ∷ u ∷ []) ≡ high → length axes ≡ length low → length axes ≡ length high → IsBox (grown axes (reaches low high)) → IsPaddedBox d (grown_axis x (reach p s)) (grown_axis y (reach q t)) (grown_axis z (reach r u)) × (take d (grown_axis x (reach p s) ∷ grown_axis y (reach q t) ∷ grown_axis z (reach r u) ∷ []) ≡ grown axes (reaches low high))
grow_needs d e f x y z p q r s t u axes low high box cell also ea el eh same_low same_high valid =
    let dims : d ≡ e = same_dims d e x y z p q r box cell (ap length ea ∙ same_low ∙ sym (ap length el)) in
    let dims' : d ≡ f = same_dims d f x y z s t u box also (ap length ea ∙ same_high ∙ sym (ap length eh)) in
    let is : grown (take d (x ∷ y ∷ z ∷ [])) (reaches (take e (p ∷ q ∷ r ∷ [])) (take f (s ∷ t ∷ u ∷ []))) ≡ grown axes (reaches low high) = rw (ea, el, eh) refl in
    (grown_box d e f x y z p q r s t u dims dims' box cell also (subst IsBox (sym is) valid), sym (grown-three d e f x y z p q r s t u dims dims') ∙ is)

pub grow_makes : (d e f : ℕ) (x y z : Interval) (p q r s t u : ℤ) (axes : List Interval) (low high : List ℤ) (x' y' z' : Interval) → IsPaddedBox d x y z → IsPaddedCell e p q r → IsPaddedCell f s t u → take d (x ∷ y ∷ z ∷ []) ≡ axes → take e (p ∷ q ∷ r ∷ []) ≡ low → take f (s ∷ t ∷ u ∷ []) ≡ high → length axes ≡ length low → length axes ≡ length high → IsBox (grown axes (reaches low high)) → x'.first ≡ x.first -ℤ p → x'.last ≡ x.last +ℤ s → y'.first ≡ y.first -ℤ q → y'.last ≡ y.last +ℤ t → z'.first ≡ z.first -ℤ r → z'.last ≡ z.last +ℤ u → IsPaddedBox d x' y' z' × (take d (x' ∷ y' ∷ z' ∷ []) ≡ grown axes (reaches low high))
grow_makes d e f x y z p q r s t u axes low high x' y' z' box cell also ea el eh same_low same_high valid xf xl yf yl zf zl =
    let ex : x' ≡ grown_axis x (reach p s) = same_interval x' (grown_axis x (reach p s)) xf xl in
    let ey : y' ≡ grown_axis y (reach q t) = same_interval y' (grown_axis y (reach q t)) yf yl in
    let ez : z' ≡ grown_axis z (reach r u) = same_interval z' (grown_axis z (reach r u)) zf zl in
    rw (ex, ey, ez) (grow_needs d e f x y z p q r s t u axes low high box cell also ea el eh same_low same_high valid)

-- two boxes that share a cell share numbers on each axis
pub meet_needs : (d e : ℕ) (x y z p q r : Interval) (a b : List Interval) → IsPaddedBox d x y z → IsPaddedBox e p q r → take d (x ∷ y ∷ z ∷ []) ≡ a → take e (p ∷ q ∷ r ∷ []) ≡ b → length a ≡ length b → HaveCommonCell a b → IsOrdered (common x p) × IsOrdered (common y q) × IsOrdered (common z r)
meet_needs d e x y z p q r a b box other ea eb same h =
    let dims : d ≡ e = same_box_dims d e x y z p q r box other (ap length ea ∙ same ∙ sym (ap length eb)) in
    common_ordered d e x y z p q r dims box other (rw (ea, eb) h)

-- the three axes that two boxes share are kept as their meeting, and some cell lies in both
pub meet_makes : (d e : ℕ) (x y z p q r : Interval) (a b : List Interval) (x' y' z' : Interval) → IsPaddedBox d x y z → IsPaddedBox e p q r → take d (x ∷ y ∷ z ∷ []) ≡ a → take e (p ∷ q ∷ r ∷ []) ≡ b → length a ≡ length b → x' ≡ common x p → y' ≡ common y q → z' ≡ common z r → IsOrdered (common x p) → IsOrdered (common y q) → IsOrdered (common z r) → IsPaddedBox d x' y' z' × (take d (x' ∷ y' ∷ z' ∷ []) ≡ common_axes a b) × HaveCommonCell a b
meet_makes d e x y z p q r a b x' y' z' box other ea eb same ex ey ez ox oy oz =
    let dims : d ≡ e = same_box_dims d e x y z p q r box other (ap length ea ∙ same ∙ sym (ap length eb)) in
    let narrow : IsPaddedBox d (common x p) (common y q) (common z r) =
    narrowed_box d x y z (common x p) (common y q) (common z r) box (common_within x p ox) (common_within y q oy) (common_within z r oz) in
    let is : take d (common x p ∷ common y q ∷ common z r ∷ []) ≡ common_axes a b =
    sym (common-three d e x y z p q r dims) ∙ (let e' : common_axes (take d (x ∷ y ∷ z ∷ [])) (take e (p ∷ q ∷ r ∷ [])) ≡ common_axes a b = rw (ea, eb) refl in e') in
    let all : All IsOrdered (take d (common x p ∷ common y q ∷ common z r ∷ [])) =
    All-take IsOrdered d (common x p ∷ common y q ∷ common z r ∷ [])
    (All-cons IsOrdered (common x p) (common y q ∷ common z r ∷ []) ox (All-cons IsOrdered (common y q) (common z r ∷ []) oy (All-cons IsOrdered (common z r) [] oz (All-nil IsOrdered)))) in
    let held : IsPaddedBox d x' y' z' = rw (ex, ey, ez) narrow in
    let kept : take d (x' ∷ y' ∷ z' ∷ []) ≡ common_axes a b = rw (ex, ey, ez) is in
    (held, kept, common_cell a b same (subst (All IsOrdered) is all))

-- each axis of a box has a number
pub ordered_box : (d : ℕ) (x y z : Interval) (axes : List Interval) → IsPaddedBox d x y z → take d (x ∷ y ∷ z ∷ []) ≡ axes → All IsOrdered axes
ordered_box d x y z axes box e =
    subst (All IsOrdered) e (All-weaker IsAxis IsOrdered (λ a h. h.ordered) (take d (x ∷ y ∷ z ∷ [])) (box_from_padded d x y z box).whole)

-- two axes and three make a box
pub layer_box : (x y : Interval) → IsAxis x → IsAxis y → IsPaddedBox 2 x y no_axis
layer_box x y hx hy = record {
  few = omega arith;
  no_x = λ h. absurd (omega arith);
  no_y = λ h. absurd (omega arith);
  no_z = λ h. refl;
  x_axis = hx;
  y_axis = hy;
  z_axis = no_axis_is;
  countable = omega (arith, layer_fits x y hx hy);
}

pub three_box : (x y z : Interval) → IsAxis x → IsAxis y → IsAxis z → volume x y z < 2 ^ 63 → IsPaddedBox 3 x y z
three_box x y z hx hy hz h = record {
  few = omega arith;
  no_x = λ k. absurd (omega arith);
  no_y = λ k. absurd (omega arith);
  no_z = λ k. absurd (omega arith);
  x_axis = hx;
  y_axis = hy;
  z_axis = hz;
  countable = h;
}

-- whether the cells of three axes can be counted is told by a quotient
pub quotient_tells : (x y z : Interval) (a b e : ℕ) → a ≡ axis_length x → b ≡ axis_length y → e ≡ axis_length z → 0 < a * b → (e ≤ (2 ^ 63 - 1) / (a * b)) ↔ (volume x y z < 2 ^ 63)
quotient_tells x y z a b e ea eb ee some = (
  λ h. let within : e * (a * b) ≤ 2 ^ 63 - 1 = (le-div_iff_mul-le some).0 h in
      let turned : e * (a * b) ≡ volume x y z = mul_comm e (a * b) ∙ rw (ea, eb, ee) refl in
      omega arith,
  λ h. (le-div_iff_mul-le some).1 (let turned : e * (a * b) ≡ volume x y z = mul_comm e (a * b) ∙ rw (ea, eb, ee) refl in omega arith),
)

pub volume_of_box : (x y z : Interval) → IsBox (x ∷ y ∷ z ∷ []) → volume x y z < 2 ^ 63
volume_of_box x y z h =
    rw (← length-cells-padded 3 x y z (omega arith) (λ k. absurd (omega arith)) (λ k. absurd (omega arith)) (λ k. absurd (omega arith))) h.countable

pub length_along : (n : ℕ) (a b : Interval) → n ≡ axis_length a → a.first ≡ b.first → a.last ≡ b.last → n ≡ axis_length b
length_along n a b e f l = e ∙ ap axis_length (same_interval a b f l)

pub product_some : (a b : ℕ) → 0 < a → 0 < b → 0 < a * b
product_some a b h k = mul-pos h k

within_itself : (a : Interval) → IsAxis a → IsWithin a a
within_itself a h = record { ordered = h.ordered; low = omega (arith, ints); high = omega (arith, ints) }

-- one of three axes is narrowed
pub narrow_first : (d n : ℕ) (x y z a : Interval) (axes : List Interval) → IsPaddedBox d x y z → take d (x ∷ y ∷ z ∷ []) ≡ axes → n < length axes → n ≡ 0 → IsAxis a → ((old : Interval) → slice_get axes n ≡ Some old → (old.first ≤ℤ a.first) × (a.last ≤ℤ old.last)) → IsPaddedBox d a y z × (take d (a ∷ y ∷ z ∷ []) ≡ slice_set axes n a)
narrow_first d n x y z a axes box e there is valid within =
    let old : (x.first ≤ℤ a.first) × (a.last ≤ℤ x.last) =
    within x (rw (← e) (first_axis d n x y z (rw e there) is)) in (
      narrowed_box d x y z a y z box (record { ordered = valid.ordered; low = old.0; high = old.1 }) (within_itself y box.y_axis) (within_itself z box.z_axis),
      rw (← e, is) (set_first d x y z a),
    )
  where
    set_first : (d : ℕ) (x y z a : Interval) → take d (a ∷ y ∷ z ∷ []) ≡ slice_set (take d (x ∷ y ∷ z ∷ [])) 0 a
    set_first zero x y z a = refl
    set_first (suc d) x y z a = refl

pub narrow_second : (d n : ℕ) (x y z a : Interval) (axes : List Interval) → IsPaddedBox d x y z → take d (x ∷ y ∷ z ∷ []) ≡ axes → n < length axes → n ≡ 1 → IsAxis a → ((old : Interval) → slice_get axes n ≡ Some old → (old.first ≤ℤ a.first) × (a.last ≤ℤ old.last)) → IsPaddedBox d x a z × (take d (x ∷ a ∷ z ∷ []) ≡ slice_set axes n a)
narrow_second d n x y z a axes box e there is valid within =
    let old : (y.first ≤ℤ a.first) × (a.last ≤ℤ y.last) =
    within y (rw (← e) (second_axis d n x y z (rw e there) is)) in (
      narrowed_box d x y z x a z box (within_itself x box.x_axis) (record { ordered = valid.ordered; low = old.0; high = old.1 }) (within_itself z box.z_axis),
      rw (← e, is) (set_second d x y z a),
    )
  where
    set_second : (d : ℕ) (x y z a : Interval) → take d (x ∷ a ∷ z ∷ []) ≡ slice_set (take d (x ∷ y ∷ z ∷ [])) 1 a
    set_second zero x y z a = refl
    set_second (suc zero) x y z a = refl
    set_second (suc (suc d)) x y z a = refl

pub narrow_third : (d n : ℕ) (x y z a : Interval) (axes : List Interval) → IsPaddedBox d x y z → take d (x ∷ y ∷ z ∷ []) ≡ axes → n < length axes → n ≢ 0 → n ≢ 1 → IsAxis a → ((old : Interval) → slice_get axes n ≡ Some old → (old.first ≤ℤ a.first) × (a.last ≤ℤ old.last)) → IsPaddedBox d x y a × (take d (x ∷ y ∷ a ∷ []) ≡ slice_set axes n a)
narrow_third d n x y z a axes box e there not_first not_second valid within =
    let old : (z.first ≤ℤ a.first) × (a.last ≤ℤ z.last) =
    within z (rw (← e) (third_axis d n x y z box.few (rw e there) not_first not_second)) in
    let is : n ≡ 2 = omega (arith, ap length e, length-padded d x y z box.few, box.few) in (
      narrowed_box d x y z x y a box (within_itself x box.x_axis) (within_itself y box.y_axis) (record { ordered = valid.ordered; low = old.0; high = old.1 }),
      rw (← e, is) (set_third d x y z a),
    )
  where
    set_third : (d : ℕ) (x y z a : Interval) → take d (x ∷ y ∷ a ∷ []) ≡ slice_set (take d (x ∷ y ∷ z ∷ [])) 2 a
    set_third zero x y z a = refl
    set_third (suc zero) x y z a = refl
    set_third (suc (suc zero)) x y z a = refl
    set_third (suc (suc (suc d))) x y z a = refl

-- a box of one axis more
take_one_more : (d : ℕ) (a x y z : Interval) → d ≤ 2 → take (d + 1) (a ∷ x ∷ y ∷ []) ≡ a ∷ take d (x ∷ y ∷ z ∷ [])
take_one_more zero a x y z h = refl
take_one_more (suc zero) a x y z h = refl
take_one_more (suc (suc zero)) a x y z h = refl
take_one_more (suc (suc (suc d))) a x y z h = absurd (omega arith)

pub after_padded : (d : ℕ) (a x y z : Interval) (axes : List Interval) → IsPaddedBox d x y z → take d (x ∷ y ∷ z ∷ []) ≡ axes → IsBox (a ∷ axes) → IsPaddedBox (d + 1) a x y
after_padded d a x y z axes box e h =
    let dims : d ≤ 2 = omega (arith, length-padded d x y z box.few, ap length e, h.few) in
    padded_from_box (d + 1) a x y (omega arith)
    (λ k. absurd (omega arith))
    (λ k. box.no_x (omega arith))
    (λ k. box.no_y (omega arith))
    (rw (take_one_more d a x y z dims, e) h)

-- a box of one axis less
pub rest_padded : (d : ℕ) (x y z : Interval) → IsPaddedBox d x y z → 0 < d → IsPaddedBox (d - 1) y z no_axis
rest_padded d x y z box some =
    let few : d ≤ 3 = box.few in
    let wide : axis_length y * axis_length z ≤ axis_length y * axis_length z * axis_length x =
    le-mul_of_pos_right (axis_length y * axis_length z) (omega (arith, ints, length_of_axis x box.x_axis, box.x_axis.ordered)) in
    let turned : axis_length y * axis_length z * axis_length x ≡ volume x y z = omega arith in
    record {
      few = omega arith;
      no_x = λ h. box.no_y (omega arith);
      no_y = λ h. box.no_z (omega arith);
      no_z = λ h. refl;
      x_axis = box.y_axis;
      y_axis = box.z_axis;
      z_axis = no_axis_is;
      countable = omega (arith, wide, turned, box.countable);
    }

-- the corners of a box lie in it
pub firsts_in : (axes : List Interval) → All IsOrdered axes → IsIn axes (map (λ axis. axis.first) axes)
firsts_in [] h = tt
firsts_in (axis ∷ axes) h =
    let here : IsOrdered axis = All-head IsOrdered axis axes h in
    (omega (arith, ints), here, firsts_in axes (All-tail IsOrdered axis axes h))

pub lasts_in : (axes : List Interval) → All IsOrdered axes → IsIn axes (map (λ axis. axis.last) axes)
lasts_in [] h = tt
lasts_in (axis ∷ axes) h =
    let here : IsOrdered axis = All-head IsOrdered axis axes h in
    (here, omega (arith, ints), lasts_in axes (All-tail IsOrdered axis axes h))

pub some_axis : (d : ℕ) (x y z : Interval) (axes : List Interval) → IsPaddedBox d x y z → take d (x ∷ y ∷ z ∷ []) ≡ axes → 0 < length axes → 0 < d
some_axis d x y z axes box e some = omega (arith, length-padded d x y z box.few, ap length e)
