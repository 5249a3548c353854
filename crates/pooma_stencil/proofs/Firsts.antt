-- The first axis of extents and of a box, and the later ones.
use Rattle.std.proofs.Common.{◌≡◌, ◌≢◌, ◌↔◌, ℕ, ◌-◌, ◌<◌, ℤ, pos, ◌+ℤ◌, ◌-ℤ◌, ◌≤ℤ◌, neg_ℤ, refl, sym, ap, ap₂, subst, ◌∙◌, arith, List, [], ◌∷◌, length, drop, Some, to_z, of_z}
use Rattle.std.specs.Prelude.{All, IsTrue, true, false, nat_eq, slice_get, FitsSigned}
use Rattle.std.specs.Int.{w32}
use Rattle.std.proofs.lemmas.Int.{ints, to_z-of_z}
use Rattle.std.proofs.lemmas.List.Elements.{All-cons, All-head, All-tail, All-drop}
use Rattle.std.proofs.lemmas.List.{length-drop}
use Rattle.std.proofs.lemmas.Bool.Decides.{Decides-eqb}
use Rattle.pooma_domain.specs.Cells.{Interval, interval, IsAxis, IsIn, IsOrdered}
use Rattle.pooma_domain.specs.Operations.{moved, reaches}
use Rattle.pooma_stencil.specs.Stencils.{IsExtent, shrunk}

pub first_and_later : {A : Type 0} (xs later : List A) (x : A) → slice_get xs 0 ≡ Some x → later ≡ drop 1 xs → xs ≡ x ∷ later
first_and_later [] later x e f = cc
first_and_later (y ∷ ys) later x e f =
    let here : y ≡ x = cc in
    let rest : later ≡ ys = f in
    ap (λ z. z ∷ ys) here ∙ ap (λ zs. x ∷ zs) (sym rest)

pub shorter : {A : Type 0} (xs later : List A) (x : A) → xs ≡ x ∷ later → length later < length xs
shorter xs later x e = rw e (omega arith)

-- extents without axes leave no offset but the one without numbers
pub reach_none : (lower upper o : List ℤ) → (length lower ≡ 0) → (length o ≡ 0) ↔ IsIn (reaches lower upper) o
reach_none [] upper [] e = (λ h. tt, λ h. refl)
reach_none [] upper (x ∷ o) e = (λ h. absurd (omega (arith, h)), λ h. absurd h)
reach_none (l ∷ lower) upper o e = absurd (omega (arith, e))

pub reach_none_up : (lower upper o : List ℤ) → (length upper ≡ 0) → (length o ≡ 0) ↔ IsIn (reaches lower upper) o
reach_none_up [] upper o e = reach_none [] upper o refl
reach_none_up (l ∷ lower) [] [] e = (λ h. tt, λ h. refl)
reach_none_up (l ∷ lower) [] (x ∷ o) e = (λ h. absurd (omega (arith, h)), λ h. absurd h)
reach_none_up (l ∷ lower) (u ∷ upper) o e = absurd (omega (arith, e))

-- the code's test for no numbers
pub tells_none : (lower upper o : List ℤ) (n : ℕ) → length upper ≡ 0 → n ≡ length o → IsTrue (nat_eq n 0) ↔ IsIn (reaches lower upper) o
tells_none lower upper o n e f =
    let is = reach_none_up lower upper o e in
    let tells = Decides-eqb n 0 in
    (λ t. is.0 (sym f ∙ tells.0 t), λ h. tells.1 (f ∙ is.1 h))

pub tells_no : {P : Type 0} → ¬ P → IsTrue false ↔ P
tells_no h = (λ t. cc, λ p. absurd (h p))

pub no_offset : (lower upper o : List ℤ) → length lower ≢ 0 → length upper ≢ 0 → length o ≡ 0 → ¬ (IsIn (reaches lower upper) o)
no_offset [] upper o e f g h = e refl
no_offset (l ∷ lower) [] o e f g h = f refl
no_offset (l ∷ lower) (u ∷ upper) [] e f g h = h
no_offset (l ∷ lower) (u ∷ upper) (x ∷ o) e f g h = absurd (omega (arith, g))

pub reach_first : (lower upper o ls us xs : List ℤ) (l u x : ℤ) → lower ≡ l ∷ ls → upper ≡ u ∷ us → o ≡ x ∷ xs → IsIn (reaches lower upper) o ↔ ((neg_ℤ l ≤ℤ x) × (x ≤ℤ u) × IsIn (reaches ls us) xs)
reach_first lower upper o ls us xs l u x e f g = rw (e, f, g) (λ h. h, λ h. h)

-- an extent, and how far an offset goes within it
pub record IsNear (l u x : ℤ) : Type 0 where
  pub lower : IsExtent l
  pub upper : IsExtent u
  pub down : neg_ℤ l ≤ℤ x
  pub up : x ≤ℤ u

pub near_first : (lower upper o ls us xs : List ℤ) (l u x : ℤ) → lower ≡ l ∷ ls → upper ≡ u ∷ us → o ≡ x ∷ xs → All IsExtent lower → All IsExtent upper → IsIn (reaches lower upper) o → IsNear l u x
near_first lower upper o ls us xs l u x e f g low high h =
    let within = (reach_first lower upper o ls us xs l u x e f g).0 h in
    record {
      lower = All-head IsExtent l ls (subst (All IsExtent) e low);
      upper = All-head IsExtent u us (subst (All IsExtent) f high);
      down = within.0;
      up = within.1;
    }

pub later_extents : (lower ls : List ℤ) (l : ℤ) → lower ≡ l ∷ ls → All IsExtent lower → IsExtent l × All IsExtent ls
later_extents lower ls l e h =
    let all = subst (All IsExtent) e h in
    (All-head IsExtent l ls all, All-tail IsExtent l ls all)

pub moved_first : (lower o ls xs m : List ℤ) (l x y : ℤ) → lower ≡ l ∷ ls → o ≡ x ∷ xs → y ≡ l +ℤ x → m ≡ moved ls xs → y ∷ m ≡ moved lower o
moved_first lower o ls xs m l x y e f g h = rw (e, f, g, h) refl

pub shrunk_first : (whole axes : List Interval) (lower upper ls us : List ℤ) (a : Interval) (l u : ℤ) → whole ≡ a ∷ axes → lower ≡ l ∷ ls → upper ≡ u ∷ us → shrunk whole lower upper ≡ interval a.first (a.last -ℤ (l +ℤ u)) ∷ shrunk axes ls us
shrunk_first whole axes lower upper ls us a l u e f g = rw (e, f, g) refl

-- an axis without its last numbers, where it has more
pub IsAxis-left : (a : Interval) (l u last : ℤ) → IsAxis a → IsExtent l → IsExtent u → last ≡ a.last -ℤ (l +ℤ u) → a.first ≤ℤ last → IsAxis (interval a.first last)
IsAxis-left a l u last is low high e h = record {
  ordered = h;
  low = is.low;
  high = omega (arith, ints, e, is.high, low.0, high.0);
}

module _ (whole axes : List Interval) (lower upper ls us : List ℤ) (a : Interval) (l u : ℤ) where
  -- the first axis and the extents on it, and the later ones
  pub record AreSplit : Type 0 where
    pub axes_are : whole ≡ a ∷ axes
    pub lower_are : lower ≡ l ∷ ls
    pub upper_are : upper ≡ u ∷ us

  pub split_of : whole ≡ a ∷ axes → lower ≡ l ∷ ls → upper ≡ u ∷ us → AreSplit
  split_of e f g = record { axes_are = e; lower_are = f; upper_are = g }

  pub first_is_ordered : AreSplit → All IsOrdered (shrunk whole lower upper) → a.first ≤ℤ (a.last -ℤ (l +ℤ u))
  first_is_ordered is h =
      let all = subst (All IsOrdered) (shrunk_first whole axes lower upper ls us a l u is.axes_are is.lower_are is.upper_are) h in
      All-head IsOrdered (interval a.first (a.last -ℤ (l +ℤ u))) (shrunk axes ls us) all

  pub later_are_ordered : AreSplit → All IsOrdered (shrunk whole lower upper) → All IsOrdered (shrunk axes ls us)
  later_are_ordered is h =
      let all = subst (All IsOrdered) (shrunk_first whole axes lower upper ls us a l u is.axes_are is.lower_are is.upper_are) h in
      All-tail IsOrdered (interval a.first (a.last -ℤ (l +ℤ u))) (shrunk axes ls us) all

  pub all_are_ordered : AreSplit → a.first ≤ℤ (a.last -ℤ (l +ℤ u)) → All IsOrdered (shrunk axes ls us) → All IsOrdered (shrunk whole lower upper)
  all_are_ordered is h k =
      subst (All IsOrdered) (sym (shrunk_first whole axes lower upper ls us a l u is.axes_are is.lower_are is.upper_are))
      (All-cons IsOrdered (interval a.first (a.last -ℤ (l +ℤ u))) (shrunk axes ls us) h k)

-- the first extents and the first number of an offset within them
pub near_start : (lower upper o : List ℤ) (l x : ℤ) → slice_get lower 0 ≡ Some l → slice_get o 0 ≡ Some x → All IsExtent lower → All IsExtent upper → IsIn (reaches lower upper) o → (pos 0 ≤ℤ l) × (l ≤ℤ pos 8) × (neg_ℤ l ≤ℤ x) × (x ≤ℤ pos 8)
near_start [] upper o l x e f low high h = cc
near_start (l' ∷ lower) [] [] l x e f low high h = cc
near_start (l' ∷ lower) [] (y ∷ o) l x e f low high h = absurd h
near_start (l' ∷ lower) (u ∷ upper) [] l x e f low high h = cc
near_start (l' ∷ lower) (u ∷ upper) (y ∷ o) l x e f low high h =
    let l_is : l' ≡ l = cc in
    let x_is : y ≡ x = cc in
    let first = All-head IsExtent l' lower low in
    let up = All-head IsExtent u upper high in
    (omega (arith, ints, l_is, first.0), omega (arith, ints, l_is, first.1), omega (arith, ints, l_is, x_is, h.0), omega (arith, ints, x_is, h.1, up.1))

pub near_rest : (lower upper o : List ℤ) → length lower ≢ 0 → length upper ≡ length lower → IsIn (reaches lower upper) o → IsIn (reaches (drop 1 lower) (drop 1 upper)) (drop 1 o)
near_rest [] upper o some e h = absurd (some refl)
near_rest (l ∷ lower) [] o some e h = absurd (omega (arith, e))
near_rest (l ∷ lower) (u ∷ upper) [] some e h = absurd h
near_rest (l ∷ lower) (u ∷ upper) (x ∷ o) some e h = h.2

pub down_of : (lower upper o : List ℤ) (l x : ℤ) → slice_get lower 0 ≡ Some l → slice_get o 0 ≡ Some x → IsIn (reaches lower upper) o → neg_ℤ l ≤ℤ x
down_of [] upper o l x e f h = cc
down_of (l' ∷ lower) [] [] l x e f h = cc
down_of (l' ∷ lower) [] (y ∷ o) l x e f h = absurd h
down_of (l' ∷ lower) (u ∷ upper) [] l x e f h = absurd h
down_of (l' ∷ lower) (u ∷ upper) (y ∷ o) l x e f h =
    let l_is : l' ≡ l = cc in
    let x_is : y ≡ x = cc in
    omega (arith, ints, l_is, x_is, h.0)

pub up_of : (lower upper o : List ℤ) (u x : ℤ) → slice_get upper 0 ≡ Some u → slice_get o 0 ≡ Some x → IsIn (reaches lower upper) o → x ≤ℤ u
up_of [] upper [] u x e f h = cc
up_of [] upper (y ∷ o) u x e f h = absurd h
up_of (l ∷ lower) [] o u x e f h = cc
up_of (l ∷ lower) (u' ∷ upper) [] u x e f h = absurd h
up_of (l ∷ lower) (u' ∷ upper) (y ∷ o) u x e f h =
    let u_is : u' ≡ u = cc in
    let x_is : y ≡ x = cc in
    omega (arith, ints, u_is, x_is, h.1)

-- what is left of extents and an offset within them, without the first axis
pub record AreLater (lower ls us xs : List ℤ) : Type 0 where
  pub shorter : length ls < length lower
  pub low : All IsExtent ls
  pub high : All IsExtent us
  pub paired : length us ≡ length ls
  pub within : IsIn (reaches ls us) xs

pub later_ones : (lower upper o ls us xs : List ℤ) (l : ℤ) → slice_get lower 0 ≡ Some l → ls ≡ drop 1 lower → us ≡ drop 1 upper → xs ≡ drop 1 o → All IsExtent lower → All IsExtent upper → length upper ≡ length lower → IsIn (reaches lower upper) o → AreLater lower ls us xs
later_ones lower upper o ls us xs l here e f g low high paired within =
    let split = first_and_later lower ls l here e in
    let less = shorter lower ls l split in
    let some : length lower ≢ 0 = λ z. absurd (omega (arith, z, less)) in
    let ls_long : length ls ≡ length lower - 1 = ap length e ∙ length-drop 1 lower in
    let us_long : length us ≡ length upper - 1 = ap length f ∙ length-drop 1 upper in
    record {
      shorter = less;
      low = subst (All IsExtent) (sym e) (All-drop IsExtent 1 lower low);
      high = subst (All IsExtent) (sym f) (All-drop IsExtent 1 upper high);
      paired = omega (arith, ls_long, us_long, paired);
      within = rw (e, f, g) (near_rest lower upper o some paired within);
    }

-- the same of a box and extents
pub record AxesAreLater (lower : List ℤ) (axes : List Interval) (ls us : List ℤ) : Type 0 where
  pub shorter : length ls < length lower
  pub low : All IsExtent ls
  pub high : All IsExtent us
  pub paired : (length ls ≡ length axes) × (length us ≡ length axes)

pub later_axes : (whole axes : List Interval) (lower upper ls us : List ℤ) (l : ℤ) → slice_get lower 0 ≡ Some l → axes ≡ drop 1 whole → ls ≡ drop 1 lower → us ≡ drop 1 upper → All IsExtent lower → All IsExtent upper → length lower ≡ length whole → length upper ≡ length whole → AxesAreLater lower axes ls us
later_axes whole axes lower upper ls us l here d e f low high m n =
    let split = first_and_later lower ls l here e in
    let axes_long : length axes ≡ length whole - 1 = ap length d ∙ length-drop 1 whole in
    let ls_long : length ls ≡ length lower - 1 = ap length e ∙ length-drop 1 lower in
    let us_long : length us ≡ length upper - 1 = ap length f ∙ length-drop 1 upper in
    record {
      shorter = shorter lower ls l split;
      low = subst (All IsExtent) (sym e) (All-drop IsExtent 1 lower low);
      high = subst (All IsExtent) (sym f) (All-drop IsExtent 1 upper high);
      paired = (omega (arith, axes_long, ls_long, m), omega (arith, axes_long, us_long, n));
    }

-- the code's sums and differences
pub sum_fits : (l x : ℤ) → FitsSigned w32 l → FitsSigned w32 x → (pos 0 ≤ℤ l) × (l ≤ℤ pos 8) × (neg_ℤ l ≤ℤ x) × (x ≤ℤ pos 8) → FitsSigned w32 (l +ℤ x) × FitsSigned w32 (to_z w32 (of_z w32 l) +ℤ to_z w32 (of_z w32 x))
sum_fits l x f g near =
    let sum : FitsSigned w32 (l +ℤ x) = omega (arith, ints, near.0, near.1, near.2, near.3) in
    (sum, rw (to_z-of_z w32 l f, to_z-of_z w32 x g) sum)

pub last_fits : (a : Interval) (l u : ℤ) → FitsSigned w32 a.last → FitsSigned w32 l → FitsSigned w32 u → IsAxis a → IsExtent l → IsExtent u → a.first ≤ℤ a.last → FitsSigned w32 (l +ℤ u) × FitsSigned w32 (a.last -ℤ (l +ℤ u))
last_fits a l u f g h is low high ordered =
    (omega (arith, ints, low.0, low.1, high.0, high.1), omega (arith, ints, low.0, low.1, high.0, high.1, is.low, is.high, ordered))

-- what is left of the first axis, as the code has it
module _ (a : Interval) (l u : ℤ) where
  abbrev left_of : ℤ
  left_of = a.last -ℤ (l +ℤ u)

  -- the first axis and the extents on it
  pub record AreFirst : Type 0 where
    pub axis : IsAxis a
    pub low : IsExtent l
    pub high : IsExtent u
    pub first_fits : FitsSigned w32 a.first
    pub last_fits : FitsSigned w32 a.last
    pub low_fits : FitsSigned w32 l
    pub high_fits : FitsSigned w32 u

  abbrev cast_last : ℤ
  cast_last = to_z w32 (of_z w32 (to_z w32 (of_z w32 a.last) -ℤ to_z w32 (of_z w32 (to_z w32 (of_z w32 l) +ℤ to_z w32 (of_z w32 u)))))

  cast_last_is : AreFirst → cast_last ≡ left_of
  cast_last_is is =
      let fit = last_fits a l u is.last_fits is.low_fits is.high_fits is.axis is.low is.high is.axis.ordered in
      rw (to_z-of_z w32 l is.low_fits, to_z-of_z w32 u is.high_fits, to_z-of_z w32 (l +ℤ u) fit.0, to_z-of_z w32 a.last is.last_fits, to_z-of_z w32 (a.last -ℤ (l +ℤ u)) fit.1) refl

  pub ordered_where_found : AreFirst → (P : Type 0) → (P ↔ IsAxis (interval (to_z w32 (of_z w32 a.first)) cast_last)) → P ↔ (a.first ≤ℤ left_of)
  ordered_where_found is P found =
      let first_is = to_z-of_z w32 a.first is.first_fits in
      let same : interval (to_z w32 (of_z w32 a.first)) cast_last ≡ interval a.first left_of = ap₂ interval first_is (cast_last_is is) in (
        λ p. (subst IsAxis same (found.0 p)).ordered,
        λ h. found.1 (subst IsAxis (sym same) (IsAxis-left a l u left_of is.axis is.low is.high refl h)),
      )

  pub interval_found : AreFirst → (x y : ℤ) → x ≡ to_z w32 (of_z w32 a.first) → y ≡ cast_last → interval x y ≡ interval a.first left_of
  interval_found is x y e f = ap₂ interval (e ∙ to_z-of_z w32 a.first is.first_fits) (f ∙ cast_last_is is)

pub tells_nothing : {P : Type 0} → ¬ P → (false ≡ true) ↔ P
tells_nothing h = (λ t. cc, λ p. absurd (h p))
