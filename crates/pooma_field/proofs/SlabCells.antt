-- The cells of slabs: each cell beside the physical domain lies in those of one axis.
use Rattle.std.proofs.Common.{refl, ap, inl, inr, ⊎_elim, arith}
use Rattle.std.proofs.lemmas.Int.{ints, by_lt_z}
use Rattle.std.specs.Prelude.{◌≡◌, ◌⊎◌, ℕ, zero, suc, ◌<◌, ℤ, pos, ◌+ℤ◌, ◌-ℤ◌, ◌≤ℤ◌, ◌<ℤ◌, Bool, true, false, Some, List, [], ◌∷◌, length, slice_get, drop}
use Rattle.pooma_domain.specs.Cells.{Interval, axis_length, IsIn}
use Rattle.pooma_field.specs.Shapes.{IsAround, beyond, slab_axes}
use Rattle.pooma_field.specs.Sources.{IsNear}
use Rattle.pooma_field.proofs.AlongAxes.{IsOn, length_is, near_some}

-- the axes of the second list lie around those of the first
pub record AreAround (physical total : List Interval) : Type 0 where
  pub same : length total ≡ length physical
  pub each : (n : ℕ) (p t : Interval) → slice_get physical n ≡ Some p → slice_get total n ≡ Some t → IsAround p t

pub later_around : (p t : Interval) (physical total : List Interval) → AreAround (p ∷ physical) (t ∷ total) → AreAround physical total
later_around p t physical total h = record { same = omega (arith, h.same); each = λ n q u at_q at_u. h.each (suc n) q u at_q at_u }

pub first_around : (p t : Interval) (physical total : List Interval) → AreAround (p ∷ physical) (t ∷ total) → IsAround p t
first_around p t physical total h = h.each zero p t refl refl

-- what lies beyond an axis and within the axis around it is near
pub beyond_near : (high : Bool) (p t : Interval) (x : ℤ) → IsAround p t → ((beyond high p t).first ≤ℤ x) → (x ≤ℤ (beyond high p t).last) → IsNear p x
beyond_near false p t x around low high = inl (omega (arith, ints), omega (arith, ints, around.few_low))
beyond_near true p t x around low high = inr (omega (arith, ints), omega (arith, ints, around.few_high))

pub beyond_total : (high : Bool) (p t : Interval) (x : ℤ) → IsAround p t → ((beyond high p t).first ≤ℤ x) → (x ≤ℤ (beyond high p t).last) → (t.first ≤ℤ x) × (x ≤ℤ t.last)
beyond_total false p t x around low high =
    let some : 0 < axis_length p = near_some p x (beyond_near false p t x around low high) in
    let whole : pos (axis_length p) ≡ (p.last -ℤ p.first) +ℤ pos 1 = length_is p some in
    (low, omega (arith, ints, around.high, high, whole, some))
beyond_total true p t x around low high =
    let some : 0 < axis_length p = near_some p x (beyond_near true p t x around low high) in
    let whole : pos (axis_length p) ≡ (p.last -ℤ p.first) +ℤ pos 1 = length_is p some in
    (omega (arith, ints, around.low, low, whole, some), high)

-- what lies beyond an axis is not on it
pub beyond_apart : (high : Bool) (p t : Interval) (x : ℤ) → ((beyond high p t).first ≤ℤ x) → (x ≤ℤ (beyond high p t).last) → (p.first ≤ℤ x) → (x ≤ℤ p.last) → ⊥
beyond_apart false p t x low high on_low on_high = omega (arith, ints)
beyond_apart true p t x low high on_low on_high = omega (arith, ints)

-- the total domain holds the physical one
pub physical_is_total : (physical total : List Interval) (c : List ℤ) → AreAround physical total → IsIn physical c → IsIn total c
physical_is_total [] [] c around h = h
physical_is_total [] (t ∷ total) c around h = absurd (omega (arith, around.same))
physical_is_total (p ∷ physical) [] c around h = absurd (omega (arith, around.same))
physical_is_total (p ∷ physical) (t ∷ total) [] around h = absurd h
physical_is_total (p ∷ physical) (t ∷ total) (x ∷ xs) around h =
    let here : IsAround p t = first_around p t physical total around in
    (omega (arith, ints, here.low, h.0), omega (arith, ints, here.high, h.1), physical_is_total physical total xs (later_around p t physical total around) h.2)

pub slab_is_total : (high : Bool) (n : ℕ) (physical total : List Interval) (c : List ℤ) → AreAround physical total → IsIn (slab_axes high n physical total) c → IsIn total c
slab_is_total high n [] [] c around h = h
slab_is_total high n [] (t ∷ total) c around h = absurd (omega (arith, around.same))
slab_is_total high n (p ∷ physical) [] c around h = absurd (omega (arith, around.same))
slab_is_total high zero (p ∷ physical) (t ∷ total) [] around h = absurd h
slab_is_total high (suc n) (p ∷ physical) (t ∷ total) [] around h = absurd h
slab_is_total high zero (p ∷ physical) (t ∷ total) (x ∷ xs) around h =
    let here : (t.first ≤ℤ x) × (x ≤ℤ t.last) = beyond_total high p t x (first_around p t physical total around) h.0 h.1 in
    (here.0, here.1, physical_is_total physical total xs (later_around p t physical total around) h.2)
slab_is_total high (suc n) (p ∷ physical) (t ∷ total) (x ∷ xs) around h =
    (h.0, h.1, slab_is_total high n physical total xs (later_around p t physical total around) h.2)

-- a cell of a slab is not physical
pub slab_apart : (high : Bool) (n : ℕ) (physical total : List Interval) (c : List ℤ) → n < length physical → length total ≡ length physical → IsIn (slab_axes high n physical total) c → IsIn physical c → ⊥
slab_apart high n [] total c there same h on = omega (arith, there)
slab_apart high n (p ∷ physical) [] c there same h on = omega (arith, same)
slab_apart high n (p ∷ physical) (t ∷ total) [] there same h on = on
slab_apart high zero (p ∷ physical) (t ∷ total) (x ∷ xs) there same h on = beyond_apart high p t x h.0 h.1 on.0 on.1
slab_apart high (suc n) (p ∷ physical) (t ∷ total) (x ∷ xs) there same h on =
    slab_apart high n physical total xs (omega (arith, there)) (omega (arith, same)) h.2 on.2

-- the slabs of two axes share no cell
pub one_slab : (g h : Bool) (n m : ℕ) (physical total : List Interval) (c : List ℤ) → n < length physical → m < length physical → length total ≡ length physical → IsIn (slab_axes g n physical total) c → IsIn (slab_axes h m physical total) c → n ≡ m
one_slab g h n m [] total c there also same by_n by_m = absurd (omega (arith, there))
one_slab g h n m (p ∷ physical) [] c there also same by_n by_m = absurd (omega (arith, same))
one_slab g h zero zero (p ∷ physical) (t ∷ total) c there also same by_n by_m = refl
one_slab g h zero (suc m) (p ∷ physical) (t ∷ total) [] there also same by_n by_m = absurd by_n
one_slab g h (suc n) zero (p ∷ physical) (t ∷ total) [] there also same by_n by_m = absurd by_n
one_slab g h (suc n) (suc m) (p ∷ physical) (t ∷ total) [] there also same by_n by_m = absurd by_n
one_slab g h zero (suc m) (p ∷ physical) (t ∷ total) (x ∷ xs) there also same by_n by_m =
    absurd (slab_apart h m physical total xs (omega (arith, also)) (omega (arith, same)) by_m.2 by_n.2)
one_slab g h (suc n) zero (p ∷ physical) (t ∷ total) (x ∷ xs) there also same by_n by_m =
    absurd (slab_apart g n physical total xs (omega (arith, there)) (omega (arith, same)) by_n.2 by_m.2)
one_slab g h (suc n) (suc m) (p ∷ physical) (t ∷ total) (x ∷ xs) there also same by_n by_m =
    ap suc (one_slab g h n m physical total xs (omega (arith, there)) (omega (arith, also)) (omega (arith, same)) by_n.2 by_m.2)

-- the cell lies in the low or in the high slab of some axis
pub record GoesBy (physical total : List Interval) (c : List ℤ) (n : ℕ) : Type 0 where
  pub there : n < length physical
  pub by : IsIn (slab_axes false n physical total) c ⊎ IsIn (slab_axes true n physical total) c

pub goes_by_later : (p t : Interval) (physical total : List Interval) (x : ℤ) (xs : List ℤ) (n : ℕ) → (t.first ≤ℤ x) → (x ≤ℤ t.last) → GoesBy physical total xs n → GoesBy (p ∷ physical) (t ∷ total) (x ∷ xs) (suc n)
goes_by_later p t physical total x xs n low high h = record {
  there = omega (arith, h.there);
  by = ⊎_elim (λ h. inl (low, high, h)) (λ h. inr (low, high, h)) h.by;
}

pub goes_by_first : (p t : Interval) (physical total : List Interval) (x : ℤ) (xs : List ℤ) → (t.first ≤ℤ x) → (x ≤ℤ t.last) → (x <ℤ p.first) ⊎ (p.last <ℤ x) → IsIn physical xs → GoesBy (p ∷ physical) (t ∷ total) (x ∷ xs) zero
goes_by_first p t physical total x xs low high outside inside = record {
  there = omega arith;
  by = ⊎_elim (λ below. inl (low, omega (arith, ints, below), inside)) (λ above. inr (omega (arith, ints, above), high, inside)) outside;
}

-- a cell lies in the box, or it does not
pub inside_or_not : (box : List Interval) (c : List ℤ) → IsIn box c ⊎ (IsIn box c → ⊥)
inside_or_not [] [] = inl tt
inside_or_not [] (x ∷ xs) = inr (λ h. h)
inside_or_not (axis ∷ axes) [] = inr (λ h. h)
inside_or_not (axis ∷ axes) (x ∷ xs) =
    by_lt_z x axis.first
    (λ below. inr (λ h. omega (arith, ints, below, h.0)))
    (λ low. by_lt_z axis.last x
    (λ above. inr (λ h. omega (arith, ints, above, h.1)))
    (λ high. ⊎_elim (λ inside. inl (low, high, inside)) (λ outside. inr (λ h. outside h.2)) (inside_or_not axes xs)))

pub some_slab : (physical total : List Interval) (c : List ℤ) → length total ≡ length physical → IsIn total c → (IsIn physical c → ⊥) → (n : ℕ) × GoesBy physical total c n
some_slab [] [] c same h outside = absurd (outside h)
some_slab [] (t ∷ total) c same h outside = absurd (omega (arith, same))
some_slab (p ∷ physical) [] c same h outside = absurd (omega (arith, same))
some_slab (p ∷ physical) (t ∷ total) [] same h outside = absurd h
some_slab (p ∷ physical) (t ∷ total) (x ∷ xs) same h outside =
    ⊎_elim
    (λ inside. by_lt_z x p.first
    (λ below. (zero, goes_by_first p t physical total x xs h.0 h.1 (inl below) inside))
    (λ low. by_lt_z p.last x
    (λ above. (zero, goes_by_first p t physical total x xs h.0 h.1 (inr above) inside))
    (λ high. absurd (outside (low, high, inside)))))
    (λ beside. let later : (n : ℕ) × GoesBy physical total xs n = some_slab physical total xs (omega (arith, same)) h.2 beside in (suc later.0, goes_by_later p t physical total x xs later.0 h.0 h.1 later.1))
    (inside_or_not physical xs)

-- ---- the axes one by one

pub dims_of_cell : (box : List Interval) (c : List ℤ) → IsIn box c → length c ≡ length box
dims_of_cell [] [] h = refl
dims_of_cell [] (x ∷ xs) h = absurd h
dims_of_cell (axis ∷ axes) [] h = absurd h
dims_of_cell (axis ∷ axes) (x ∷ xs) h = ap suc (dims_of_cell axes xs h.2)

pub past_all : (box : List Interval) (c : List ℤ) (n : ℕ) → n ≡ length box → length c ≡ length box → IsIn (drop n box) (drop n c)
past_all [] [] zero e same = tt
past_all [] [] (suc n) e same = absurd (omega (arith, e))
past_all [] (x ∷ xs) n e same = absurd (omega (arith, same))
past_all (axis ∷ axes) [] n e same = absurd (omega (arith, same))
past_all (axis ∷ axes) (x ∷ xs) zero e same = absurd (omega (arith, e))
past_all (axis ∷ axes) (x ∷ xs) (suc n) e same = past_all axes xs n (omega (arith, e)) (omega (arith, same))

-- inside on the axes from one on, where the cell is so on the later ones and on that one
pub inside_one_more : (box : List Interval) (c : List ℤ) (n : ℕ) (axis : Interval) (x : ℤ) → slice_get box n ≡ Some axis → slice_get c n ≡ Some x → IsOn axis x → IsIn (drop (suc n) box) (drop (suc n) c) → IsIn (drop n box) (drop n c)
inside_one_more [] c n axis x at at_x on h = cc
inside_one_more (p ∷ axes) [] n axis x at at_x on h = cc
inside_one_more (p ∷ axes) (z ∷ zs) zero axis x at at_x on h =
    let same_axis : axis ≡ p = cc in
    let same_x : x ≡ z = cc in
    let here : IsOn p z = rw (← same_axis, ← same_x) on in
    (here.low, here.high, h)
inside_one_more (p ∷ axes) (z ∷ zs) (suc n) axis x at at_x on h = inside_one_more axes zs n axis x at at_x on h

pub coordinate_on : (box : List Interval) (c : List ℤ) (n : ℕ) (axis : Interval) (x : ℤ) → slice_get box n ≡ Some axis → slice_get c n ≡ Some x → IsIn box c → IsOn axis x
coordinate_on [] c n axis x at at_x h = cc
coordinate_on (p ∷ axes) [] n axis x at at_x h = cc
coordinate_on (p ∷ axes) (z ∷ zs) zero axis x at at_x h =
    let same_axis : p ≡ axis = cc in
    let same_x : z ≡ x = cc in
    rw (← same_axis, ← same_x) (record { low = h.0; high = h.1 })
coordinate_on (p ∷ axes) (z ∷ zs) (suc n) axis x at at_x h = coordinate_on axes zs n axis x at at_x h.2

-- a total cell goes by the axis on which it is outside, where it is inside on the later ones
pub goes_by_greatest : (physical total : List Interval) (c : List ℤ) (n : ℕ) (axis : Interval) (x : ℤ) → length total ≡ length physical → IsIn total c → slice_get physical n ≡ Some axis → slice_get c n ≡ Some x → (IsOn axis x → ⊥) → IsIn (drop (suc n) physical) (drop (suc n) c) → GoesBy physical total c n
goes_by_greatest [] total c n axis x same h at at_x off later = cc
goes_by_greatest (p ∷ physical) [] c n axis x same h at at_x off later = absurd (omega (arith, same))
goes_by_greatest (p ∷ physical) (t ∷ total) [] n axis x same h at at_x off later = absurd h
goes_by_greatest (p ∷ physical) (t ∷ total) (z ∷ zs) zero axis x same h at at_x off later =
    let same_axis : axis ≡ p = cc in
    let same_x : x ≡ z = cc in
    let off_here : IsOn p z → ⊥ = rw (← same_axis, ← same_x) off in
    by_lt_z z p.first
    (λ below. goes_by_first p t physical total z zs h.0 h.1 (inl below) later)
    (λ low. by_lt_z p.last z
    (λ above. goes_by_first p t physical total z zs h.0 h.1 (inr above) later)
    (λ high. absurd (off_here (record { low = low; high = high }))))
goes_by_greatest (p ∷ physical) (t ∷ total) (z ∷ zs) (suc n) axis x same h at at_x off later =
    goes_by_later p t physical total z zs n h.0 h.1
    (goes_by_greatest physical total zs n axis x (omega (arith, same)) h.2 at at_x off later)
