-- The box of a slab, its own axis, and the list of slabs.
use Rattle.std.proofs.Common.{refl, sym, ap, ◌∙◌, subst, arith, append-nil, append_assoc}
use Rattle.std.proofs.lemmas.Bool.{ltb-true}
use Rattle.std.proofs.lemmas.Int.{ints}
use Rattle.std.proofs.lemmas.List.Elements.{All-cons, All-head, All-tail, All-weaker, filter-append}
use Rattle.std.proofs.lemmas.Nat.{mul-le}
use Rattle.std.proofs.lemmas.Option.{get_or_from_slice_get}
use Rattle.std.specs.Prelude.{◌≡◌, ℕ, zero, suc, ◌+◌, ◌*◌, ◌<◌, ◌≤◌, nat_lt, ℤ, pos, negsuc, ◌+ℤ◌, ◌-ℤ◌, Bool, true, false, Some, List, [], ◌∷◌, ◌++◌, length, map, filter, slice_get, take, drop, All}
use Rattle.pooma_domain.specs.Cells.{Interval, axis_length, count_of, cells_of, IsIn, IsAxis, IsBox, IsOrdered}
use Rattle.pooma_field.specs.declared.faces.Ends.{Ends}
use Rattle.pooma_field.specs.declared.shapes.Slab.{Slab}
use Rattle.pooma_field.specs.declared.updaters.Updater.{Updater}
use Rattle.pooma_field.specs.Shapes.{Shaped, beyond, slab_axes}
use Rattle.pooma_field.specs.Slabs.{axis_at, is_deep, slab_at, slabs_beside}
use Rattle.pooma_field.proofs.AlongAxes.{length_between}

pub own_axis : (high : Bool) (n : ℕ) (physical total : List Interval) → n < length physical → length total ≡ length physical → axis_at (slab_axes high n physical total) n ≡ beyond high (axis_at physical n) (axis_at total n)
own_axis high n [] total there same = absurd (omega (arith, there))
own_axis high n (p ∷ physical) [] there same = absurd (omega (arith, same))
own_axis high zero (p ∷ physical) (t ∷ total) there same = refl
own_axis high (suc n) (p ∷ physical) (t ∷ total) there same =
    own_axis high n physical total (omega (arith, there)) (omega (arith, same))

pub slab_ordered : (high : Bool) (n : ℕ) (physical total : List Interval) → n < length physical → length total ≡ length physical → All IsOrdered physical → All IsOrdered total → IsOrdered (beyond high (axis_at physical n) (axis_at total n)) → All IsOrdered (slab_axes high n physical total)
slab_ordered high n [] total there same of_p of_t deep = absurd (omega (arith, there))
slab_ordered high n (p ∷ physical) [] there same of_p of_t deep = absurd (omega (arith, same))
slab_ordered high zero (p ∷ physical) (t ∷ total) there same of_p of_t deep =
    All-cons IsOrdered (beyond high p t) physical deep (All-tail IsOrdered p physical of_p)
slab_ordered high (suc n) (p ∷ physical) (t ∷ total) there same of_p of_t deep =
    All-cons IsOrdered t (slab_axes high n physical total) (All-head IsOrdered t total of_t)
    (slab_ordered high n physical total (omega (arith, there)) (omega (arith, same)) (All-tail IsOrdered p physical of_p) (All-tail IsOrdered t total of_t) deep)

pub firsts_in : (axes : List Interval) → All IsOrdered axes → IsIn axes (map (λ axis. axis.first) axes)
firsts_in [] h = tt
firsts_in (axis ∷ axes) h =
    let here : IsOrdered axis = All-head IsOrdered axis axes h in
    (omega (arith, ints), omega (arith, ints, here), firsts_in axes (All-tail IsOrdered axis axes h))

pub lasts_in : (axes : List Interval) → All IsOrdered axes → IsIn axes (map (λ axis. axis.last) axes)
lasts_in [] h = tt
lasts_in (axis ∷ axes) h =
    let here : IsOrdered axis = All-head IsOrdered axis axes h in
    (omega (arith, ints, here), omega (arith, ints), lasts_in axes (All-tail IsOrdered axis axes h))

-- an axis with numbers is in order
pub ordered_if_some : (axis : Interval) → 0 < axis_length axis → IsOrdered axis
ordered_if_some axis some = by ((axis.last -ℤ axis.first) +ℤ pos 1) some refl
  where
    by : (z : ℤ) → 0 < count_of z → z ≡ (axis.last -ℤ axis.first) +ℤ pos 1 → IsOrdered axis
    by (pos n) h e = omega (arith, ints, h, e)
    by (negsuc n) h e = absurd (omega (arith, h))

-- a box without its first axis is one
pub later_box : (axis : Interval) (axes : List Interval) → length (cells_of (axis ∷ axes)) ≡ axis_length axis * length (cells_of axes) → IsBox (axis ∷ axes) → IsBox axes
later_box axis axes counted box =
    let here : IsAxis axis = All-head IsAxis axis axes box.whole in
    let long : pos (axis_length axis) ≡ (axis.last -ℤ axis.first) +ℤ pos 1 = length_between axis here.ordered in
    let some : 1 ≤ axis_length axis = omega (arith, ints, long, here.ordered) in
    let fewer : 1 * length (cells_of axes) ≤ axis_length axis * length (cells_of axes) = mul-le 1 (length (cells_of axes)) (axis_length axis) (length (cells_of axes)) some (omega arith) in
    record {
      few = omega (arith, box.few);
      whole = All-tail IsAxis axis axes box.whole;
      countable = omega (arith, box.countable, counted, fewer);
    }

pub ordered_axes : (axes : List Interval) → IsBox axes → All IsOrdered axes
ordered_axes axes box = All-weaker IsAxis IsOrdered (λ axis h. h.ordered) axes box.whole

-- a slab of the first axis, and one of a later axis
pub slab_of_first : (high : Bool) (n : ℕ) (physical total : List Interval) (p t : Interval) → n ≡ 0 → slice_get physical 0 ≡ Some p → slice_get total 0 ≡ Some t → slab_axes high n physical total ≡ beyond high p t ∷ drop 1 physical
slab_of_first high n [] total p t first at_p at_t = cc
slab_of_first high n (q ∷ physical) [] p t first at_p at_t = cc
slab_of_first high zero (q ∷ physical) (u ∷ total) p t first at_p at_t =
    let same_p : q ≡ p = cc in
    let same_t : u ≡ t = cc in
    rw (same_p, same_t) refl
slab_of_first high (suc n) (q ∷ physical) (u ∷ total) p t first at_p at_t = absurd (omega (arith, first))

pub slab_of_later : (high : Bool) (n m : ℕ) (physical total : List Interval) (t : Interval) → n ≡ suc m → n < length physical → slice_get total 0 ≡ Some t → slab_axes high n physical total ≡ t ∷ slab_axes high m (drop 1 physical) (drop 1 total)
slab_of_later high n m [] total t later there at_t = absurd (omega (arith, there))
slab_of_later high n m (q ∷ physical) [] t later there at_t = cc
slab_of_later high zero m (q ∷ physical) (u ∷ total) t later there at_t = absurd (omega (arith, later))
slab_of_later high (suc n) m (q ∷ physical) (u ∷ total) t later there at_t =
    let same_t : u ≡ t = cc in
    let same_n : n ≡ m = omega (arith, later) in
    rw (same_t, same_n) refl

pub axis_at_is : (box : List Interval) (n : ℕ) (axis : Interval) → slice_get box n ≡ Some axis → axis_at box n ≡ axis
axis_at_is box n axis at = get_or_from_slice_get box n axis _ at

pub length_drop : (box : List Interval) → 0 < length box → suc (length (drop 1 box)) ≡ length box
length_drop [] h = absurd (omega (arith, h))
length_drop (axis ∷ axes) h = refl

-- of a slab that is a box: its first axis and the later ones
pub box_of_first : (high : Bool) (n : ℕ) (physical total : List Interval) (p t : Interval) → n ≡ 0 → slice_get physical 0 ≡ Some p → slice_get total 0 ≡ Some t → IsBox (slab_axes high n physical total) → IsBox (beyond high p t ∷ drop 1 physical)
box_of_first high n physical total p t first at_p at_t box = subst IsBox (slab_of_first high n physical total p t first at_p at_t) box

pub box_of_later : (high : Bool) (n m : ℕ) (physical total : List Interval) (t : Interval) → n ≡ suc m → n < length physical → slice_get total 0 ≡ Some t → IsBox (slab_axes high n physical total) → IsBox (t ∷ slab_axes high m (drop 1 physical) (drop 1 total))
box_of_later high n m physical total t later there at_t box = subst IsBox (slab_of_later high n m physical total t later there at_t) box

pub some_first : (box : List Interval) → 0 < length box → (t : Interval) × (slice_get box 0 ≡ Some t)
some_first [] h = absurd (omega (arith, h))
some_first (axis ∷ axes) h = (axis, refl)

-- whether the total domain reaches beyond the face, by the two axes
pub deep_is : (shape : Shaped) (n : ℕ) (high : Bool) (u : Updater) (p t : Interval) → n < length shape.physical → length shape.total ≡ length shape.physical → slice_get shape.physical n ≡ Some p → slice_get shape.total n ≡ Some t → is_deep (slab_at shape n high u) ≡ nat_lt 0 (axis_length (beyond high p t))
deep_is shape n high u p t there same at_p at_t =
    ap (λ (axis : Interval). nat_lt 0 (axis_length axis))
    (own_axis high n shape.physical shape.total there same
    ∙ ap (λ (q : Interval). beyond high q (axis_at shape.total n)) (axis_at_is shape.physical n p at_p)
    ∙ ap (beyond high p) (axis_at_is shape.total n t at_t))

pub some_numbers : (high : Bool) (physical total : List Interval) (n : ℕ) (p t : Interval) (b : Bool) → slice_get physical n ≡ Some p → slice_get total n ≡ Some t → b ≡ nat_lt 0 (axis_length (beyond high p t)) → b ≡ true → 0 < axis_length (beyond high (axis_at physical n) (axis_at total n))
some_numbers high physical total n p t b at_p at_t tests so =
    rw (axis_at_is physical n p at_p, axis_at_is total n t at_t)
    (let test : nat_lt 0 (axis_length (beyond high p t)) ≡ true = sym tests ∙ so in ltb-true 0 (axis_length (beyond high p t)) test)

-- one slab is kept, or it is left out
pub kept_alone : (slab : Slab) (slabs list : List Slab) (b : Bool) → is_deep slab ≡ b → b ≡ true → list ≡ slabs ++ slab ∷ [] → list ≡ slabs ++ filter is_deep (slab ∷ [])
kept_alone slab slabs list b test so is =
    let kept : filter is_deep (slab ∷ []) ≡ slab ∷ [] = rw (test ∙ so) refl in
    is ∙ ap (λ (more : List Slab). slabs ++ more) (sym kept)

pub left_out : (slab : Slab) (slabs list : List Slab) (b : Bool) → is_deep slab ≡ b → b ≡ false → list ≡ slabs → list ≡ slabs ++ filter is_deep (slab ∷ [])
left_out slab slabs list b test so is =
    let left : filter is_deep (slab ∷ []) ≡ [] = rw (test ∙ so) refl in
    is ∙ sym (append-nil slabs) ∙ ap (λ (more : List Slab). slabs ++ more) (sym left)

-- the slabs of one axis more
pub slabs_more : (shape : Shaped) (n m k : ℕ) (faces : List Ends) (ends : Ends) → m ≡ n + k → slice_get faces k ≡ Some ends → slabs_beside shape n (take (suc k) faces) ≡ slabs_beside shape n (take k faces) ++ slab_at shape m false ends.low ∷ slab_at shape m true ends.high ∷ []
slabs_more shape n m k [] ends is at = cc
slabs_more shape n m zero (e ∷ faces) ends is at =
    let same : e ≡ ends = cc in
    let here : m ≡ n = omega (arith, is) in
    rw (same, here) refl
slabs_more shape n m (suc k) (e ∷ faces) ends is at =
    ap (λ (more : List Slab). slab_at shape n false e.low ∷ slab_at shape n true e.high ∷ more)
    (slabs_more shape (suc n) m k faces ends (omega (arith, is)) at)

pub deep_slabs_more : (shape : Shaped) (k m : ℕ) (faces : List Ends) (ends : Ends) (before after last : List Slab) → m ≡ suc k → slice_get faces k ≡ Some ends → before ≡ filter is_deep (slabs_beside shape 0 (take k faces)) → after ≡ before ++ filter is_deep (slab_at shape k false ends.low ∷ []) → last ≡ after ++ filter is_deep (slab_at shape k true ends.high ∷ []) → last ≡ filter is_deep (slabs_beside shape 0 (take m faces))
deep_slabs_more shape k m faces ends before after last next at is_before is_after is_last =
    let low = slab_at shape k false ends.low in
    let high = slab_at shape k true ends.high in
    let old = slabs_beside shape 0 (take k faces) in
    is_last
    ∙ ap (λ (xs : List Slab). xs ++ filter is_deep (high ∷ [])) (is_after ∙ ap (λ (xs : List Slab). xs ++ filter is_deep (low ∷ [])) is_before ∙ sym (filter-append is_deep old (low ∷ [])))
    ∙ sym (filter-append is_deep (old ++ low ∷ []) (high ∷ []))
    ∙ ap (filter is_deep) (append_assoc old (low ∷ []) (high ∷ []) ∙ sym (slabs_more shape 0 k k faces ends (omega arith) at) ∙ ap (λ (j : ℕ). slabs_beside shape 0 (take j faces)) (sym next))
