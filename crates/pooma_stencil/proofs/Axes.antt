-- The positions that are read for an offset lie in those of the view, axis by axis.
use Rattle.std.proofs.Common.{◌≡◌, suc, ℤ, pos, ◌+ℤ◌, ◌-ℤ◌, refl, sym, ap, ap₂, arith, List, [], ◌∷◌, length}
use Rattle.std.specs.Prelude.{map, All}
use Rattle.std.proofs.lemmas.Int.{ints}
use Rattle.std.proofs.lemmas.List.Elements.{All-nil, All-cons, All-head, All-tail}
use Rattle.pooma_domain.specs.Cells.{Interval, interval, IsIn, IsOrdered}
use Rattle.pooma_domain.specs.Operations.{moved, shifted, reaches}
use Rattle.pooma_view.specs.Slots.{positions_of, from_zero}
use Rattle.pooma_view.specs.Restricted.{restricted_slots}
use Rattle.pooma_view.specs.declared.slots.Slot.{Slot}
use Rattle.pooma_view.specs.declared.slots.Slot.TheVariants.{Fixed, Along}
use Rattle.pooma_stencil.specs.Stencils.{IsExtent, shrunk}

abbrev pub firsts : List Interval → List ℤ
firsts axes = map (λ (a : Interval). a.first) axes

abbrev pub lasts : List Interval → List ℤ
lasts axes = map (λ (a : Interval). a.last) axes

-- as many axes, extents and numbers of an offset
pub length-shrunk : (axes : List Interval) (lower upper : List ℤ) → length lower ≡ length axes → length upper ≡ length axes → length (shrunk axes lower upper) ≡ length axes
length-shrunk [] lower upper e f = refl
length-shrunk (a ∷ axes) [] upper e f = absurd (omega (arith, e))
length-shrunk (a ∷ axes) (l ∷ lower) [] e f = absurd (omega (arith, f))
length-shrunk (a ∷ axes) (l ∷ lower) (u ∷ upper) e f =
    let rest = length-shrunk axes lower upper (omega (arith, e)) (omega (arith, f)) in
    omega (arith, rest)

pub length-within : (lower upper o : List ℤ) → length upper ≡ length lower → IsIn (reaches lower upper) o → length o ≡ length lower
length-within [] upper [] e h = refl
length-within [] upper (x ∷ o) e h = absurd h
length-within (l ∷ lower) [] o e h = absurd (omega (arith, e))
length-within (l ∷ lower) (u ∷ upper) [] e h = absurd h
length-within (l ∷ lower) (u ∷ upper) (x ∷ o) e h =
    let rest = length-within lower upper o (omega (arith, e)) h.2 in
    omega (arith, rest)

pub length-moved : (c by : List ℤ) → length c ≡ length by → length (moved c by) ≡ length c
length-moved [] by e = refl
length-moved (x ∷ c) [] e = absurd (omega (arith, e))
length-moved (x ∷ c) (y ∷ by) e = let rest = length-moved c by (omega (arith, e)) in omega (arith, rest)

-- the axes of a view, extents for each of them, and an offset within these
pub record Fits (axes : List Interval) (lower upper o : List ℤ) : Type 0 where
  pub dims : length lower ≡ length axes
  pub paired : length upper ≡ length axes
  pub low : All IsExtent lower
  pub high : All IsExtent upper
  pub room : All IsOrdered (shrunk axes lower upper)
  pub within : IsIn (reaches lower upper) o

fits_later : (a : Interval) (axes : List Interval) (l u x : ℤ) (lower upper o : List ℤ) → Fits (a ∷ axes) (l ∷ lower) (u ∷ upper) (x ∷ o) → Fits axes lower upper o
fits_later a axes l u x lower upper o h = record {
  dims = omega (arith, h.dims);
  paired = omega (arith, h.paired);
  low = All-tail IsExtent l lower h.low;
  high = All-tail IsExtent u upper h.high;
  room = All-tail IsOrdered (interval a.first (a.last -ℤ (l +ℤ u))) (shrunk axes lower upper) h.room;
  within = h.within.2;
}

-- the ends of what is left are numbers of the axes
pub ends_of_shrunk : (axes : List Interval) (lower upper : List ℤ) → length lower ≡ length axes → length upper ≡ length axes → All IsExtent lower → All IsExtent upper → All IsOrdered (shrunk axes lower upper) → IsIn axes (firsts (shrunk axes lower upper)) × IsIn axes (lasts (shrunk axes lower upper))
ends_of_shrunk [] lower upper e f low high room = (tt, tt)
ends_of_shrunk (a ∷ axes) [] upper e f low high room = absurd (omega (arith, e))
ends_of_shrunk (a ∷ axes) (l ∷ lower) [] e f low high room = absurd (omega (arith, f))
ends_of_shrunk (a ∷ axes) (l ∷ lower) (u ∷ upper) e f low high room =
    let left : Interval = interval a.first (a.last -ℤ (l +ℤ u)) in
    let here : IsOrdered left = All-head IsOrdered left (shrunk axes lower upper) room in
    let l_is : IsExtent l = All-head IsExtent l lower low in
    let u_is : IsExtent u = All-head IsExtent u upper high in
    let later = ends_of_shrunk axes lower upper (omega (arith, e)) (omega (arith, f)) (All-tail IsExtent l lower low) (All-tail IsExtent u upper high) (All-tail IsOrdered left (shrunk axes lower upper) room) in (
      (omega (arith, ints), omega (arith, ints, here, l_is.0, u_is.0), later.0),
      (omega (arith, ints, here), omega (arith, ints, l_is.0, u_is.0), later.1),
    )

-- the positions that are read for an offset
abbrev pub read_box : List Interval → List ℤ → List ℤ → List ℤ → List Interval
read_box axes lower upper o = shifted (shrunk axes lower upper) (moved lower o)

pub first_read_is_in : (axes : List Interval) (lower upper o : List ℤ) → Fits axes lower upper o → IsIn axes (firsts (read_box axes lower upper o))
first_read_is_in [] lower upper o h = tt
first_read_is_in (a ∷ axes) [] upper o h = absurd (omega (arith, h.dims))
first_read_is_in (a ∷ axes) (l ∷ lower) [] o h = absurd (omega (arith, h.paired))
first_read_is_in (a ∷ axes) (l ∷ lower) (u ∷ upper) [] h = absurd h.within
first_read_is_in (a ∷ axes) (l ∷ lower) (u ∷ upper) (x ∷ o) h =
    let here : IsOrdered (interval a.first (a.last -ℤ (l +ℤ u))) = All-head IsOrdered (interval a.first (a.last -ℤ (l +ℤ u))) (shrunk axes lower upper) h.room in
    (omega (arith, ints, h.within.0), omega (arith, ints, here, h.within.1), first_read_is_in axes lower upper o (fits_later a axes l u x lower upper o h))

pub last_read_is_in : (axes : List Interval) (lower upper o : List ℤ) → Fits axes lower upper o → IsIn axes (lasts (read_box axes lower upper o))
last_read_is_in [] lower upper o h = tt
last_read_is_in (a ∷ axes) [] upper o h = absurd (omega (arith, h.dims))
last_read_is_in (a ∷ axes) (l ∷ lower) [] o h = absurd (omega (arith, h.paired))
last_read_is_in (a ∷ axes) (l ∷ lower) (u ∷ upper) [] h = absurd h.within
last_read_is_in (a ∷ axes) (l ∷ lower) (u ∷ upper) (x ∷ o) h =
    let here : IsOrdered (interval a.first (a.last -ℤ (l +ℤ u))) = All-head IsOrdered (interval a.first (a.last -ℤ (l +ℤ u))) (shrunk axes lower upper) h.room in
    (omega (arith, ints, here, h.within.0), omega (arith, ints, h.within.1), last_read_is_in axes lower upper o (fits_later a axes l u x lower upper o h))

pub read_is_ordered : (axes : List Interval) (lower upper o : List ℤ) → Fits axes lower upper o → All IsOrdered (read_box axes lower upper o)
read_is_ordered [] lower upper o h = All-nil IsOrdered
read_is_ordered (a ∷ axes) [] upper o h = absurd (omega (arith, h.dims))
read_is_ordered (a ∷ axes) (l ∷ lower) [] o h = absurd (omega (arith, h.paired))
read_is_ordered (a ∷ axes) (l ∷ lower) (u ∷ upper) [] h = absurd h.within
read_is_ordered (a ∷ axes) (l ∷ lower) (u ∷ upper) (x ∷ o) h =
    let here : IsOrdered (interval a.first (a.last -ℤ (l +ℤ u))) = All-head IsOrdered (interval a.first (a.last -ℤ (l +ℤ u))) (shrunk axes lower upper) h.room in
    let moved_axis : Interval = interval (a.first +ℤ (l +ℤ x)) ((a.last -ℤ (l +ℤ u)) +ℤ (l +ℤ x)) in
    All-cons IsOrdered moved_axis (read_box axes lower upper o) (omega (arith, ints, here)) (read_is_ordered axes lower upper o (fits_later a axes l u x lower upper o h))

-- a position of the result, moved by the lower extents and the offset, is a position of the view
pub read_is_in : (axes : List Interval) (lower upper o p : List ℤ) → Fits axes lower upper o → IsIn (shrunk axes lower upper) p → IsIn axes (moved p (moved lower o))
read_is_in [] lower upper o [] h q = tt
read_is_in [] lower upper o (k ∷ p) h q = absurd q
read_is_in (a ∷ axes) [] upper o p h q = absurd (omega (arith, h.dims))
read_is_in (a ∷ axes) (l ∷ lower) [] o p h q = absurd (omega (arith, h.paired))
read_is_in (a ∷ axes) (l ∷ lower) (u ∷ upper) [] p h q = absurd h.within
read_is_in (a ∷ axes) (l ∷ lower) (u ∷ upper) (x ∷ o) [] h q = absurd q
read_is_in (a ∷ axes) (l ∷ lower) (u ∷ upper) (x ∷ o) (k ∷ p) h q =
    (omega (arith, ints, q.0, h.within.0), omega (arith, ints, q.1, h.within.1), read_is_in axes lower upper o p (fits_later a axes l u x lower upper o h) q.2)

-- each axis begins at 0
abbrev pub FromZero : List Interval → Type 0
FromZero axes = All (λ (a : Interval). a.first ≡ pos 0) axes

pub positions_from_zero : (slots : List Slot) → FromZero (positions_of slots)
positions_from_zero [] = All-nil (λ (a : Interval). a.first ≡ pos 0)
positions_from_zero (Fixed x ∷ slots) = positions_from_zero slots
positions_from_zero (Along s ∷ slots) =
    All-cons (λ (a : Interval). a.first ≡ pos 0) _ (positions_of slots) refl (positions_from_zero slots)

same_interval : (a b : Interval) → a.first ≡ b.first → a.last ≡ b.last → a ≡ b
same_interval a b e f = ap₂ (λ (x y : ℤ). interval x y) e f

-- what is read for an offset is as long as the result
pub from_zero-read : (axes : List Interval) (lower upper o : List ℤ) → FromZero axes → Fits axes lower upper o → from_zero (read_box axes lower upper o) ≡ shrunk axes lower upper
from_zero-read [] lower upper o z h = refl
from_zero-read (a ∷ axes) [] upper o z h = absurd (omega (arith, h.dims))
from_zero-read (a ∷ axes) (l ∷ lower) [] o z h = absurd (omega (arith, h.paired))
from_zero-read (a ∷ axes) (l ∷ lower) (u ∷ upper) [] z h = absurd h.within
from_zero-read (a ∷ axes) (l ∷ lower) (u ∷ upper) (x ∷ o) z h =
    let zero_first : a.first ≡ pos 0 = All-head (λ (i : Interval). i.first ≡ pos 0) a axes z in
    let ends : ((a.last -ℤ (l +ℤ u)) +ℤ (l +ℤ x)) -ℤ (a.first +ℤ (l +ℤ x)) ≡ a.last -ℤ (l +ℤ u) = omega (arith, ints, zero_first) in
    ap₂ (λ (i : Interval) (is : List Interval). i ∷ is)
    (same_interval (interval (pos 0) (((a.last -ℤ (l +ℤ u)) +ℤ (l +ℤ x)) -ℤ (a.first +ℤ (l +ℤ x)))) (interval a.first (a.last -ℤ (l +ℤ u))) (sym zero_first) ends)
    (from_zero-read axes lower upper o (All-tail (λ (i : Interval). i.first ≡ pos 0) a axes z) (fits_later a axes l u x lower upper o h))

-- from where it is read on, a position is the one moved by the lower extents and the offset
pub moved-read : (axes : List Interval) (lower upper o p : List ℤ) → FromZero axes → Fits axes lower upper o → IsIn (shrunk axes lower upper) p → moved p (firsts (read_box axes lower upper o)) ≡ moved p (moved lower o)
moved-read [] lower upper o [] z h q = refl
moved-read [] lower upper o (k ∷ p) z h q = absurd q
moved-read (a ∷ axes) [] upper o p z h q = absurd (omega (arith, h.dims))
moved-read (a ∷ axes) (l ∷ lower) [] o p z h q = absurd (omega (arith, h.paired))
moved-read (a ∷ axes) (l ∷ lower) (u ∷ upper) [] p z h q = absurd h.within
moved-read (a ∷ axes) (l ∷ lower) (u ∷ upper) (x ∷ o) [] z h q = absurd q
moved-read (a ∷ axes) (l ∷ lower) (u ∷ upper) (x ∷ o) (k ∷ p) z h q =
    let zero_first : a.first ≡ pos 0 = All-head (λ (i : Interval). i.first ≡ pos 0) a axes z in
    let here : k +ℤ (a.first +ℤ (l +ℤ x)) ≡ k +ℤ (l +ℤ x) = omega (arith, ints, zero_first) in
    ap₂ (λ (y : ℤ) (ys : List ℤ). y ∷ ys) here (moved-read axes lower upper o p (All-tail (λ (i : Interval). i.first ≡ pos 0) a axes z) (fits_later a axes l u x lower upper o h) q.2)

pub length-restricted_slots : (slots : List Slot) (axes : List Interval) → length (restricted_slots slots axes) ≡ length slots
length-restricted_slots [] axes = refl
length-restricted_slots (s ∷ slots) axes = ap suc (length-restricted_slots slots _)
