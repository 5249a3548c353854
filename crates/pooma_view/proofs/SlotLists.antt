-- Positions and cells of a list of slots, slot by slot, and of three slots.
use Rattle.std.proofs.Common.{refl, sym, ap, ◌∙◌, subst, arith, lit≤, to_z, of_z, w32, Fits, FitsSigned}
use Rattle.std.proofs.lemmas.Int.{ints, to_z-of_z}
use Rattle.std.proofs.lemmas.List.Elements.{All-head, All-tail}
use Rattle.std.proofs.Math.Nat.{le-mul_of_pos_right, mul-le-mul_left, mul_comm}
use Rattle.std.proofs.Math.IntN.{pos-*ℤ-pos, negsuc-*ℤ-pos, nat_abs}
use Rattle.std.specs.Int.Signed.{non_neg}
use lib.Dec.{T}
use Rattle.std.specs.Prelude.{◌≡◌, ℕ, zero, suc, ◌+◌, ◌*◌, ◌<◌, ◌≤◌, ℤ, pos, negsuc, neg_ℤ, Some, ◌+ℤ◌, ◌*ℤ◌, ◌≤ℤ◌, List, [], ◌∷◌, ◌++◌, length, take, slice_index_or, slice_get, ◌-ℤ◌, Option, None, IfSome}
use Rattle.pooma_domain.specs.Cells.{Interval, axis_length, cells_of, IsIn, IsAxis, IsBox}
use Rattle.pooma_domain.specs.declared.strides.Strided.{Strided}
use Rattle.pooma_domain.proofs.CellOrder.{length-cells_of}
use Rattle.pooma_domain.proofs.PaddedBox.{length_of_axis}
use Rattle.pooma_view.specs.Slots.{places, with_places, positions_of, coordinate, left_over, cell_named, Accepts, HasPlaces}
use Rattle.pooma_view.specs.Views.{IsPaddedView}
use Rattle.pooma_view.specs.declared.slots.Slot.{Slot}
use Rattle.pooma_view.specs.declared.slots.Slot.TheVariants.{Fixed, Along}

-- a position is taken apart by its first slot
pub accepted : (slot : Slot) (axes : List Interval) (p : List ℤ) → IsIn (with_places slot axes) p → Accepts slot p × IsIn axes (left_over slot p)
accepted (Fixed x) axes p h = (tt, h)
accepted (Along s) axes [] h = absurd h
accepted (Along s) axes (k ∷ p) h = ((h.0, h.1), h.2)

pub joined : (slot : Slot) (axes : List Interval) (p : List ℤ) → Accepts slot p → IsIn axes (left_over slot p) → IsIn (with_places slot axes) p
joined (Fixed x) axes p h k = k
joined (Along s) axes [] h k = absurd h
joined (Along s) axes (i ∷ p) h k = (h.0, h.1, k)

-- no more axes than slots
pub few_axes : (slots : List Slot) → length (positions_of slots) ≤ length slots
few_axes [] = omega arith
few_axes (Fixed x ∷ slots) = omega (arith, few_axes slots)
few_axes (Along s ∷ slots) = omega (arith, few_axes slots)

-- the box of the later axes
pub box_tail : (axis : Interval) (axes : List Interval) → IsBox (axis ∷ axes) → IsAxis axis × IsBox axes
box_tail axis axes h =
    let here : IsAxis axis = All-head IsAxis axis axes h.whole in
    let some : 0 < axis_length axis = omega (arith, ints, length_of_axis axis here, here.ordered) in
    let wide : length (cells_of axes) ≤ length (cells_of axes) * axis_length axis = le-mul_of_pos_right (length (cells_of axes)) some in
    let turned : length (cells_of axes) * axis_length axis ≡ axis_length axis * length (cells_of axes) = mul_comm (length (cells_of axes)) (axis_length axis) in (
      here,
      record {
        few = omega (arith, h.few);
        whole = All-tail IsAxis axis axes h.whole;
        countable = omega (arith, h.countable, length-cells_of axis axes, wide, turned);
      },
    )

pub box_of_later : (slot : Slot) (axes : List Interval) → IsBox (with_places slot axes) → HasPlaces slot × IsBox axes
box_of_later (Fixed x) axes h = (tt, h)
box_of_later (Along s) axes h = box_tail (places s) axes h

-- the positions and the cell of three slots, of which those past the view's dims are fixed at 0
pub positions-three : (d : ℕ) (x y z : Slot) → IsPaddedView d x y z → positions_of (take d (x ∷ y ∷ z ∷ [])) ≡ with_places x (with_places y (with_places z []))
positions-three zero x y z h = absurd (omega (arith, h.some))
positions-three (suc zero) x y z h = rw (h.no_y (lit≤ tt), h.no_z (lit≤ tt)) refl
positions-three (suc (suc zero)) x y z h = rw (h.no_z (lit≤ tt)) refl
positions-three (suc (suc (suc zero))) x y z h = refl
positions-three (suc (suc (suc (suc d)))) x y z h = absurd (omega (arith, h.few))

pub cell-three : (d : ℕ) (x y z : Slot) (p : List ℤ) → IsPaddedView d x y z → cell_named (take d (x ∷ y ∷ z ∷ [])) p ≡ take d (coordinate x p ∷ coordinate y (left_over x p) ∷ coordinate z (left_over y (left_over x p)) ∷ [])
cell-three zero x y z p h = refl
cell-three (suc zero) x y z p h = refl
cell-three (suc (suc zero)) x y z p h = refl
cell-three (suc (suc (suc zero))) x y z p h = refl
cell-three (suc (suc (suc (suc d)))) x y z p h = refl

-- the three slots take a position apart
pub record TakesApart (x y z : Slot) (p : List ℤ) : Type 0 where
  pub by_x : Accepts x p
  pub by_y : Accepts y (left_over x p)
  pub by_z : Accepts z (left_over y (left_over x p))
  pub whole : left_over z (left_over y (left_over x p)) ≡ []

only_empty : (p : List ℤ) → IsIn [] p → p ≡ []
only_empty [] h = refl
only_empty (k ∷ p) h = absurd h

pub taken_apart : (d : ℕ) (x y z : Slot) (slots : List Slot) (p : List ℤ) → IsPaddedView d x y z → take d (x ∷ y ∷ z ∷ []) ≡ slots → IsIn (positions_of slots) p → TakesApart x y z p
taken_apart d x y z slots p v e h =
    let there : IsIn (with_places x (with_places y (with_places z []))) p =
    subst (λ (axes : List Interval). IsIn axes p) (sym (ap positions_of e) ∙ positions-three d x y z v) h in
    let a : Accepts x p × IsIn (with_places y (with_places z [])) (left_over x p) = accepted x (with_places y (with_places z [])) p there in
    let b : Accepts y (left_over x p) × IsIn (with_places z []) (left_over y (left_over x p)) = accepted y (with_places z []) (left_over x p) a.1 in
    let c : Accepts z (left_over y (left_over x p)) × IsIn [] (left_over z (left_over y (left_over x p))) = accepted z [] (left_over y (left_over x p)) b.1 in
    record { by_x = a.0; by_y = b.0; by_z = c.0; whole = only_empty (left_over z (left_over y (left_over x p))) c.1 }

pub put_together : (d : ℕ) (x y z : Slot) (slots : List Slot) (p : List ℤ) → IsPaddedView d x y z → take d (x ∷ y ∷ z ∷ []) ≡ slots → TakesApart x y z p → IsIn (positions_of slots) p
put_together d x y z slots p v e t =
    let nothing : IsIn [] (left_over z (left_over y (left_over x p))) = rw t.whole tt in
    subst (λ (axes : List Interval). IsIn axes p) (sym (positions-three d x y z v) ∙ ap positions_of e)
    (joined x (with_places y (with_places z [])) p t.by_x (joined y (with_places z []) (left_over x p) t.by_y (joined z [] (left_over y (left_over x p)) t.by_z nothing)))

-- the boxes of positions of the slots from each on
pub record PlacesFit (x y z : Slot) : Type 0 where
  pub in_x : HasPlaces x
  pub in_y : HasPlaces y
  pub in_z : HasPlaces z
  pub from_x : IsBox (with_places x (with_places y (with_places z [])))
  pub from_y : IsBox (with_places y (with_places z []))
  pub from_z : IsBox (with_places z [])

pub places_fit : (d : ℕ) (x y z : Slot) (slots : List Slot) → IsPaddedView d x y z → take d (x ∷ y ∷ z ∷ []) ≡ slots → IsBox (positions_of slots) → PlacesFit x y z
places_fit d x y z slots v e h =
    let all : IsBox (with_places x (with_places y (with_places z []))) =
    subst IsBox (sym (ap positions_of e) ∙ positions-three d x y z v) h in
    let a : HasPlaces x × IsBox (with_places y (with_places z [])) = box_of_later x (with_places y (with_places z [])) all in
    let b : HasPlaces y × IsBox (with_places z []) = box_of_later y (with_places z []) a.1 in
    let c : HasPlaces z × IsBox [] = box_of_later z [] b.1 in
    record { in_x = a.0; in_y = b.0; in_z = c.0; from_x = all; from_y = a.1; from_z = b.1 }

-- the one place of a coordinate is the number that a slot finds in the position
pub only_place : (s : Strided) (x : ℤ) (n : ℕ) (later p : List ℤ) → ((k : ℕ) → k < s.count → x ≡ s.first +ℤ s.stride *ℤ pos k → Some n ≡ Some k) → Accepts (Along s) p → coordinate (Along s) p ≡ x → left_over (Along s) p ≡ later → pos n ∷ later ≡ p
only_place s x n later [] only a e f = absurd a
only_place s x n later (pos m ∷ p) only a e f =
    let some : 0 < s.count = s.some in
    let within : m < s.count = omega (arith, ints, a.0, a.1) in
    let is : Some n ≡ Some m = only m within (sym e) in
    let same : n ≡ m = cc in
    rw (same, ← f) refl
only_place s x n later (negsuc m ∷ p) only a e f = absurd (omega (arith, ints, a.0))

pub no_place : (s : Strided) (x : ℤ) (p : List ℤ) → ((k : ℕ) → k < s.count → x ≡ s.first +ℤ s.stride *ℤ pos k → ⊥) → Accepts (Along s) p → coordinate (Along s) p ≡ x → ⊥
no_place s x [] none a e = a
no_place s x (pos m ∷ p) none a e =
    let some : 0 < s.count = s.some in
    none m (omega (arith, ints, a.0, a.1)) (sym e)
no_place s x (negsuc m ∷ p) none a e = absurd (omega (arith, ints, a.0))

-- a place on an axis of positions, as the code casts it
pub place_fits : (k n : ℕ) → k < n → (pos n -ℤ pos 1) ≤ℤ pos 4000000 → FitsSigned w32 (pos k)
place_fits k n h limit = omega (arith, ints)

pub place_is_cast : (k n : ℕ) → k < n → (pos n -ℤ pos 1) ≤ℤ pos 4000000 → to_z w32 k ≡ pos k
place_is_cast k n h limit = omega (arith, ints)

-- a number that is not negative, as the code casts it
pub cast_fits : (k : ℤ) → FitsSigned w32 k → pos 0 ≤ℤ k → T (non_neg (to_z w32 (of_z w32 k))) × Fits w32 (nat_abs (to_z w32 (of_z w32 k)))
cast_fits (pos n) f h = rw (to_z-of_z w32 (pos n) f) (tt, omega (arith, ints, f))
cast_fits (negsuc n) f h = absurd (omega (arith, ints))

pub cast_is : (k : ℤ) → FitsSigned w32 k → pos 0 ≤ℤ k → pos (nat_abs (to_z w32 (of_z w32 k))) ≡ k
cast_is (pos n) f h = rw (to_z-of_z w32 (pos n) f) refl
cast_is (negsuc n) f h = absurd (omega (arith, ints))

pub cast_below : (k : ℤ) (n : ℕ) → FitsSigned w32 k → pos 0 ≤ℤ k → 0 < n → k ≤ℤ (pos n -ℤ pos 1) → nat_abs (to_z w32 (of_z w32 k)) < n
cast_below k n f low some high = let is = cast_is k f low in omega (arith, ints, is)

-- the first number of a position that the slot accepts
pub first_number : (s : Strided) (p : List ℤ) (k : ℤ) → slice_get p 0 ≡ Some k → Accepts (Along s) p → (pos 0 ≤ℤ k) × (k ≤ℤ (pos s.count -ℤ pos 1)) × (coordinate (Along s) p ≡ s.first +ℤ s.stride *ℤ k)
first_number s [] k e h = absurd h
first_number s (i ∷ p) k e h = let same : i ≡ k = cc in rw (← same) (h.0, h.1, refl)

abbrev pub zeros : List ℤ
zeros = pos 0 ∷ pos 0 ∷ pos 0 ∷ []

-- a cell of at most three coordinates, and its coordinates filled up with zeros
pub coordinates_of_named : (d : ℕ) (u v w : ℤ) (c r : List ℤ) → 1 ≤ d → d ≤ 3 → (d ≤ 1 → v ≡ pos 0) → (d ≤ 2 → w ≡ pos 0) → take d (u ∷ v ∷ w ∷ []) ≡ c → r ≡ take 3 (c ++ zeros) → (slice_index_or r 0 (pos 0) ≡ u) × (slice_index_or r 1 (pos 0) ≡ v) × (slice_index_or r 2 (pos 0) ≡ w)
coordinates_of_named zero u v w c r some few nv nw e f = absurd (omega arith)
coordinates_of_named (suc zero) u v w c r some few nv nw e f =
    rw (f, ← e) (refl, sym (nv (lit≤ tt)), sym (nw (lit≤ tt)))
coordinates_of_named (suc (suc zero)) u v w c r some few nv nw e f = rw (f, ← e) (refl, refl, sym (nw (lit≤ tt)))
coordinates_of_named (suc (suc (suc zero))) u v w c r some few nv nw e f = rw (f, ← e) (refl, refl, refl)
coordinates_of_named (suc (suc (suc (suc d)))) u v w c r some few nv nw e f = absurd (omega arith)

pub named_of_coordinates : (c r : List ℤ) → length c ≤ 3 → r ≡ take 3 (c ++ zeros) → take (length c) (slice_index_or r 0 (pos 0) ∷ slice_index_or r 1 (pos 0) ∷ slice_index_or r 2 (pos 0) ∷ []) ≡ c
named_of_coordinates [] r few f = refl
named_of_coordinates (a ∷ []) r few f = rw f refl
named_of_coordinates (a ∷ b ∷ []) r few f = rw f refl
named_of_coordinates (a ∷ b ∷ e ∷ []) r few f = rw f refl
named_of_coordinates (a ∷ b ∷ e ∷ g ∷ c) r few f = absurd (omega arith)

-- the three slots take a position apart, and name at it the coordinates of a cell as the code passes them on
pub record NamesThree (x y z : Slot) (p r : List ℤ) : Type 0 where
  pub taken : TakesApart x y z p
  pub on_x : coordinate x p ≡ to_z w32 (of_z w32 (slice_index_or r 0 (pos 0)))
  pub on_y : coordinate y (left_over x p) ≡ to_z w32 (of_z w32 (slice_index_or r 1 (pos 0)))
  pub on_z : coordinate z (left_over y (left_over x p)) ≡ to_z w32 (of_z w32 (slice_index_or r 2 (pos 0)))

pub names_three : (d : ℕ) (x y z : Slot) (slots : List Slot) (p c r : List ℤ) → FitsSigned w32 (slice_index_or r 0 (pos 0)) → FitsSigned w32 (slice_index_or r 1 (pos 0)) → FitsSigned w32 (slice_index_or r 2 (pos 0)) → IsPaddedView d x y z → take d (x ∷ y ∷ z ∷ []) ≡ slots → r ≡ take 3 (c ++ zeros) → IsIn (positions_of slots) p → cell_named slots p ≡ c → NamesThree x y z p r
names_three d x y z slots p c r fx fy fz v e f inside named =
    let here : take d (coordinate x p ∷ coordinate y (left_over x p) ∷ coordinate z (left_over y (left_over x p)) ∷ []) ≡ c =
    sym (cell-three d x y z p v) ∙ ap (λ (s : List Slot). cell_named s p) e ∙ named in
    let all : (slice_index_or r 0 (pos 0) ≡ coordinate x p) × (slice_index_or r 1 (pos 0) ≡ coordinate y (left_over x p)) × (slice_index_or r 2 (pos 0) ≡ coordinate z (left_over y (left_over x p))) =
    coordinates_of_named d (coordinate x p) (coordinate y (left_over x p)) (coordinate z (left_over y (left_over x p))) c r v.some v.few
    (λ h. ap (λ (s : Slot). coordinate s (left_over x p)) (v.no_y h)) (λ h. ap (λ (s : Slot). coordinate s (left_over y (left_over x p))) (v.no_z h)) here f in
    record {
      taken = taken_apart d x y z slots p v e inside;
      on_x = sym (to_z-of_z w32 (slice_index_or r 0 (pos 0)) fx ∙ all.0);
      on_y = sym (to_z-of_z w32 (slice_index_or r 1 (pos 0)) fy ∙ all.1);
      on_z = sym (to_z-of_z w32 (slice_index_or r 2 (pos 0)) fz ∙ all.2);
    }

pub three_name : (d : ℕ) (x y z : Slot) (slots : List Slot) (p c r : List ℤ) → FitsSigned w32 (slice_index_or r 0 (pos 0)) → FitsSigned w32 (slice_index_or r 1 (pos 0)) → FitsSigned w32 (slice_index_or r 2 (pos 0)) → IsPaddedView d x y z → take d (x ∷ y ∷ z ∷ []) ≡ slots → r ≡ take 3 (c ++ zeros) → length c ≡ d → NamesThree x y z p r → IsIn (positions_of slots) p × (cell_named slots p ≡ c)
three_name d x y z slots p c r fx fy fz v e f long n =
    let dims : length c ≤ 3 = omega (arith, v.few, long) in
    let on_x : coordinate x p ≡ slice_index_or r 0 (pos 0) = n.on_x ∙ to_z-of_z w32 (slice_index_or r 0 (pos 0)) fx in
    let on_y : coordinate y (left_over x p) ≡ slice_index_or r 1 (pos 0) = n.on_y ∙ to_z-of_z w32 (slice_index_or r 1 (pos 0)) fy in
    let on_z : coordinate z (left_over y (left_over x p)) ≡ slice_index_or r 2 (pos 0) = n.on_z ∙ to_z-of_z w32 (slice_index_or r 2 (pos 0)) fz in (
      put_together d x y z slots p v e n.taken,
      sym (ap (λ (s : List Slot). cell_named s p) e) ∙ cell-three d x y z p v ∙ rw (on_x, on_y, on_z, ← long) (named_of_coordinates c r dims f),
    )

-- a position of a box of at most three axes
pub length_of_named : (slots : List Slot) (p : List ℤ) → length (cell_named slots p) ≡ length slots
length_of_named [] p = refl
length_of_named (slot ∷ slots) p = ap suc (length_of_named slots (left_over slot p))

pub same_some : {A : Type 0} (a b : A) → Some a ≡ Some b → a ≡ b
same_some a b e = cc

pub not_none : {A B : Type 0} (a : A) → ◌≡◌ {A = Option A} None (Some a) → B
not_none a e = cc

-- what is said of a value that is there follows from what was said
pub if_some_then : {A : Type 0} (P Q : A → Type 0) (r : Option A) → IfSome r P → ((a : A) → P a → Q a) → IfSome r Q
if_some_then P Q None h f = tt
if_some_then P Q (Some a) h f = f a h

length_left : (slot : Slot) (p : List ℤ) → length p ≤ length (left_over slot p) + 1
length_left (Fixed x) p = omega arith
length_left (Along s) [] = omega arith
length_left (Along s) (k ∷ p) = omega arith

-- a position has at most one number more than what is left of it
pub one_more : (slot : Slot) (p later : List ℤ) (n : ℕ) → left_over slot p ≡ later → length later ≤ n → length p ≤ n + 1
one_more slot p later n e h = omega (arith, length_left slot p, ap length e)

-- a number between two places of a slot lies between their coordinates
pub between_ends : (first stride : ℤ) (k n : ℕ) (axis : Interval) → k ≤ n → IsIn (axis ∷ []) (first ∷ []) → IsIn (axis ∷ []) ((first +ℤ stride *ℤ pos n) ∷ []) → IsIn (axis ∷ []) ((first +ℤ stride *ℤ pos k) ∷ [])
between_ends first (pos s) k n axis h f g =
    let here : pos s *ℤ pos k ≡ pos (s * k) = pos-*ℤ-pos s k in
    let there : pos s *ℤ pos n ≡ pos (s * n) = pos-*ℤ-pos s n in
    let below : s * k ≤ s * n = mul-le-mul_left s h in
    (omega (arith, ints, f.0, g.1, below), omega (arith, ints, f.0, g.1, below), tt)
between_ends first (negsuc s) k n axis h f g =
    let here : negsuc s *ℤ pos k ≡ neg_ℤ (pos (suc s * k)) = negsuc-*ℤ-pos s k in
    let there : negsuc s *ℤ pos n ≡ neg_ℤ (pos (suc s * n)) = negsuc-*ℤ-pos s n in
    let below : suc s * k ≤ suc s * n = mul-le-mul_left (suc s) h in
    let low : axis.first ≤ℤ (first +ℤ negsuc s *ℤ pos n) = g.0 in
    let high : (first +ℤ negsuc s *ℤ pos n) ≤ℤ axis.last = g.1 in
    rw here (omega (arith, ints, f.0, f.1, low, high, there, below), omega (arith, ints, f.0, f.1, low, high, there, below), tt)
