-- All cells of a view lie between those at its first and last places; and a view at the places of a box.
use Rattle.std.proofs.Common.{refl, sym, ap, ◌∙◌, subst, arith, to_z, of_z, w32, FitsSigned}
use Rattle.std.proofs.lemmas.Int.{ints, to_z-of_z}
use Rattle.std.proofs.Math.IntN.{*ℤ-zero, +ℤ_idr}
use Rattle.std.specs.Prelude.{◌≡◌, ◌↔◌, ℕ, zero, suc, ◌-◌, ◌<◌, ℤ, pos, negsuc, Some, ◌+ℤ◌, ◌-ℤ◌, ◌*ℤ◌, ◌≤ℤ◌, List, [], ◌∷◌, map, take, slice_get}
use Rattle.pooma_domain.specs.Cells.{Interval, interval, IsIn}
use Rattle.pooma_domain.specs.Operations.{moved}
use Rattle.pooma_domain.specs.declared.strides.Strided.{Strided}
use Rattle.pooma_domain.proofs.BoxSets.{Holds}
use Rattle.pooma_domain.proofs.PaddedMoves.{same_interval}
use Rattle.pooma_domain.proofs.Striding.{strides_add}
use Rattle.pooma_view.specs.Slots.{places, with_places, positions_of, coordinate, left_over, cell_named, Accepts, first_named, last_named, IsWithinPlaces, IsRestricted, from_zero}
use Rattle.pooma_view.specs.Views.{no_slot, IsPaddedView}
use Rattle.pooma_view.specs.declared.slots.Slot.{Slot}
use Rattle.pooma_view.specs.declared.slots.Slot.TheVariants.{Fixed, Along}
use Rattle.pooma_view.proofs.SlotLists.{accepted, joined, between_ends, positions-three, cell-three}

-- a slot's coordinates lie between its ends
slot_within : (axis : Interval) (slot : Slot) (p : List ℤ) → Holds axis (first_named slot) → Holds axis (last_named slot) → Accepts slot p → Holds axis (coordinate slot p)
slot_within axis (Fixed x) p h k a = h
slot_within axis (Along s) [] h k a = absurd a
slot_within axis (Along s) (pos m ∷ p) h k a =
    let some : 0 < s.count = s.some in
    let there : IsIn (axis ∷ []) ((s.first +ℤ s.stride *ℤ pos m) ∷ []) =
    between_ends s.first s.stride m (s.count - 1) axis (omega (arith, ints, a.0, a.1)) (h.0, h.1, tt) (k.0, k.1, tt) in
    (there.0, there.1)
slot_within axis (Along s) (negsuc m ∷ p) h k a = absurd (omega (arith, ints, a.0))

pub named_within : (axes : List Interval) (slots : List Slot) (p : List ℤ) → IsIn axes (map first_named slots) → IsIn axes (map last_named slots) → IsIn (positions_of slots) p → IsIn axes (cell_named slots p)
named_within [] [] p h k q = tt
named_within [] (slot ∷ slots) p h k q = absurd h
named_within (axis ∷ axes) [] p h k q = absurd h
named_within (axis ∷ axes) (slot ∷ slots) p h k q =
    let parts : Accepts slot p × IsIn (positions_of slots) (left_over slot p) = accepted slot (positions_of slots) p q in
    let here : Holds axis (coordinate slot p) = slot_within axis slot p (h.0, h.1) (k.0, k.1) parts.0 in
    (here.0, here.1, named_within axes slots (left_over slot p) h.2 k.2 parts.1)

-- the positions of the first and of the last places
with_first : Slot → List ℤ → List ℤ
with_first (Fixed x) p = p
with_first (Along s) p = pos 0 ∷ p

with_last : Slot → List ℤ → List ℤ
with_last (Fixed x) p = p
with_last (Along s) p = pos (s.count - 1) ∷ p

pub first_position : List Slot → List ℤ
first_position [] = []
first_position (slot ∷ slots) = with_first slot (first_position slots)

pub last_position : List Slot → List ℤ
last_position [] = []
last_position (slot ∷ slots) = with_last slot (last_position slots)

first_of_slot : (slot : Slot) (p : List ℤ) → Accepts slot (with_first slot p) × (coordinate slot (with_first slot p) ≡ first_named slot) × (left_over slot (with_first slot p) ≡ p)
unfolding with_first
first_of_slot (Fixed x) p = (tt, refl, refl)
first_of_slot (Along s) p =
    let some : 0 < s.count = s.some in
    ((omega (arith, ints), omega (arith, ints)), ap (λ v. s.first +ℤ v) (*ℤ-zero s.stride) ∙ +ℤ_idr s.first, refl)

last_of_slot : (slot : Slot) (p : List ℤ) → Accepts slot (with_last slot p) × (coordinate slot (with_last slot p) ≡ last_named slot) × (left_over slot (with_last slot p) ≡ p)
unfolding with_last
last_of_slot (Fixed x) p = (tt, refl, refl)
last_of_slot (Along s) p =
    let some : 0 < s.count = s.some in
    ((omega (arith, ints), omega (arith, ints)), refl, refl)

pub first_position_is : (slots : List Slot) → IsIn (positions_of slots) (first_position slots) × (cell_named slots (first_position slots) ≡ map first_named slots)
unfolding first_position
first_position_is [] = (tt, refl)
first_position_is (slot ∷ slots) =
    let here : Accepts slot (with_first slot (first_position slots)) × (coordinate slot (with_first slot (first_position slots)) ≡ first_named slot) × (left_over slot (with_first slot (first_position slots)) ≡ first_position slots) =
    first_of_slot slot (first_position slots) in
    let later : IsIn (positions_of slots) (first_position slots) × (cell_named slots (first_position slots) ≡ map first_named slots) = first_position_is slots in (
      joined slot (positions_of slots) (with_first slot (first_position slots)) here.0 (rw here.2 later.0),
      rw (here.1, here.2, later.1) refl,
    )

pub last_position_is : (slots : List Slot) → IsIn (positions_of slots) (last_position slots) × (cell_named slots (last_position slots) ≡ map last_named slots)
unfolding last_position
last_position_is [] = (tt, refl)
last_position_is (slot ∷ slots) =
    let here : Accepts slot (with_last slot (last_position slots)) × (coordinate slot (with_last slot (last_position slots)) ≡ last_named slot) × (left_over slot (with_last slot (last_position slots)) ≡ last_position slots) =
    last_of_slot slot (last_position slots) in
    let later : IsIn (positions_of slots) (last_position slots) × (cell_named slots (last_position slots) ≡ map last_named slots) = last_position_is slots in (
      joined slot (positions_of slots) (with_last slot (last_position slots)) here.0 (rw here.2 later.0),
      rw (here.1, here.2, later.1) refl,
    )

pub map-three : {A B : Type 0} (f : A → B) → (d : ℕ) (x y z : A) → map f (take d (x ∷ y ∷ z ∷ [])) ≡ take d (f x ∷ f y ∷ f z ∷ [])
map-three f zero x y z = refl
map-three f (suc zero) x y z = refl
map-three f (suc (suc zero)) x y z = refl
map-three f (suc (suc (suc zero))) x y z = refl
map-three f (suc (suc (suc (suc d)))) x y z = refl

-- whether all cells of a view lie in a box is told by the two
pub first_within : (slots : List Slot) (axes : List Interval) (u : List ℤ) → u ≡ map first_named slots → ((p : List ℤ) → IsIn (positions_of slots) p → IsIn axes (cell_named slots p)) → IsIn axes u
first_within slots axes u e h =
    subst (IsIn axes) ((first_position_is slots).1 ∙ sym e) (h (first_position slots) (first_position_is slots).0)

pub ends_tell : (slots : List Slot) (axes : List Interval) (u v : List ℤ) → u ≡ map first_named slots → v ≡ map last_named slots → (IsIn axes u × IsIn axes v) ↔ ((p : List ℤ) → IsIn (positions_of slots) p → IsIn axes (cell_named slots p))
ends_tell slots axes u v eu ev = (
  λ h p q. named_within axes slots p (subst (IsIn axes) eu h.0) (subst (IsIn axes) ev h.1) q,
  λ h. (
    first_within slots axes u eu h,
    subst (IsIn axes) ((last_position_is slots).1 ∙ sym ev) (h (last_position slots) (last_position_is slots).0),
  ),
)

-- the first axis of a box of positions
pub first_places : (s : Strided) (axes : List Interval) (a : Interval) → slice_get axes 0 ≡ Some a → IsWithinPlaces (Along s) axes → (pos 0 ≤ℤ a.first) × (a.last ≤ℤ (pos s.count -ℤ pos 1))
first_places s [] a e h = absurd h
first_places s (axis ∷ axes) a e h =
    let same : axis ≡ a = cc in
    subst (λ (i : Interval). (pos 0 ≤ℤ i.first) × (i.last ≤ℤ (pos s.count -ℤ pos 1))) same h

pub restricted_along : (s t : Strided) (axes : List Interval) (a : Interval) → slice_get axes 0 ≡ Some a → t.first ≡ s.first +ℤ s.stride *ℤ a.first → t.stride ≡ s.stride → pos t.count ≡ (a.last -ℤ a.first) +ℤ pos 1 → IsRestricted (Along s) (Along t) axes
restricted_along s t [] a e f g n = cc
restricted_along s t (axis ∷ axes) a e f g n =
    let same : a ≡ axis = cc in
    let P : Interval → Type 0 = λ i. (t.first ≡ s.first +ℤ s.stride *ℤ i.first) × (t.stride ≡ s.stride) × (pos t.count ≡ (i.last -ℤ i.first) +ℤ pos 1) in
    subst P same (f, g, n)

-- the box of positions of one slot, restricted
pub within_places : (slot : Slot) (later : List Interval) (axes : List Interval) → IsIn (with_places slot later) (map (λ (a : Interval). a.first) axes) → IsIn (with_places slot later) (map (λ (a : Interval). a.last) axes) → IsWithinPlaces slot axes × IsIn later (map (λ (a : Interval). a.first) (left_over slot axes)) × IsIn later (map (λ (a : Interval). a.last) (left_over slot axes))
within_places (Fixed x) later axes h k = (tt, h, k)
within_places (Along s) later [] h k = absurd h
within_places (Along s) later (axis ∷ axes) h k = ((h.0, k.1), h.2, k.2)

pub restricted_places : (s t : Slot) (axes later : List Interval) → IsWithinPlaces s axes → IsRestricted s t axes → later ≡ from_zero (left_over s axes) → with_places t later ≡ from_zero axes
restricted_places (Fixed x) (Fixed y) axes later h r e = e
restricted_places (Fixed x) (Along t) axes later h r e = absurd r
restricted_places (Along s) (Fixed y) axes later h r e = absurd r
restricted_places (Along s) (Along t) [] later h r e = absurd r
restricted_places (Along s) (Along t) (axis ∷ axes) later h r e =
    let here : places t ≡ interval (pos 0) (axis.last -ℤ axis.first) =
    same_interval (places t) (interval (pos 0) (axis.last -ℤ axis.first)) refl (omega (arith, ints, r.2)) in
    rw (here, e) refl

pub restricted_cell : (s t : Slot) (axes : List Interval) (p : List ℤ) → IsWithinPlaces s axes → IsRestricted s t axes → IsIn (from_zero axes) p → (coordinate t p ≡ coordinate s (moved p (map (λ (a : Interval). a.first) axes))) × (left_over s (moved p (map (λ (a : Interval). a.first) axes)) ≡ moved (left_over t p) (map (λ (a : Interval). a.first) (left_over s axes))) × IsIn (from_zero (left_over s axes)) (left_over t p)
restricted_cell (Fixed x) (Fixed y) axes p h r q = (sym r, refl, q)
restricted_cell (Fixed x) (Along t) axes p h r q = absurd r
restricted_cell (Along s) (Fixed y) axes p h r q = absurd r
restricted_cell (Along s) (Along t) [] p h r q = absurd r
restricted_cell (Along s) (Along t) (axis ∷ axes) [] h r q = absurd q
restricted_cell (Along s) (Along t) (axis ∷ axes) (k ∷ p) h r q =
    (one_coordinate t.first t.stride s.first s.stride k axis.first r.0 r.1 q.0 h.0, refl, q.2)
  where
    one_coordinate : (tf ts sf ss k n : ℤ) → tf ≡ sf +ℤ ss *ℤ n → ts ≡ ss → pos 0 ≤ℤ k → pos 0 ≤ℤ n → tf +ℤ ts *ℤ k ≡ sf +ℤ ss *ℤ (k +ℤ n)
    one_coordinate tf ts sf ss (pos k) (pos n) e f hk hn =
        rw f (omega (arith, ints, e, strides_add ss k n))
    one_coordinate tf ts sf ss (pos k) (negsuc n) e f hk hn = absurd (omega (arith, ints, hn))
    one_coordinate tf ts sf ss (negsuc k) n e f hk hn = absurd (omega (arith, ints, hk))

restricted_none : (t : Slot) (axes : List Interval) → IsRestricted no_slot t axes → t ≡ no_slot
restricted_none (Fixed y) axes r = ap Fixed (sym r)
restricted_none (Along t) axes r = absurd r

-- the three slots are restricted by a box of positions
pub record WithinThree (x y z : Slot) (axes : List Interval) : Type 0 where
  pub by_x : IsWithinPlaces x axes
  pub by_y : IsWithinPlaces y (left_over x axes)
  pub by_z : IsWithinPlaces z (left_over y (left_over x axes))
  pub whole : left_over z (left_over y (left_over x axes)) ≡ []

no_axes : (axes : List Interval) → IsIn [] (map (λ (a : Interval). a.first) axes) → axes ≡ []
no_axes [] h = refl
no_axes (a ∷ axes) h = absurd h

pub within_three : (d : ℕ) (x y z : Slot) (slots : List Slot) (axes : List Interval) → IsPaddedView d x y z → take d (x ∷ y ∷ z ∷ []) ≡ slots → IsIn (positions_of slots) (map (λ (a : Interval). a.first) axes) → IsIn (positions_of slots) (map (λ (a : Interval). a.last) axes) → WithinThree x y z axes
within_three d x y z slots axes v e h k =
    let is : positions_of slots ≡ with_places x (with_places y (with_places z [])) = sym (ap positions_of e) ∙ positions-three d x y z v in
    let h' : IsIn (with_places x (with_places y (with_places z []))) (map (λ (a : Interval). a.first) axes) = subst (λ (b : List Interval). IsIn b (map (λ (a : Interval). a.first) axes)) is h in
    let k' : IsIn (with_places x (with_places y (with_places z []))) (map (λ (a : Interval). a.last) axes) = subst (λ (b : List Interval). IsIn b (map (λ (a : Interval). a.last) axes)) is k in
    let a = within_places x (with_places y (with_places z [])) axes h' k' in
    let b = within_places y (with_places z []) (left_over x axes) a.1 a.2 in
    let c = within_places z [] (left_over y (left_over x axes)) b.1 b.2 in
    record { by_x = a.0; by_y = b.0; by_z = c.0; whole = no_axes (left_over z (left_over y (left_over x axes))) c.1 }

-- A box whose two corners are positions lies in the three slots, axis by axis.
pub within_corners : (d : ℕ) (x y z : Slot) (slots : List Slot) (axes : List Interval) (least greatest : List ℤ) → IsPaddedView d x y z → take d (x ∷ y ∷ z ∷ []) ≡ slots → ((p : List ℤ) → IsIn axes p → IsIn (positions_of slots) p) → least ≡ map (λ (a : Interval). a.first) axes → IsIn axes least → greatest ≡ map (λ (a : Interval). a.last) axes → IsIn axes greatest → WithinThree x y z axes
within_corners d x y z slots axes least greatest v e inside el hl eg hg =
    within_three d x y z slots axes v e
    (subst (IsIn (positions_of slots)) el (inside least hl))
    (subst (IsIn (positions_of slots)) eg (inside greatest hg))

restricted_view : (d : ℕ) (x y z x' y' z' : Slot) (axes : List Interval) → IsPaddedView d x y z → WithinThree x y z axes → IsRestricted x x' axes → IsRestricted y y' (left_over x axes) → IsRestricted z z' (left_over y (left_over x axes)) → IsPaddedView d x' y' z'
restricted_view d x y z x' y' z' axes v w rx ry rz = record {
  some = v.some;
  few = v.few;
  no_y = λ h. restricted_none y' (left_over x axes) (subst (λ (s : Slot). IsRestricted s y' (left_over x axes)) (v.no_y h) ry);
  no_z = λ h. restricted_none z' (left_over y (left_over x axes)) (subst (λ (s : Slot). IsRestricted s z' (left_over y (left_over x axes))) (v.no_z h) rz);
}

-- what the three restricted slots are kept as, and name
pub record IsRestrictedView (d : ℕ) (x' y' z' : Slot) (slots : List Slot) (axes : List Interval) : Type 0 where
  pub kept : IsPaddedView d x' y' z'
  pub positions : positions_of (take d (x' ∷ y' ∷ z' ∷ [])) ≡ from_zero axes
  pub cells : (p : List ℤ) → IsIn (from_zero axes) p → cell_named (take d (x' ∷ y' ∷ z' ∷ [])) p ≡ cell_named slots (moved p (map (λ (a : Interval). a.first) axes))

pub restricted : (d : ℕ) (x y z x' y' z' : Slot) (slots : List Slot) (axes after_x after_y : List Interval) → IsPaddedView d x y z → take d (x ∷ y ∷ z ∷ []) ≡ slots → WithinThree x y z axes → after_x ≡ left_over x axes → after_y ≡ left_over y after_x → IsRestricted x x' axes → IsRestricted y y' after_x → IsRestricted z z' after_y → IsRestrictedView d x' y' z' slots axes
restricted d x y z x' y' z' slots axes after_x after_y v e w ex ey rx ry' rz' =
    let ry : IsRestricted y y' (left_over x axes) = subst (IsRestricted y y') ex ry' in
    let rz : IsRestricted z z' (left_over y (left_over x axes)) = subst (IsRestricted z z') (ey ∙ ap (left_over y) ex) rz' in
    let new : IsPaddedView d x' y' z' = restricted_view d x y z x' y' z' axes v w rx ry rz in
    record {
      kept = new;
      positions = positions-three d x' y' z' new
          ∙ restricted_places x x' axes (with_places y' (with_places z' [])) w.by_x rx
          (restricted_places y y' (left_over x axes) (with_places z' []) w.by_y ry
          (restricted_places z z' (left_over y (left_over x axes)) [] w.by_z rz (sym (ap from_zero w.whole))));
      cells = λ p q.
          let a = restricted_cell x x' axes p w.by_x rx q in
          let b = restricted_cell y y' (left_over x axes) (left_over x' p) w.by_y ry a.2 in
          let c = restricted_cell z z' (left_over y (left_over x axes)) (left_over y' (left_over x' p)) w.by_z rz b.2 in
          let on_y : coordinate y' (left_over x' p) ≡ coordinate y (left_over x (moved p (map (λ (i : Interval). i.first) axes))) =
          b.0 ∙ ap (coordinate y) (sym a.1) in
          let left_y : left_over y (left_over x (moved p (map (λ (i : Interval). i.first) axes))) ≡ moved (left_over y' (left_over x' p)) (map (λ (i : Interval). i.first) (left_over y (left_over x axes))) =
          ap (left_over y) a.1 ∙ b.1 in
          let on_z : coordinate z' (left_over y' (left_over x' p)) ≡ coordinate z (left_over y (left_over x (moved p (map (λ (i : Interval). i.first) axes)))) =
          c.0 ∙ ap (coordinate z) (sym left_y) in
          cell-three d x' y' z' p new
          ∙ rw (a.0, on_y, on_z) (sym (cell-three d x y z (moved p (map (λ (i : Interval). i.first) axes)) v))
          ∙ ap (λ (s : List Slot). cell_named s (moved p (map (λ (i : Interval). i.first) axes))) e;
    }

-- a cell made of one end of each of three slots, as the code passes them on
pub ends_are : (f : Slot → ℤ) → (d : ℕ) (x y z : Slot) (slots : List Slot) (cell : List ℤ) (a b e : ℤ) → FitsSigned w32 a → FitsSigned w32 b → FitsSigned w32 e → cell ≡ take d (to_z w32 (of_z w32 a) ∷ to_z w32 (of_z w32 b) ∷ to_z w32 (of_z w32 e) ∷ []) → a ≡ f x → b ≡ f y → e ≡ f z → take d (x ∷ y ∷ z ∷ []) ≡ slots → cell ≡ map f slots
ends_are f d x y z slots cell a b e fa fb fe is ea eb ee whole =
    is ∙ rw (to_z-of_z w32 a fa, to_z-of_z w32 b fb, to_z-of_z w32 e fe, ea, eb, ee) (sym (map-three f d x y z)) ∙ ap (map f) whole
