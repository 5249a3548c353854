-- The positions of some slots are a box exactly where the places of all their slots are one: a fixed slot's one place changes nothing.
use Rattle.std.proofs.Common.{refl, sym, ap, ◌∙◌, subst, arith}
use Rattle.std.proofs.lemmas.Int.{ints}
use Rattle.std.proofs.lemmas.List.Elements.{All-cons, All-head, All-tail}
use Rattle.std.specs.Prelude.{◌≡◌, ◌↔◌, ℕ, ◌*◌, ◌≤◌, pos, List, [], ◌∷◌, length, map, take, All}
use Rattle.pooma_domain.specs.Cells.{Interval, interval, axis_length, cells_of, IsAxis, IsBox}
use Rattle.pooma_domain.proofs.CellOrder.{length-cells_of}
use Rattle.pooma_view.specs.Slots.{places, places_of, with_places, positions_of}
use Rattle.pooma_view.specs.Views.{IsPaddedView}
use Rattle.pooma_view.specs.declared.slots.Slot.{Slot}
use Rattle.pooma_view.specs.declared.slots.Slot.TheVariants.{Fixed, Along}
use Rattle.pooma_view.proofs.SlotLists.{positions-three}

-- a fixed slot's place
abbrev pub one_place : Interval
one_place = interval (pos 0) (pos 0)

one_place_is : IsAxis one_place
one_place_is = record { ordered = omega (arith, ints); low = omega (arith, ints); high = omega (arith, ints) }

-- as many positions as cells of all places, the same axes to be valid, and no more axes
pub length-cells-positions : (slots : List Slot) → length (cells_of (positions_of slots)) ≡ length (cells_of (map places_of slots))
length-cells-positions [] = refl
length-cells-positions (Fixed x ∷ slots) =
    omega (arith, length-cells-positions slots, length-cells_of one_place (map places_of slots))
length-cells-positions (Along s ∷ slots) =
    length-cells_of (places s) (positions_of slots)
    ∙ ap (λ n. axis_length (places s) * n) (length-cells-positions slots)
    ∙ sym (length-cells_of (places s) (map places_of slots))

pub axes_of_positions : (slots : List Slot) → All IsAxis (map places_of slots) ↔ All IsAxis (positions_of slots)
axes_of_positions [] = (λ h. h, λ h. h)
axes_of_positions (Fixed x ∷ slots) = (
  λ h. (axes_of_positions slots).0 (All-tail IsAxis one_place (map places_of slots) h),
  λ h. All-cons IsAxis one_place (map places_of slots) one_place_is ((axes_of_positions slots).1 h),
)
axes_of_positions (Along s ∷ slots) = (
  λ h. All-cons IsAxis (places s) (positions_of slots) (All-head IsAxis (places s) (map places_of slots) h)
      ((axes_of_positions slots).0 (All-tail IsAxis (places s) (map places_of slots) h)),
  λ h. All-cons IsAxis (places s) (map places_of slots) (All-head IsAxis (places s) (positions_of slots) h)
      ((axes_of_positions slots).1 (All-tail IsAxis (places s) (positions_of slots) h)),
)

pub length-positions : (slots : List Slot) → length (positions_of slots) ≤ length (map places_of slots)
length-positions [] = omega arith
length-positions (Fixed x ∷ slots) = omega (arith, length-positions slots)
length-positions (Along s ∷ slots) = omega (arith, length-positions slots)

-- three slots' positions are a box exactly where their places are
pub box_of_places : (x y z : Slot) → IsBox (places_of x ∷ places_of y ∷ places_of z ∷ []) ↔ IsBox (with_places x (with_places y (with_places z [])))
box_of_places x y z =
    let slots : List Slot = x ∷ y ∷ z ∷ [] in
    let same : length (cells_of (positions_of (x ∷ y ∷ z ∷ []))) ≡ length (cells_of (map places_of (x ∷ y ∷ z ∷ []))) = length-cells-positions slots in (
      λ h. record {
        few = omega (arith, length-positions slots);
        whole = (axes_of_positions slots).0 h.whole;
        countable = omega (arith, same, h.countable);
      },
      λ h. record {
        few = omega arith;
        whole = (axes_of_positions slots).1 h.whole;
        countable = omega (arith, same, h.countable);
      },
    )

-- the same for the slots of a view
pub positions_are_box : (d : ℕ) (x y z : Slot) (slots : List Slot) → IsPaddedView d x y z → take d (x ∷ y ∷ z ∷ []) ≡ slots → IsBox (places_of x ∷ places_of y ∷ places_of z ∷ []) ↔ IsBox (positions_of slots)
positions_are_box d x y z slots v e =
    subst (λ (axes : List Interval). IsBox (places_of x ∷ places_of y ∷ places_of z ∷ []) ↔ IsBox axes)
    (sym (positions-three d x y z v) ∙ ap positions_of e) (box_of_places x y z)

-- the places of each of three slots are an axis
pub record HasAxes (x y z : Slot) : Type 0 where
  pub on_x : IsAxis (places_of x)
  pub on_y : IsAxis (places_of y)
  pub on_z : IsAxis (places_of z)

pub has_axes : (d : ℕ) (x y z : Slot) (slots : List Slot) → IsPaddedView d x y z → take d (x ∷ y ∷ z ∷ []) ≡ slots → IsBox (positions_of slots) → HasAxes x y z
has_axes d x y z slots v e h =
    let all : All IsAxis (places_of x ∷ places_of y ∷ places_of z ∷ []) = ((positions_are_box d x y z slots v e).1 h).whole in
    let later : All IsAxis (places_of y ∷ places_of z ∷ []) = All-tail IsAxis (places_of x) (places_of y ∷ places_of z ∷ []) all in
    let last : All IsAxis (places_of z ∷ []) = All-tail IsAxis (places_of y) (places_of z ∷ []) later in
    record {
      on_x = All-head IsAxis (places_of x) (places_of y ∷ places_of z ∷ []) all;
      on_y = All-head IsAxis (places_of y) (places_of z ∷ []) later;
      on_z = All-head IsAxis (places_of z) [] last;
    }
