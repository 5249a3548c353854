-- What the slots of a view say: the positions, and the cell that each of them names.
use Rattle.std.specs.Prelude.{◌≡◌, ◌-◌, map, ℤ, pos, ◌+ℤ◌, ◌-ℤ◌, ◌*ℤ◌, ◌≤ℤ◌, List, [], ◌∷◌}
use Rattle.pooma_domain.specs.Cells.{Interval, interval, IsAxis}
use Rattle.pooma_domain.specs.declared.strides.Strided.{Strided}
use Rattle.pooma_view.specs.declared.slots.Slot.{Slot}
use Rattle.pooma_view.specs.declared.slots.Slot.TheVariants.{Fixed, Along}

-- the places of a strided slot's numbers, counted from 0
abbrev pub places : Strided → Interval
places s = interval (pos 0) (pos s.count -ℤ pos 1)

-- the axes of positions, where those of the later slots are known: a fixed slot has none
abbrev pub with_places : Slot → List Interval → List Interval
with_places (Fixed x) axes = axes
with_places (Along s) axes = places s ∷ axes

-- the box of positions: one axis for each slot that goes along an axis
abbrev pub positions_of : List Slot → List Interval
positions_of [] = []
positions_of (slot ∷ slots) = with_places slot (positions_of slots)

-- the coordinate that a slot names, where these numbers of the position are left for it and the later slots
abbrev pub coordinate : Slot → List ℤ → ℤ
coordinate (Fixed x) p = x
coordinate (Along s) [] = s.first
coordinate (Along s) (k ∷ p) = s.first +ℤ s.stride *ℤ k

-- what is left for the later slots of the numbers of a position, or of the axes of a box of positions
abbrev pub left_over : {A : Type 0} → Slot → List A → List A
left_over (Fixed x) p = p
left_over (Along s) [] = []
left_over (Along s) (k ∷ p) = p

-- the cell that a view names at a position: one coordinate for each slot
abbrev pub cell_named : List Slot → List ℤ → List ℤ
cell_named [] p = []
cell_named (slot ∷ slots) p = coordinate slot p ∷ cell_named slots (left_over slot p)

-- a slot that goes along finds the place of one of its numbers first in the position
abbrev pub Accepts : Slot → List ℤ → Type 0
Accepts (Fixed x) p = Unit {0}
Accepts (Along s) [] = ⊥
Accepts (Along s) (k ∷ p) = (pos 0 ≤ℤ k) × (k ≤ℤ (pos s.count -ℤ pos 1))

-- the places of a slot that goes along are the numbers of an axis
abbrev pub HasPlaces : Slot → Type 0
HasPlaces (Fixed x) = Unit {0}
HasPlaces (Along s) = IsAxis (places s)

-- the places of a slot as an axis: a fixed slot has one
abbrev pub places_of : Slot → Interval
places_of (Fixed x) = interval (pos 0) (pos 0)
places_of (Along s) = places s

-- the least place's coordinate, and the greatest place's
abbrev pub first_named : Slot → ℤ
first_named (Fixed x) = x
first_named (Along s) = s.first

abbrev pub last_named : Slot → ℤ
last_named (Fixed x) = x
last_named (Along s) = s.first +ℤ s.stride *ℤ pos (s.count - 1)

-- the first of these axes has only places of the slot, where it goes along
abbrev pub IsWithinPlaces : Slot → List Interval → Type 0
IsWithinPlaces (Fixed x) axes = Unit {0}
IsWithinPlaces (Along s) [] = ⊥
IsWithinPlaces (Along s) (axis ∷ axes) = (pos 0 ≤ℤ axis.first) × (axis.last ≤ℤ (pos s.count -ℤ pos 1))

-- the new slot has the numbers of the old one at the places of the first of these axes, counted from 0
abbrev pub IsRestricted : Slot → Slot → List Interval → Type 0
IsRestricted (Fixed x) (Fixed y) axes = x ≡ y
IsRestricted (Fixed x) (Along t) axes = ⊥
IsRestricted (Along s) (Fixed y) axes = ⊥
IsRestricted (Along s) (Along t) [] = ⊥
IsRestricted (Along s) (Along t) (axis ∷ axes) =
    (t.first ≡ s.first +ℤ s.stride *ℤ axis.first) × (t.stride ≡ s.stride) × (pos t.count ≡ (axis.last -ℤ axis.first) +ℤ pos 1)

-- the axes, counted from 0
abbrev pub from_zero : List Interval → List Interval
from_zero axes = map (λ axis. interval (pos 0) (axis.last -ℤ axis.first)) axes
