-- The slot of a view that goes along the first axis of its positions.
use Rattle.std.specs.Prelude.{◌≡◌, ℕ, zero, suc, ℤ, Option, Some, None, List, [], ◌∷◌}
use Rattle.pooma_view.specs.Slots.{positions_of}
use Rattle.pooma_view.specs.declared.slots.Slot.{Slot}
use Rattle.pooma_view.specs.declared.slots.Slot.TheVariants.{Fixed, Along}

-- from each number of a slot to the next; a fixed slot has one number
abbrev pub stride_of : Slot → Option ℤ
stride_of (Fixed x) = None
stride_of (Along s) = Some s.stride

-- the slot with this number goes along an axis, by this stride, and no slot before it does; or no slot does, and it is the first one
abbrev pub IsFirstAlong : List Slot → ℕ → ℤ → Type 0
IsFirstAlong [] axis stride = ⊥
IsFirstAlong (Fixed x ∷ slots) zero stride = positions_of slots ≡ []
IsFirstAlong (Fixed x ∷ slots) (suc axis) stride = IsFirstAlong slots axis stride
IsFirstAlong (Along s ∷ slots) zero stride = s.stride ≡ stride
IsFirstAlong (Along s ∷ slots) (suc axis) stride = ⊥
