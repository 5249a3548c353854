-- The numbers that a slot names, and those that two slots name both.
use Rattle.std.specs.Prelude.{◌≡◌, ℤ}
use Rattle.pooma_view.specs.declared.slots.Slot.{Slot}
use Rattle.pooma_view.specs.declared.slots.Slot.TheVariants.{Fixed, Along}
use Rattle.pooma_view.specs.Steps.{IsStriding}

-- the slot names this coordinate at some position
abbrev pub NamesNumber : Slot → ℤ → Type 0
NamesNumber (Fixed x) z = x ≡ z
NamesNumber (Along s) z = IsStriding s.first s.stride s.count z
