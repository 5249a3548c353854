-- When a view that is read overlaps a view that is written.
use Rattle.std.specs.Prelude.{◌≡◌, ◌≢◌, ◌⊎◌, ℤ, List}
use Rattle.pooma_domain.specs.Cells.{IsIn}
use Rattle.pooma_view.specs.Slots.{positions_of, cell_named}
use Rattle.pooma_view.specs.declared.slots.Slot.{Slot}
use Rattle.pooma_view.specs.Views.{Viewed}

-- two different positions of the views name the same cell
abbrev pub NameApart : List Slot → List Slot → Type 0
NameApart read target =
    (p : List ℤ) × (q : List ℤ) × IsIn (positions_of read) p × IsIn (positions_of target) q
    × (p ≢ q) × (cell_named read p ≡ cell_named target q)

-- the views are of the same array, and name some cell of it at different positions
abbrev pub IsOverlap : Viewed → Viewed → Type 0
IsOverlap read target = (read.array ≡ target.array) × NameApart read.slots target.slots

-- wherever both views name the cell, they do so at the same position
abbrev pub AgreesAt : List Slot → List Slot → List ℤ → Type 0
AgreesAt read target c =
    (p q : List ℤ) → IsIn (positions_of read) p → IsIn (positions_of target) q
    → cell_named read p ≡ c → cell_named target q ≡ c → p ≡ q

-- the number is one of these two
abbrev pub IsEnd : ℤ → ℤ → ℤ → Type 0
IsEnd low high x = (x ≡ low) ⊎ (x ≡ high)
