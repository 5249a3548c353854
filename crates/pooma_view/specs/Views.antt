-- A view as its array and its slots, and how a view of fewer than three slots is kept as one of three.
use Rattle.std.specs.Prelude.{◌≡◌, ℕ, ◌≤◌, pos, List}
use Rattle.pooma_view.specs.declared.slots.Slot.{Slot}
use Rattle.pooma_view.specs.declared.slots.Slot.TheVariants.{Fixed}

-- the number of an array, and one slot for each of its axes
pub record Viewed : Type 0 where
  pub array : ℕ
  pub slots : List Slot

-- what stands for a slot that a view does not have
abbrev pub no_slot : Slot
no_slot = Fixed (pos 0)

-- one to three slots, and those that the view does not have are fixed at 0
pub record IsPaddedView (dims : ℕ) (x y z : Slot) : Type 0 where
  pub some : 1 ≤ dims
  pub few : dims ≤ 3
  pub no_y : dims ≤ 1 → y ≡ no_slot
  pub no_z : dims ≤ 2 → z ≡ no_slot
