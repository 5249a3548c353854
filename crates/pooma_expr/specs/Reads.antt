-- When numbers that are read are those of the views' arrays.
use Rattle.std.specs.Prelude.{◌≡◌, ℕ, ℤ, Some, List, slice_get}
use Rattle.pooma_view.specs.Slots.{cell_named}
use Rattle.pooma_view.specs.Views.{Viewed}
use Rattle.pooma_expr.specs.Values.{Contents}

-- at the position each of these reads has the number that its view's array has at the cell that the view names there
abbrev pub AgreeWith : Contents → List Viewed → List ℤ → (ℕ → List ℤ → ℤ) → Type 0
AgreeWith has views p number = (k : ℕ) (v : Viewed) → slice_get views k ≡ Some v → number k p ≡ has v (cell_named v.slots p)
