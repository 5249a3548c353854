-- The number that a view has in a store.
use Rattle.std.specs.Prelude.{◌≡◌, ℤ, false, List}
use Rattle.pooma_domain.specs.Cells.{IsIn}
use Rattle.pooma_field.specs.Numbered.{number_at}
use Rattle.pooma_view.specs.Slots.{cell_named, positions_of}
use Rattle.pooma_view.specs.Views.{Viewed}
use Rattle.pooma_store.specs.Numbering.{object_at}
use Rattle.pooma_store.specs.Standing.{HasTotal, OwnerHas, owner_object}
use Rattle.pooma_store.specs.Stored.{Stored}

-- at the cell that it names at this position, in the patch that owns the cell
abbrev pub stored_at : Stored → Viewed → List ℤ → ℤ
stored_at store view p =
    number_at (object_at store.objects (owner_object store.layouts view.array (cell_named view.slots p))) (cell_named view.slots p)

-- the objects are not lent, and this is a position at which the view names a cell of its array
pub record CanShow (store : Stored) (view : Viewed) (p : List ℤ) : Type 0 where
  pub home : store.lent ≡ false
  pub position : IsIn (positions_of view.slots) p
  pub cell : HasTotal store.layouts view.array (cell_named view.slots p)

-- the owners of the cells that the view names have these numbers
abbrev pub OwnersHave : Stored → Viewed → (List ℤ → ℤ) → Type 0
OwnersHave store view number =
    (p : List ℤ) → IsIn (positions_of view.slots) p → OwnerHas store.layouts store.objects view.array (cell_named view.slots p) (number p)
