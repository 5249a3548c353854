-- What is seen while an assignment is being done: some of the target's cells have their new numbers already.
use Rattle.std.specs.Prelude.{◌≡◌, ◌≢◌, ℕ, ℤ, List, All}
use Rattle.pooma_domain.specs.Cells.{IsIn}
use Rattle.pooma_view.specs.Slots.{cell_named}
use Rattle.pooma_view.specs.Views.{Viewed}
use Rattle.pooma_field.specs.Shapes.{own_area}
use Rattle.pooma_field.specs.Worlds.{World, number_of}
use Rattle.pooma_expr.specs.Values.{Contents}
use Rattle.pooma_model.specs.Declarations.{Declared, seen_in, shape_at}

-- the target names the cell at none of these positions
abbrev pub IsUnnamed : Viewed → List (List ℤ) → ℕ → List ℤ → Type 0
IsUnnamed target done array c = array ≡ target.array → All (λ q. cell_named target.slots q ≢ c) done

-- the new world has the old one's number at each cell that the target names at none of these positions
abbrev pub IsMidway : Viewed → List (List ℤ) → World → World → Type 0
IsMidway target done old new = (array : ℕ) (c : List ℤ) → IsUnnamed target done array c → number_of new array c ≡ number_of old array c

-- The view sees its cell at this position, where that has a number of its own, as the new world has it, and where it is an
-- external cell of a field as the old world gives it.
pub record SeesMidway (declared : Declared) (old new : World) (has : Contents) (p : List ℤ) (view : Viewed) : Type 0 where
  pub own : IsIn (own_area (shape_at declared view.array)) (cell_named view.slots p)
      → has view (cell_named view.slots p) ≡ number_of new view.array (cell_named view.slots p)
  pub external : ¬ (IsIn (own_area (shape_at declared view.array)) (cell_named view.slots p))
      → has view (cell_named view.slots p) ≡ seen_in declared old view (cell_named view.slots p)
