-- Worlds keep the arrays and scalars that are declared.
use Rattle.std.proofs.Common.{refl, sym, ap, subst, ◌∙◌, arith, length-set}
use Rattle.std.proofs.lemmas.List.{length-map, length-replicate}
use Rattle.std.specs.Prelude.{◌≡◌, ℕ, zero, suc, ◌<◌, ℤ, pos, Option, Some, None, Ok, Err, List, [], ◌∷◌, length, map, slice_index_or}
use Rattle.pooma_view.specs.Slots.{cell_named, positions_of}
use Rattle.pooma_view.specs.Views.{Viewed}
use Rattle.pooma_field.specs.Numbered.{Numbered, IsFull}
use Rattle.pooma_field.specs.Shapes.{Shaped, own_area}
use Rattle.pooma_field.specs.Worlds.{World, HasCell, array_of, changed, opening_world, zeros}
use Rattle.pooma_domain.specs.Cells.{IsIn, cells_of}
use Rattle.pooma_expr.specs.Values.{Checked}
use Rattle.pooma_model.specs.declared.statement.Action.{Action}
use Rattle.pooma_model.specs.declared.statement.Action.TheVariants as action
use Rattle.pooma_model.specs.declared.statement.Statement.{Statement}
use Rattle.pooma_model.specs.Assigning.{Becomes, Fault, Given, assignment_fault, fault_or, given_at}
use Rattle.pooma_model.specs.Declarations.{Declared}
use Rattle.pooma_model.specs.Fit.{IsWritable}
use Rattle.pooma_model.specs.Partitions.{changes_at}
use Rattle.pooma_model.specs.Reducing.{fault_before, scalar_given}
use Rattle.pooma_model.specs.Runs.{IsWorldOf, world_after, world_of}
use Rattle.pooma_model.specs.Serial.{effect_of}
use Rattle.pooma_model.proofs.Assigned.{OfWorlds, area_after, full_after}
use Rattle.pooma_model.proofs.Changing.{OfNumbers}

-- ---- the opening world

area_of_zeros : (shapes : List Shaped) (array : ℕ) (a : Numbered) (shape : Shaped) → array < length shapes → (slice_index_or (map zeros shapes) array a).area ≡ own_area (slice_index_or shapes array shape)
area_of_zeros [] array a shape h = absurd (omega arith)
area_of_zeros (s ∷ shapes) zero a shape h = refl
area_of_zeros (s ∷ shapes) (suc array) a shape h = area_of_zeros shapes array a shape (omega arith)

full_zeros : (shapes : List Shaped) (array : ℕ) (a : Numbered) → array < length shapes → IsFull (slice_index_or (map zeros shapes) array a)
full_zeros [] array a h = absurd (omega arith)
full_zeros (s ∷ shapes) zero a h = length-replicate (length (cells_of (own_area s))) (pos 0)
full_zeros (s ∷ shapes) (suc array) a h = full_zeros shapes array a (omega arith)

pub opening_is : (declared : Declared) → IsWorldOf declared (opening_world declared.shapes declared.scalars)
opening_is declared = record {
  arrays = length-map declared.shapes zeros;
  scalars = length-replicate declared.scalars (pos 0);
  areas = λ array h. area_of_zeros declared.shapes array _ _ h;
  full = λ array h. full_zeros declared.shapes array _ h;
}

-- ---- effects

module _ (numbers : OfNumbers) (worlds : OfWorlds) (declared : Declared) where
  changed_keeps : (given : List ℤ → Given) (target : Viewed) (ps : List (List ℤ)) (world : World) → IsWorldOf declared world → IsWorldOf declared (changed world target.array (changes_at given target.slots ps))
  changed_keeps given target ps world is = record {
    arrays = length-set world.arrays target.array _ ∙ is.arrays;
    scalars = is.scalars;
    areas = λ array h. area_after numbers worlds given target ps world array ∙ is.areas array h;
    full = λ array h. full_after numbers worlds given target ps world array (is.full array h);
  }

  assigned_keeps : (fault : Option Fault) (new world : World) → IsWorldOf declared world → IsWorldOf declared new → IsWorldOf declared (world_of (fault_or fault new) world)
  assigned_keeps (Some fault) new world is_old is_new = is_old
  assigned_keeps None new world is_old is_new = is_new

  reduced_keeps : (fault : Option Fault) (scalar : ℕ) (value : Checked) (world : World) → IsWorldOf declared world → IsWorldOf declared (world_of (fault_before fault (scalar_given world scalar value)) world)
  reduced_keeps (Some fault) scalar value world is = is
  reduced_keeps None scalar (Err kind) world is = is
  reduced_keeps None scalar (Ok n) world is = record {
    arrays = is.arrays;
    scalars = length-set world.scalars scalar n ∙ is.scalars;
    areas = is.areas;
    full = is.full;
  }

  effect_keeps : (act : Action) (world : World) → IsWorldOf declared world → IsWorldOf declared (world_of (effect_of declared act world) world)
  effect_keeps (action.Assign target value mask) world is =
      assigned_keeps (assignment_fault declared world target value mask) _ world is
      (changed_keeps (given_at declared world value mask) target (cells_of (positions_of target.slots)) world is)
  effect_keeps (action.Reduce scalar reduction positions value) world is = reduced_keeps _ scalar _ world is
  effect_keeps (action.PrintView view) world is = is
  effect_keeps (action.PrintScalar scalar) world is = is
  effect_keeps action.Block world is = is

  pub world_keeps : (list : List Statement) (world : World) → IsWorldOf declared world → IsWorldOf declared (world_after declared list world)
  world_keeps [] world is = is
  world_keeps (s ∷ rest) world is = world_keeps rest _ (effect_keeps s.action world is)

  pub new_keeps : (act : Action) (world new : World) → IsWorldOf declared world → effect_of declared act world ≡ Becomes new → IsWorldOf declared new
  new_keeps act world new is e =
      subst (IsWorldOf declared) (ap (λ effect. world_of effect world) e) (effect_keeps act world is)

-- ---- what a view that may be written names

pub has_there : (declared : Declared) (world : World) (view : Viewed) (p : List ℤ) → IsWorldOf declared world → IsWritable declared view → IsIn (positions_of view.slots) p → HasCell world view.array (cell_named view.slots p)
has_there declared world view p is may inside = (
  let there = may.there in let same = is.arrays in omega arith,
  subst (λ box. IsIn box (cell_named view.slots p)) (sym (is.areas view.array may.there)) (may.cells p inside),
)

pub full_there : (declared : Declared) (world : World) (view : Viewed) → IsWorldOf declared world → IsWritable declared view → IsFull (array_of world view.array)
full_there declared world view is may = is.full view.array may.there
