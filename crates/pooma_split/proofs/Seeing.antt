-- What the piece of a part sees: the numbers that the world has on the way, and those of the world before in external cells.
use Rattle.std.proofs.Common.{refl, sym, ap, ◌∙◌, subst}
use Rattle.std.proofs.lemmas.Option.{slice_get-get_or}
use Rattle.std.specs.Option.{option_map_or}
use Rattle.std.specs.Prelude.{◌≡◌, ℕ, ◌<◌, ℤ, Option, Some, None, IsSome, List, [], length, slice_get}
use Rattle.pooma_domain.specs.Cells.{Interval, IsIn}
use Rattle.pooma_view.specs.Slots.{cell_named, positions_of}
use Rattle.pooma_view.specs.Views.{Viewed}
use Rattle.pooma_field.specs.declared.faces.Ends.{Ends}
use Rattle.pooma_field.specs.Numbered.{Numbered, number_at}
use Rattle.pooma_field.specs.Shapes.{Shaped, own_area}
use Rattle.pooma_field.specs.Worlds.{World, look_in, number_of}
use Rattle.pooma_expr.specs.declared.tree.Expr.{Expr}
use Rattle.pooma_expr.specs.Trees.{views_of}
use Rattle.pooma_expr.specs.Values.{Contents}
use Rattle.pooma_model.specs.Declarations.{Declared, layout_at, shape_at}
use Rattle.pooma_model.specs.Midway.{SeesMidway}
use Rattle.pooma_store.specs.Numbering.{object_at, object_count}
use Rattle.pooma_store.specs.Standing.{HasNumber, IsField, IsFreshFor, OwnerHas, StandsFor, owner_object}
use Rattle.pooma_store.specs.Stored.{AreArrays, Fits}
use Rattle.pooma_piece.specs.declared.task.Task.{Task}
use Rattle.pooma_piece.specs.Lent.{number_in, seen_by}
use Rattle.pooma_split.specs.Splits.{CanSplit, IsPlaced, object_for}
use Rattle.pooma_split.specs.Statements.{HasView}
use Rattle.pooma_split.proofs.Lending.{lent, lent_of_view, piece}
use Rattle.pooma_split.proofs.Piecing.{IsWithin}

-- an array with a cell beyond its own area is a field, and the cell is none of its physical ones
faced_outside : (shape : Shaped) (c : List ℤ) → IsIn shape.total c → ¬ (IsIn (own_area shape) c) → IsSome shape.faces × ¬ (IsIn shape.physical c)
faced_outside shape c total out = by shape.faces out
  where
    by : (faces : Option (List Ends)) → ¬ (IsIn (option_map_or (λ f. shape.physical) faces shape.total) c) → IsSome faces × ¬ (IsIn shape.physical c)
    by None none = absurd (none total)
    by (Some f) none = (refl, none)

module _ (declared : Declared) (arrays : AreArrays declared.shapes declared.layouts) (positions box : List Interval) (within : IsWithin box positions) (number : ℕ) (t : Task) (code : Expr) (can : CanSplit declared t code positions)
    (objects : List Numbered) (counted : length objects ≡ object_count declared.layouts) where
  abbrev pub has : Contents
  has = seen_by (piece declared positions box within number t code can)
      (lent declared positions box within number t code can objects counted).written
      (lent declared positions box within number t code can objects counted).reads

  -- a view of the code is read in the object of the part
  seen_is : (k : ℕ) (view : Viewed) (c : List ℤ) → slice_get (views_of code) k ≡ Some view → object_for declared box view < length objects → has view c ≡ number_at (object_at objects (object_for declared box view)) c
  seen_is k view c at below =
      ap (λ content. number_in content c)
      (lent_of_view declared positions box within number t code can objects counted k view at
      ∙ slice_get-get_or objects (object_for declared box view) (record { area = []; numbers = [] }) below)

  -- what the patch that owns a cell has there
  owned_number : (k : ℕ) (view : Viewed) (p : List ℤ) (n : ℤ) → slice_get (views_of code) k ≡ Some view → owner_object declared.layouts view.array (cell_named view.slots p) ≡ object_for declared box view
      → OwnerHas declared.layouts objects view.array (cell_named view.slots p) n → has view (cell_named view.slots p) ≡ n
  owned_number k view p n at same owner =
      let here : HasNumber objects (object_for declared box view) (cell_named view.slots p) n = subst (λ o. HasNumber objects o (cell_named view.slots p) n) same owner.number in
      seen_is k view (cell_named view.slots p) at here.known ∙ here.number

  pub sees : (old new : World) (k : ℕ) (view : Viewed) (p : List ℤ) → slice_get (views_of code) k ≡ Some view → IsPlaced declared positions view
      → owner_object declared.layouts view.array (cell_named view.slots p) ≡ object_for declared box view → IsIn positions p
      → StandsFor declared.layouts objects new → HasView declared new view → HasView declared old view → IsFreshFor declared.shapes declared.layouts objects old view
      → SeesMidway declared old new has p view
  sees old new k view p at placed same inside stands has_new has_old fresh =
      let there : IsIn (positions_of view.slots) p = subst (λ b. IsIn b p) (sym placed.places) inside in
      let fits : Fits (shape_at declared view.array) (layout_at declared view.array) = arrays.fitting view.array placed.there in
      let total : IsIn (shape_at declared view.array).total (cell_named view.slots p) = subst (λ b. IsIn b (cell_named view.slots p)) (sym fits.total) (placed.cells p inside) in
      record {
        own = λ own. owned_number k view p (number_of new view.array (cell_named view.slots p)) at same (stands view.array (cell_named view.slots p) (has_new.own p there own));
        external = λ out.
            let facing = faced_outside (shape_at declared view.array) (cell_named view.slots p) total out in
            let field : IsField old view.array (shape_at declared view.array) = record { faced = facing.0; known = λ c physical. has_old.field p c there out physical } in
            owned_number k view p (look_in old (shape_at declared view.array) view.array (cell_named view.slots p)) at same
            (fresh p there out (cell_named view.slots p) field total facing.1);
      }
