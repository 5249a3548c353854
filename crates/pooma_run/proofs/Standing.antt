-- What objects that stand for a world of a program give: fills can be done, pieces can, and views can be shown.
use Rattle.std.proofs.Common.{◌≡◌, ◌∙◌, refl, sym, ap, subst, inl, inr, ℕ, ◌<◌, ◌≤◌, false, Option, None, Some, List, [], ◌∷◌, length, map, take, arith}
use Rattle.std.proofs.Math.Seq.{take-length}
use Rattle.std.proofs.lemmas.List.{length-map}
use Rattle.std.specs.Prelude.{ℤ, All, Contains, IsSome}
use Rattle.std.specs.Int.Signed.{≤ℤ_refl}
use Rattle.std.specs.Option.{option_map_or}
use Rattle.std.proofs.lemmas.List.Elements.{All-head, All-tail}
use Rattle.pooma_logic.specs.Decided.{Or_not}
use Rattle.pooma_logic.proofs.Decided.{as_or_not, contains_or_not, same_list_or_not, same_ℤ_or_not}
use Rattle.pooma_domain.specs.Cells.{Interval, IsAxis, IsBox, IsIn, cells_of}
use Rattle.pooma_view.specs.Slots.{cell_named, positions_of}
use Rattle.pooma_view.specs.Views.{Viewed}
use Rattle.pooma_field.specs.declared.faces.Ends.{Ends}
use Rattle.pooma_field.specs.Numbered.{Numbered}
use Rattle.pooma_field.specs.ShapeOf.{shape_of}
use Rattle.pooma_field.specs.Shapes.{Shaped, own_area}
use Rattle.pooma_field.specs.Worlds.{HasCell, World}
use Rattle.pooma_fill.specs.declared.stale.Mark.{Mark}
use Rattle.pooma_fill.specs.Freshened.{CanFill, HasOwnAlone}
use Rattle.pooma_fill.specs.Marks.{HasArrays, Staled, declared_of}
use Rattle.pooma_model.specs.Declarations.{Declared, seen_in, shape_at}
use Rattle.pooma_model.specs.Fit.{IsReadable}
use Rattle.pooma_model.specs.Runs.{IsWorldOf}
use Rattle.pooma_split.specs.Statements.{HasView, Stands}
use Rattle.pooma_store.specs.Numbering.{AreObjects}
use Rattle.pooma_store.specs.Standing.{HasTotal, OwnerHas, StandsFor, IsFreshFor}
use Rattle.pooma_store.specs.Stored.{AreArrays, Stored}
use Rattle.pooma_run.specs.Gathered.{OfWorlds}
use Rattle.pooma_run.specs.Underway.{IsHere}

-- whether a cell lies in a box is told by looking among the cells of the box
in_or_out : OfWorlds → (box : List Interval) (c : List ℤ) → Or_not (IsIn box c)
in_or_out laws box c = as_or_not (laws.cells box c).0 (laws.cells box c).1 (contains_or_not (same_list_or_not same_ℤ_or_not) (cells_of box) c)

-- the arrays that are kept with their marks, as a store that has no others
abbrev pub store_of : Staled → Stored
store_of stale = record { shapes = map shape_of stale.shapes; layouts = stale.layouts; objects = []; lent = false }

pub has_arrays : (stale : Staled) → HasArrays (store_of stale) stale
has_arrays stale = record {
  shapes = ap (λ n. take n (map shape_of stale.shapes)) (sym (length-map stale.shapes shape_of)) ∙ take-length (map shape_of stale.shapes);
  layouts = take-length stale.layouts;
}

-- a cell of the world is one with a number of its own
own_alone : (declared : Declared) (world : World) → IsWorldOf declared world → HasOwnAlone declared.shapes world
own_alone declared world of array c has = subst (λ box. IsIn box c) (of.areas array (subst (λ n. array < n) of.arrays has.0)) has.1

pub can_fill : (stale : Staled) (objects : List Numbered) (world : World) → AreArrays (map shape_of stale.shapes) stale.layouts → length stale.marks ≡ length stale.shapes
    → IsHere (declared_of stale) stale.marks objects world → CanFill (store_of stale) stale objects world
can_fill stale objects world arrays as_many here = record {
  arrays = arrays;
  has = has_arrays stale;
  as_many = as_many;
  objects_are = here.objects_are;
  stands = here.stands;
  own = own_alone (declared_of stale) world here.world_of;
  marks = here.fresh;
}

-- An array with a cell beside those that have a number of their own is a field, and these are its physical cells.
abbrev own_by : Option (List Ends) → List Interval → List Interval → List Interval
own_by faces physical total = option_map_or (λ f. physical) faces total

is_field : (physical total : List Interval) (faces : Option (List Ends)) (c : List ℤ) → IsIn total c → ¬ (IsIn (own_by faces physical total) c) → IsSome faces
is_field physical total None c inside beside = absurd (beside inside)
is_field physical total (Some f) c inside beside = refl

physical_own : (physical total : List Interval) (faces : Option (List Ends)) (c other : List ℤ) → IsIn total c → ¬ (IsIn (own_by faces physical total) c)
    → IsIn physical other → IsIn (own_by faces physical total) other
physical_own physical total None c other inside beside h = absurd (beside inside)
physical_own physical total (Some f) c other inside beside h = h

has_own : (declared : Declared) (world : World) (array : ℕ) (c : List ℤ) → IsWorldOf declared world → array < length declared.shapes → IsIn (own_area (shape_at declared array)) c
    → HasCell world array c
has_own declared world array c of there own = (
  subst (λ n. array < n) (sym of.arrays) there,
  subst (λ box. IsIn box c) (sym (of.areas array there)) own,
)

pub has_view : (declared : Declared) (world : World) (view : Viewed) → IsWorldOf declared world → IsReadable declared view → HasView declared world view
has_view declared world view of readable =
    let shape : Shaped = shape_at declared view.array in
    record {
      own = λ p at own. has_own declared world view.array (cell_named view.slots p) of readable.there own;
      field = λ p c at beside inside. has_own declared world view.array c of readable.there
          (physical_own shape.physical shape.total shape.faces (cell_named view.slots p) c (readable.cells p at) beside inside);
    }

pub all_stands : (declared : Declared) (objects : List Numbered) (world : World) (views : List Viewed) → AreArrays declared.shapes declared.layouts → IsWorldOf declared world
    → AreObjects declared.layouts objects → StandsFor declared.layouts objects world → All (IsReadable declared) views → All (IsFreshFor declared.shapes declared.layouts objects world) views
    → Stands declared objects world views
all_stands declared objects world views arrays of are stands readable fresh = record {
  arrays = arrays;
  objects_are = are;
  stands = stands;
  has = λ k d within. has_view declared world _ of (readable k d within);
  fresh = fresh;
}

-- the owner of each cell that a view names has what the view shows
pub owner_shows : OfWorlds → (declared : Declared) (marks : List Mark) (objects : List Numbered) (world : World) (view : Viewed) → IsHere declared marks objects world → IsReadable declared view
    → IsFreshFor declared.shapes declared.layouts objects world view → (p : List ℤ) → IsIn (positions_of view.slots) p
    → OwnerHas declared.layouts objects view.array (cell_named view.slots p) (seen_in declared world view (cell_named view.slots p))
owner_shows laws declared marks objects world view here readable fresh p at = by (in_or_out laws (own_area shape) c)
  where
    shape : Shaped
    shape = shape_at declared view.array

    c : List ℤ
    c = cell_named view.slots p

    by : Or_not (IsIn (own_area shape) c) → OwnerHas declared.layouts objects view.array c (seen_in declared world view c)
    by (inl own) =
        subst (OwnerHas declared.layouts objects view.array c) (sym (laws.own declared world view c own))
        (here.stands view.array c (has_own declared world view.array c here.world_of readable.there own))
    by (inr beside) =
        fresh p at beside c
        (record {
          faced = is_field shape.physical shape.total shape.faces c (readable.cells p at) beside;
          known = λ d inside. has_own declared world view.array d here.world_of readable.there
              (physical_own shape.physical shape.total shape.faces c d (readable.cells p at) beside inside);
        })
        (readable.cells p at)
        (λ inside. beside (physical_own shape.physical shape.total shape.faces c c (readable.cells p at) beside inside))

-- a cell that a view names lies in the total domain of its array
pub has_total : (declared : Declared) (view : Viewed) (p : List ℤ) → AreArrays declared.shapes declared.layouts → IsReadable declared view → IsIn (positions_of view.slots) p
    → HasTotal declared.layouts view.array (cell_named view.slots p)
has_total declared view p arrays readable at =
    let known : view.array < length declared.layouts = subst (λ n. view.array < n) arrays.both readable.there in
    record {
      known = known;
      inside = subst (λ box. IsIn box (cell_named view.slots p)) (arrays.fitting view.array known).total (readable.cells p at);
    }

-- a box has a cell
corner_in : (axes : List Interval) → All IsAxis axes → IsIn axes (map (λ axis. axis.first) axes)
corner_in [] whole = tt
corner_in (axis ∷ axes) whole =
    let here : IsAxis axis = All-head IsAxis axis axes whole in
    (≤ℤ_refl axis.first, here.ordered, corner_in axes (All-tail IsAxis axis axes whole))

pub some_cell : OfWorlds → (box : List Interval) → IsBox box → 1 ≤ length (cells_of box)
some_cell laws box is =
    let there : Contains (cells_of box) (map (λ axis. axis.first) box) = (laws.cells box (map (λ axis. axis.first) box)).1 (corner_in box is.whole) in
    let within : there.0 < length (cells_of box) = there.1 in
    omega arith
