-- What a piece has to do with the patches that are lent to it.
use Rattle.std.specs.Prelude.{◌≡◌, ◌⊎◌, ℕ, ◌==◌, ℤ, pos, int_le, Bool, true, false, ◌&&◌, Option, None, Some, List, [], ◌∷◌, slice_get, slice_index, slice_index_or, Contains, if◌then◌else◌}
use Rattle.std.specs.Cmp.Lexicographic.{pointwise}
use Rattle.std.specs.List.{list_all, position_or_len}
use Rattle.std.specs.Ordering.{int_eq}
use Rattle.pooma_domain.specs.Cells.{Interval, cells_of, IsIn}
use Rattle.pooma_view.specs.declared.slots.Slot.{Slot}
use Rattle.pooma_view.specs.declared.slots.Slot.TheVariants.{Fixed, Along}
use Rattle.pooma_view.specs.Slots.{cell_named}
use Rattle.pooma_view.specs.Views.{Viewed}
use Rattle.pooma_field.specs.declared.shapes.Slab.{Slab}
use Rattle.pooma_field.specs.Numbered.{Numbered, number_at}
use Rattle.pooma_field.specs.Shapes.{Shaped}
use Rattle.pooma_field.specs.ShapeOf.{shape_of}
use Rattle.pooma_field.specs.Slabs.{cell_sources}
use Rattle.pooma_expr.specs.Trees.{views_of}
use Rattle.pooma_expr.specs.Values.{Contents}
use Rattle.pooma_machine.specs.Values.{read_objects}
use Rattle.pooma_piece.specs.declared.task.Task.{Task}
use Rattle.pooma_piece.specs.declared.task.Task.TheVariants.{Assign, Reduce, Fill, Guard}
use Rattle.pooma_piece.specs.Pieces.{Pieced, requests_of}

-- whether two slots say the same of their axes
abbrev pub same_slot : Slot → Slot → Bool
same_slot (Fixed x) (Fixed y) = int_eq x y
same_slot (Fixed x) (Along t) = false
same_slot (Along s) (Fixed y) = false
same_slot (Along s) (Along t) = int_eq s.first t.first && (int_eq s.stride t.stride && (s.count == t.count))

-- whether two views are of one array, by the same slots
abbrev pub same_view : Viewed → Viewed → Bool
same_view v w = (v.array == w.array) && pointwise same_slot v.slots w.slots

-- the object in which a view of the code is read
abbrev pub read_in : Pieced → Viewed → ℕ
read_in piece view = slice_index piece.reads (position_or_len (same_view view) (views_of piece.code))

-- the object in which the cells of a guard copy are read
abbrev pub copied_from : Pieced → ℕ
copied_from piece = slice_index_or piece.reads 0 0

-- whether the object is the one that is written
abbrev pub is_written : Option ℕ → ℕ → Bool
is_written None object = false
is_written (Some written) object = written == object

-- what is lent for an object, of what is lent for the piece's requests: one thing to write, and others to read in their order
abbrev pub lent_for : {A : Type 0} → Pieced → Option A → List A → ℕ → Option A
lent_for piece written reads object =
    if is_written piece.write object then written
    else slice_get reads (position_or_len (λ o. o == object) (read_objects (requests_of piece)))

-- the piece writes the object, or reads it
abbrev pub Names : Pieced → ℕ → Type 0
Names piece object = (piece.write ≡ Some object) ⊎ Contains piece.reads object

abbrev pub number_in : Option Numbered → List ℤ → ℤ
number_in None c = pos 0
number_in (Some content) c = number_at content c

-- what the array of a view has at a cell: the number there in the patch of the object in which the view is read
abbrev pub seen_by : Pieced → Option Numbered → List Numbered → Contents
seen_by piece written reads view c = number_in (lent_for piece written reads (read_in piece view)) c

-- whether the box has the cell
abbrev pub is_in : List Interval → List ℤ → Bool
is_in [] [] = true
is_in [] (x ∷ xs) = false
is_in (axis ∷ axes) [] = false
is_in (axis ∷ axes) (x ∷ xs) = int_le axis.first x && (int_le x axis.last && is_in axes xs)

-- whether there is an area, and it has each cell that slots name at these positions
abbrev pub has_cells : Option (List Interval) → List Slot → List (List ℤ) → Bool
has_cells None slots positions = false
has_cells (Some area) slots positions = list_all (λ p. is_in area (cell_named slots p)) positions

-- whether there is an area, and it has each of these cells
abbrev pub has_all : Option (List Interval) → List (List ℤ) → Bool
has_all None cells = false
has_all (Some area) cells = list_all (is_in area) cells

-- whether there is an area, and it has this cell
abbrev pub has_one : Option (List Interval) → List ℤ → Bool
has_one None c = false
has_one (Some area) c = is_in area c

-- whether each of these cells lies in the area of the patch of the object that is named for it
abbrev pub have_sources : Pieced → Option (List Interval) → List (List Interval) → List ℕ → List (List ℤ) → Bool
have_sources piece written reads [] cells = true
have_sources piece written reads (object ∷ objects) [] = true
have_sources piece written reads (object ∷ objects) (c ∷ cells) =
    has_one (lent_for piece written reads object) c && have_sources piece written reads objects cells

-- whether each cell that the task sets lies in the area of the patch that is written, each source of a fill in that of its own, and
-- each cell that is copied in that of the patch that is read
abbrev pub task_fits : Task → Pieced → Option (List Interval) → List (List Interval) → Bool
task_fits (Assign target) piece written reads = has_cells written target.slots (cells_of piece.positions)
task_fits (Reduce reduction) piece written reads = true
task_fits (Fill shape slab array) piece written reads =
    has_all written (cells_of piece.positions)
    && list_all (λ c. have_sources piece written reads piece.reads (cell_sources (shape_of shape) slab c)) (cells_of piece.positions)
task_fits (Guard array) piece written reads =
    has_all written (cells_of piece.positions) && has_all (lent_for piece written reads (copied_from piece)) (cells_of piece.positions)

-- whether each cell that the piece reads or sets lies in the area of the patch in which it does
abbrev pub fits : Pieced → Option (List Interval) → List (List Interval) → Bool
fits piece written reads =
    list_all (λ view. has_cells (lent_for piece written reads (read_in piece view)) view.slots (cells_of piece.positions)) (views_of piece.code)
    && task_fits piece.task piece written reads

-- there is an area, and it has each cell that the view names at these positions
abbrev pub HasCells : Option (List Interval) → Viewed → List Interval → Type 0
HasCells None view positions = ⊥
HasCells (Some area) view positions = (p : List ℤ) → IsIn positions p → IsIn area (cell_named view.slots p)

-- there is an area, and it has the cell
abbrev pub HasCell : Option (List Interval) → List ℤ → Type 0
HasCell None c = ⊥
HasCell (Some area) c = IsIn area c

-- each of these cells lies in the area of the patch of the object that is named for it
abbrev pub HaveSources : Pieced → Option (List Interval) → List (List Interval) → List (List ℤ) → Type 0
HaveSources piece written reads cells =
    (k : ℕ) (object : ℕ) (c : List ℤ) → slice_get piece.reads k ≡ Some object → slice_get cells k ≡ Some c
    → HasCell (lent_for piece written reads object) c

-- there is an area, it has each cell that a fill sets, and each source lies in the area of its own patch
abbrev pub FillsIn : Shaped → Slab → Pieced → Option (List Interval) → List (List Interval) → Type 0
FillsIn shape slab piece None reads = ⊥
FillsIn shape slab piece (Some area) reads =
    (c : List ℤ) → IsIn piece.positions c → IsIn area c × HaveSources piece (Some area) reads (cell_sources shape slab c)

-- there is an area, and it has each cell of the box
abbrev pub HasAll : Option (List Interval) → List Interval → Type 0
HasAll None box = ⊥
HasAll (Some area) box = (c : List ℤ) → IsIn box c → IsIn area c

-- each cell that the task sets lies in the area of the patch that is written, each source of a fill in that of its own, and each cell
-- that is copied in that of the patch that is read
abbrev pub SetsIn : Task → Pieced → Option (List Interval) → List (List Interval) → Type 0
SetsIn (Assign target) piece written reads = HasCells written target piece.positions
SetsIn (Reduce reduction) piece written reads = Unit {0}
SetsIn (Fill shape slab array) piece written reads = FillsIn (shape_of shape) slab piece written reads
SetsIn (Guard array) piece written reads = HasAll written piece.positions × HasAll (lent_for piece written reads (copied_from piece)) piece.positions

-- what the test of fit says
pub record IsFitting (piece : Pieced) (written : Option (List Interval)) (reads : List (List Interval)) : Type 0 where
  pub read_there : (view : Viewed) → Contains (views_of piece.code) view → HasCells (lent_for piece written reads (read_in piece view)) view piece.positions
  pub set_there : SetsIn piece.task piece written reads
