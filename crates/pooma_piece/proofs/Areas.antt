-- What the test says by which a piece fits some areas.
use Rattle.std.proofs.Common.{refl, subst, arith, get_or}
use Rattle.std.proofs.lemmas.Int.{ints}
use Rattle.std.proofs.lemmas.List.Elements.{Contains-get_or}
use Rattle.std.proofs.lemmas.List.Sums.{AllPass-from_list_all, list_all-from_AllPass}
use Rattle.std.specs.List.{list_all}
use Rattle.std.specs.Prelude.{◌≡◌, ◌↔◌, ◌&&◌, ℕ, zero, suc, ℤ, ◌≤ℤ◌, int_le, Bool, true, false, Option, None, Some, List, [], ◌∷◌, slice_get, Contains}
use Rattle.pooma_domain.specs.Cells.{Interval, cells_of, IsIn}
use Rattle.pooma_view.specs.Slots.{cell_named}
use Rattle.pooma_view.specs.Views.{Viewed}
use Rattle.pooma_field.specs.declared.shapes.Slab.{Slab}
use Rattle.pooma_field.specs.Shapes.{Shaped}
use Rattle.pooma_field.specs.ShapeOf.{shape_of}
use Rattle.pooma_field.specs.Slabs.{cell_sources}
use Rattle.pooma_expr.specs.Trees.{views_of}
use Rattle.pooma_piece.specs.declared.task.Task.{Task}
use Rattle.pooma_piece.specs.declared.task.Task.TheVariants.{Assign, Reduce, Fill, Guard}
use Rattle.pooma_piece.specs.Gathered.{HasMembers}
use Rattle.pooma_piece.specs.Lent.{FillsIn, HasAll, HasCell, HasCells, IsFitting, SetsIn, copied_from, fits, has_all, has_cells, has_one, have_sources, is_in, lent_for, read_in, task_fits}
use Rattle.pooma_piece.specs.Pieces.{Pieced}
use Rattle.pooma_piece.proofs.Seen.{and_parts, is_in_is}

is_not_above : (a b : ℤ) → a ≤ℤ b → int_le a b ≡ true
is_not_above a b h = grind (arith, ints)

both_true : (a b : Bool) → a ≡ true → b ≡ true → (a && b) ≡ true
both_true true b e f = f
both_true false b e f = absurd (cc)

pub passes_in : (area : List Interval) (c : List ℤ) → IsIn area c → is_in area c ≡ true
passes_in [] [] h = refl
passes_in [] (x ∷ xs) h = absurd h
passes_in (axis ∷ axes) [] h = absurd h
passes_in (axis ∷ axes) (x ∷ xs) h =
    both_true (int_le axis.first x) (int_le x axis.last && is_in axes xs) (is_not_above axis.first x h.0)
    (both_true (int_le x axis.last) (is_in axes xs) (is_not_above x axis.last h.1) (passes_in axes xs h.2))

cells_then : HasMembers → (o : Option (List Interval)) (view : Viewed) (positions : List Interval) → has_cells o view.slots (cells_of positions) ≡ true → HasCells o view positions
cells_then members None view positions e = absurd (cc)
cells_then members (Some area) view positions e = λ p inside.
    let there : Contains (cells_of positions) p = (members positions p).1 inside in
    let passes = AllPass-from_list_all (λ (q : List ℤ). is_in area (cell_named view.slots q)) (cells_of positions) e there.0 p there.1 in
    is_in_is area (cell_named view.slots p) (subst (λ (q : List ℤ). is_in area (cell_named view.slots q) ≡ true) there.2 passes)

cells_from : HasMembers → (o : Option (List Interval)) (view : Viewed) (positions : List Interval) → HasCells o view positions → has_cells o view.slots (cells_of positions) ≡ true
cells_from members None view positions h = absurd h
cells_from members (Some area) view positions h =
    list_all-from_AllPass (λ (q : List ℤ). is_in area (cell_named view.slots q)) (cells_of positions)
    (λ k d within. passes_in area _ (h (get_or (cells_of positions) k d) ((members positions (get_or (cells_of positions) k d)).0 (Contains-get_or (cells_of positions) k d within))))

one_then : (o : Option (List Interval)) (c : List ℤ) → has_one o c ≡ true → HasCell o c
one_then None c e = absurd (cc)
one_then (Some area) c e = is_in_is area c e

one_from : (o : Option (List Interval)) (c : List ℤ) → HasCell o c → has_one o c ≡ true
one_from None c h = absurd h
one_from (Some area) c h = passes_in area c h

pub sources_then : (piece : Pieced) (written : Option (List Interval)) (reads : List (List Interval)) (objects : List ℕ) (cells : List (List ℤ)) → have_sources piece written reads objects cells ≡ true → (k : ℕ) (object : ℕ) (c : List ℤ) → slice_get objects k ≡ Some object → slice_get cells k ≡ Some c → HasCell (lent_for piece written reads object) c
sources_then piece written reads [] cells e k object c ok ck = cc
sources_then piece written reads (o ∷ objects) [] e k object c ok ck = cc
sources_then piece written reads (o ∷ objects) (d ∷ cells) e zero object c ok ck =
    let parts = and_parts (has_one (lent_for piece written reads o) d) (have_sources piece written reads objects cells) e in
    let same_o : o ≡ object = cc in
    let same_c : d ≡ c = cc in
    rw (← same_o, ← same_c) (one_then (lent_for piece written reads o) d parts.0)
sources_then piece written reads (o ∷ objects) (d ∷ cells) e (suc k) object c ok ck =
    sources_then piece written reads objects cells (and_parts (has_one (lent_for piece written reads o) d) (have_sources piece written reads objects cells) e).1 k object c ok ck

pub sources_from : (piece : Pieced) (written : Option (List Interval)) (reads : List (List Interval)) (objects : List ℕ) (cells : List (List ℤ)) → ((k : ℕ) (object : ℕ) (c : List ℤ) → slice_get objects k ≡ Some object → slice_get cells k ≡ Some c → HasCell (lent_for piece written reads object) c) → have_sources piece written reads objects cells ≡ true
sources_from piece written reads [] cells h = refl
sources_from piece written reads (o ∷ objects) [] h = refl
sources_from piece written reads (o ∷ objects) (d ∷ cells) h =
    both_true (has_one (lent_for piece written reads o) d) (have_sources piece written reads objects cells)
    (one_from (lent_for piece written reads o) d (h zero o d refl refl))
    (sources_from piece written reads objects cells (λ k. h (suc k)))

-- at each of some cells
at_cell : HasMembers → (test : List ℤ → Bool) (positions : List Interval) (c : List ℤ) → list_all test (cells_of positions) ≡ true → IsIn positions c → test c ≡ true
at_cell members test positions c all inside =
    let there : Contains (cells_of positions) c = (members positions c).1 inside in
    subst (λ (d : List ℤ). test d ≡ true) there.2 (AllPass-from_list_all test (cells_of positions) all there.0 c there.1)

at_each : HasMembers → (test : List ℤ → Bool) (positions : List Interval) → ((c : List ℤ) → IsIn positions c → test c ≡ true) → list_all test (cells_of positions) ≡ true
at_each members test positions h =
    list_all-from_AllPass test (cells_of positions)
    (λ k d within. h (get_or (cells_of positions) k d) ((members positions (get_or (cells_of positions) k d)).0 (Contains-get_or (cells_of positions) k d within)))

pub fills_then : HasMembers → (shape : Shaped) (slab : Slab) (piece : Pieced) (written : Option (List Interval)) (reads : List (List Interval)) → (has_all written (cells_of piece.positions) && list_all (λ c. have_sources piece written reads piece.reads (cell_sources shape slab c)) (cells_of piece.positions)) ≡ true → FillsIn shape slab piece written reads
fills_then members shape slab piece None reads e = absurd (cc)
fills_then members shape slab piece (Some area) reads e = λ c inside.
    let parts = and_parts (list_all (is_in area) (cells_of piece.positions)) (list_all (λ d. have_sources piece (Some area) reads piece.reads (cell_sources shape slab d)) (cells_of piece.positions)) e in (
      is_in_is area c (at_cell members (is_in area) piece.positions c parts.0 inside),
      sources_then piece (Some area) reads piece.reads (cell_sources shape slab c) (at_cell members (λ d. have_sources piece (Some area) reads piece.reads (cell_sources shape slab d)) piece.positions c parts.1 inside),
    )

fills_from : HasMembers → (shape : Shaped) (slab : Slab) (piece : Pieced) (written : Option (List Interval)) (reads : List (List Interval)) → FillsIn shape slab piece written reads → (has_all written (cells_of piece.positions) && list_all (λ c. have_sources piece written reads piece.reads (cell_sources shape slab c)) (cells_of piece.positions)) ≡ true
fills_from members shape slab piece None reads h = absurd h
fills_from members shape slab piece (Some area) reads h =
    both_true (list_all (is_in area) (cells_of piece.positions)) (list_all (λ d. have_sources piece (Some area) reads piece.reads (cell_sources shape slab d)) (cells_of piece.positions))
    (at_each members (is_in area) piece.positions (λ c inside. passes_in area c (h c inside).0))
    (at_each members (λ d. have_sources piece (Some area) reads piece.reads (cell_sources shape slab d)) piece.positions (λ c inside. sources_from piece (Some area) reads piece.reads (cell_sources shape slab c) (h c inside).1))

all_then : HasMembers → (o : Option (List Interval)) (box : List Interval) → has_all o (cells_of box) ≡ true → HasAll o box
all_then members None box e = absurd (cc)
all_then members (Some area) box e = λ c inside. is_in_is area c (at_cell members (is_in area) box c e inside)

all_from : HasMembers → (o : Option (List Interval)) (box : List Interval) → HasAll o box → has_all o (cells_of box) ≡ true
all_from members None box h = absurd h
all_from members (Some area) box h = at_each members (is_in area) box (λ c inside. passes_in area c (h c inside))

pub task_then : HasMembers → (task : Task) (piece : Pieced) (written : Option (List Interval)) (reads : List (List Interval)) → task_fits task piece written reads ≡ true → SetsIn task piece written reads
task_then members (Assign target) piece written reads e = cells_then members written target piece.positions e
task_then members (Reduce reduction) piece written reads e = tt
task_then members (Fill shape slab array) piece written reads e = fills_then members (shape_of shape) slab piece written reads e
task_then members (Guard array) piece written reads e =
    let parts = and_parts (has_all written (cells_of piece.positions)) (has_all (lent_for piece written reads (copied_from piece)) (cells_of piece.positions)) e in
    (all_then members written piece.positions parts.0, all_then members (lent_for piece written reads (copied_from piece)) piece.positions parts.1)

task_from : HasMembers → (task : Task) (piece : Pieced) (written : Option (List Interval)) (reads : List (List Interval)) → SetsIn task piece written reads → task_fits task piece written reads ≡ true
task_from members (Assign target) piece written reads h = cells_from members written target piece.positions h
task_from members (Reduce reduction) piece written reads h = refl
task_from members (Fill shape slab array) piece written reads h = fills_from members (shape_of shape) slab piece written reads h
task_from members (Guard array) piece written reads h =
    both_true (has_all written (cells_of piece.positions)) (has_all (lent_for piece written reads (copied_from piece)) (cells_of piece.positions))
    (all_from members written piece.positions h.0) (all_from members (lent_for piece written reads (copied_from piece)) piece.positions h.1)

pub fits_is : HasMembers → (piece : Pieced) (written : Option (List Interval)) (reads : List (List Interval)) → (fits piece written reads ≡ true) ↔ IsFitting piece written reads
fits_is members piece written reads = (then, from)
  where
    then : fits piece written reads ≡ true → IsFitting piece written reads
    then e =
        let parts = and_parts _ (task_fits piece.task piece written reads) e in
        record {
          read_there = λ view there. cells_then members (lent_for piece written reads (read_in piece view)) view piece.positions
              (subst (λ (v : Viewed). has_cells (lent_for piece written reads (read_in piece v)) v.slots (cells_of piece.positions) ≡ true) there.2
              (AllPass-from_list_all (λ (v : Viewed). has_cells (lent_for piece written reads (read_in piece v)) v.slots (cells_of piece.positions)) (views_of piece.code) parts.0 there.0 view there.1));
          set_there = task_then members piece.task piece written reads parts.1;
        }

    from : IsFitting piece written reads → fits piece written reads ≡ true
    from h =
        both_true _ (task_fits piece.task piece written reads)
        (list_all-from_AllPass (λ (v : Viewed). has_cells (lent_for piece written reads (read_in piece v)) v.slots (cells_of piece.positions)) (views_of piece.code)
        (λ k d within. cells_from members _ (get_or (views_of piece.code) k d) piece.positions (h.read_there (get_or (views_of piece.code) k d) (Contains-get_or (views_of piece.code) k d within))))
        (task_from members piece.task piece written reads h.set_there)
