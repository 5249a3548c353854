-- The definitions on worked cases, by computing.
use Rattle.std.proofs.Common.{refl, sym, ap, subst, ◌∙◌, arith}
use Rattle.std.proofs.lemmas.Bool.{false≢true, ltb-true}
use Rattle.std.proofs.lemmas.Int.{fits_signed_from_abs, ints}
use Rattle.std.specs.Fmt.{digits}
use Rattle.std.specs.Int.{w32}
use Rattle.std.specs.Ordering.{int_eq}
use Rattle.std.specs.Prelude.{◌≡◌, ◌++◌, ◌≢◌, ℕ, ◌-◌, ◌^◌, ℤ, pos, negsuc, ◌+ℤ◌, ◌*ℤ◌, nat_lt, unsigned_abs, codes, true, false, Some, None, List, [], ◌∷◌, flat_map, length, map, slice_index_or, All}
use Rattle.pooma_domain.specs.Cells.{Interval, cells_of, interval, IsIn}
use Rattle.pooma_view.specs.declared.slots.Slot.{Slot}
use Rattle.pooma_view.specs.declared.slots.Slot.TheVariants.{Fixed, Along}
use Rattle.pooma_view.specs.Overlap.{IsOverlap}
use Rattle.pooma_view.specs.Slots.{cell_named, positions_of}
use Rattle.pooma_view.specs.Views.{Viewed}
use Rattle.pooma_field.specs.declared.updaters.Updater.{Updater}
use Rattle.pooma_field.specs.declared.updaters.Updater.TheVariants.{Constant, Periodic, Reflect, Antireflect, Extrapolate}
use Rattle.pooma_field.specs.Faces.{by_axis}
use Rattle.pooma_field.specs.Numbered.{place_in}
use Rattle.pooma_field.specs.Shapes.{Shaped}
use Rattle.pooma_field.specs.Worlds.{World, changed, opening_world}
use Rattle.pooma_layout.specs.Axes.{CutAxis, cut_axis}
use Rattle.pooma_expr.specs.declared.reduction.Reduction.TheVariants as of
use Rattle.pooma_expr.specs.declared.tree.Op.{Op}
use Rattle.pooma_expr.specs.declared.tree.Op.TheVariants as op
use Rattle.pooma_expr.specs.declared.tree.Expr.{Expr}
use Rattle.pooma_expr.specs.declared.tree.Expr.TheOpen.{Expr-F}
use Rattle.pooma_expr.specs.declared.tree.Expr.TheViews.{roll-Expr}
use Rattle.pooma_expr.specs.declared.tree.Expr.TheFolds.{fold-roll-Expr}
use Rattle.pooma_model.specs.declared.statement.Action.{Action}
use Rattle.pooma_model.specs.declared.statement.Action.TheVariants as action
use Rattle.pooma_model.specs.declared.statement.Statement.{Statement}
use Rattle.pooma_expr.specs.Trees.{views_by, views_of}
use Rattle.pooma_expr.specs.Values.{and_then, exact}
use Rattle.pooma_model.specs.Assigning.{Becomes, Given, Number, assigned, fault_or, given_at, given_by}
use Rattle.pooma_model.specs.Declarations.{Declared, seen_in}
use Rattle.pooma_model.specs.Fit.{IsFit}
use Rattle.pooma_model.specs.Order.{times}
use Rattle.pooma_model.specs.Parts.{parts_of}
use Rattle.pooma_model.specs.Partitions.{changes_at, fault_at}
use Rattle.pooma_model.specs.Runs.{world_after}
use Rattle.pooma_model.specs.Serial.{Run, go_on, serial}
use Rattle.pooma_model.proofs.Assigned.{same_changes}
use Rattle.pooma_model.proofs.Faulting.{same_faults}

-- ---- how the cases are written

abbrev number : ℤ → Expr
number n = roll-Expr (Expr-F.Literal n)

abbrev scalar : ℕ → Expr
scalar n = roll-Expr (Expr-F.Scalar n)

abbrev index : ℕ → Expr
index axis = roll-Expr (Expr-F.Index axis)

abbrev read : Viewed → Expr
read view = roll-Expr (Expr-F.Read view)

abbrev minus : Expr → Expr
minus a = roll-Expr (Expr-F.Neg a)

abbrev two : Op → Expr → Expr → Expr
two o a b = roll-Expr (Expr-F.Bin o a b)

abbrev choice : Expr → Expr → Expr → Expr
choice c a b = roll-Expr (Expr-F.Where c a b)

abbrev MOST : Expr
MOST = number (pos 9223372036854775807)

-- so many numbers from a first one on at a stride
abbrev going : (first stride : ℤ) (count : ℕ) → int_eq stride (pos 0) ≡ false → nat_lt 0 count ≡ true → nat_lt (unsigned_abs (first +ℤ stride *ℤ pos (count - 1))) (2 ^ 31) ≡ true → Slot
going first stride count moves some fits = Along (record {
  first = first;
  stride = stride;
  count = count;
  moves = λ e. false≢true (sym moves ∙ ap (λ z. int_eq z (pos 0)) e);
  some = ltb-true 0 count some;
  fits = fits_signed_from_abs w32 (first +ℤ stride *ℤ pos (count - 1)) (ltb-true (unsigned_abs (first +ℤ stride *ℤ pos (count - 1))) (2 ^ 31) fits);
})

abbrev view : ℕ → List Slot → Viewed
view array slots = record { array = array; slots = slots }

abbrev brick : List Interval → Shaped
brick box = record { physical = box; total = box; faces = None }

abbrev field : List Interval → List Interval → List Updater → Shaped
field physical total updaters = record { physical = physical; total = total; faces = Some (by_axis updaters) }

-- layouts decide nothing of what is written
abbrev declaring : List Shaped → ℕ → Declared
declaring shapes scalars = record { shapes = shapes; layouts = []; scalars = scalars }

abbrev on_line : ℕ → Action → Statement
on_line line act = record { line = line; action = act }

-- a run from the opening world
abbrev run_of : Declared → List Statement → Run
run_of declared list = serial declared list (opening_world declared.shapes declared.scalars)

abbrev lines : List (List ℕ) → List ℕ
lines texts = flat_map (λ text. text ++ 10 ∷ []) texts

abbrev prints : List (List ℕ) → Run
prints texts = record { bytes = lines texts; faulted = false }

abbrev ends_with : List (List ℕ) → Run
ends_with texts = record { bytes = lines texts; faulted = true }

-- the scalar gets the expression
abbrev set_scalar : ℕ → Expr → Action
set_scalar n e = action.Reduce n of.Sum [] e

-- ---- scalars

the_least_number_has_no_other_sign : run_of (declaring [] 1) (on_line 1 (set_scalar 0 (two op.Div (two op.Sub (minus MOST) (number (pos 1))) (minus (number (pos 1))))) ∷ [])
    ≡ ends_with (codes "fault line 1 at (): overflow" ∷ [])
unfolding digits
the_least_number_has_no_other_sign = simp fold-roll-Expr

nothing_is_divided_by_zero : run_of (declaring [] 1) (on_line 1 (set_scalar 0 (two op.Rem (number (pos 5)) (number (pos 0)))) ∷ [])
    ≡ ends_with (codes "fault line 1 at (): zero divisor" ∷ [])
unfolding digits
nothing_is_divided_by_zero = simp fold-roll-Expr

what_is_not_chosen_has_no_fault : run_of (declaring [] 1)
    (on_line 1 (set_scalar 0 (choice (number (pos 0)) (two op.Div (number (pos 1)) (number (pos 0))) (number (pos 5)))) ∷ on_line 1 (action.PrintScalar 0) ∷ [])
    ≡ prints (codes "5" ∷ [])
unfolding digits
what_is_not_chosen_has_no_fault = simp fold-roll-Expr

-- ---- rows of numbers

abbrev row : ℤ → List Interval
row last = interval (pos 0) last ∷ []

abbrev four : Viewed
four = view 0 (going (pos 0) (pos 1) 4 refl refl refl ∷ [])

one_number_everywhere : run_of (declaring (brick (row (pos 3)) ∷ []) 0)
    (on_line 2 (action.Assign four (number (pos 7)) None) ∷ on_line 3 (action.PrintView four) ∷ [])
    ≡ prints (codes "7 7 7 7" ∷ [])
unfolding place_in digits
one_number_everywhere = simp fold-roll-Expr

every_other_number_backwards : run_of (declaring (brick (row (pos 3)) ∷ []) 0)
    (on_line 2 (action.Assign four (index 0) None) ∷ on_line 3 (action.PrintView (view 0 (going (pos 3) (negsuc 1) 2 refl refl refl ∷ []))) ∷ [])
    ≡ prints (codes "3 1" ∷ [])
unfolding place_in digits
every_other_number_backwards = simp fold-roll-Expr

the_first_position_that_faults : run_of (declaring (brick (row (pos 3)) ∷ []) 0)
    (on_line 2 (action.Assign four (two op.Div (number (pos 5)) (two op.Sub (number (pos 2)) (index 0))) None) ∷ on_line 3 (action.PrintView four) ∷ [])
    ≡ ends_with (codes "fault line 2 at (2): zero divisor" ∷ [])
unfolding place_in digits
the_first_position_that_faults = simp fold-roll-Expr

the_least_number_is_the_last : run_of (declaring (brick (row (pos 2)) ∷ []) 0)
    (on_line 2 (action.Assign (view 0 (going (pos 0) (pos 1) 3 refl refl refl ∷ [])) (two op.Sub (minus MOST) (index 0)) None) ∷ [])
    ≡ ends_with (codes "fault line 2 at (2): overflow" ∷ [])
unfolding place_in digits
the_least_number_is_the_last = simp fold-roll-Expr

-- what is left out by the mask is not looked at
a_mask_leaves_out : run_of (declaring (brick (row (pos 3)) ∷ []) 0)
    (on_line 2 (action.Assign four (two op.Div (number (pos 5)) (index 0)) (Some (index 0))) ∷ on_line 3 (action.PrintView four) ∷ [])
    ≡ prints (codes "0 5 2 1" ∷ [])
unfolding place_in digits
a_mask_leaves_out = simp fold-roll-Expr

abbrev six : Viewed
six = view 0 (going (pos 0) (pos 1) 6 refl refl refl ∷ [])

reductions_of_a_row : run_of (declaring (brick (row (pos 5)) ∷ []) 3)
    (on_line 2 (action.Assign six (two op.Sub (index 0) (number (pos 2))) None)
    ∷ on_line 3 (action.Reduce 0 of.Count (row (pos 5)) (two op.Greater (read six) (number (pos 0)))) ∷ on_line 4 (action.PrintScalar 0)
    ∷ on_line 5 (action.Reduce 1 of.Min (row (pos 5)) (read six)) ∷ on_line 6 (action.PrintScalar 1)
    ∷ on_line 7 (action.Reduce 2 of.BitOr (row (pos 5)) (read six)) ∷ on_line 8 (action.PrintScalar 2)
    ∷ on_line 9 (action.PrintView (view 0 (going (pos 5) (negsuc 1) 3 refl refl refl ∷ []))) ∷ [])
    ≡ prints (codes "3" ∷ codes "-2" ∷ codes "-1" ∷ codes "3 1 -1" ∷ [])
unfolding place_in digits
reductions_of_a_row = simp fold-roll-Expr

abbrev three : Viewed
three = view 0 (going (pos 0) (pos 1) 3 refl refl refl ∷ [])

abbrev cell : ℤ → Viewed
cell x = view 0 (Fixed x ∷ [])

-- three numbers of a row, and their sum on line 6
abbrev sum_of_three : Expr → Expr → Expr → List Statement
sum_of_three a b c =
    on_line 3 (action.Assign (cell (pos 0)) a None) ∷ on_line 4 (action.Assign (cell (pos 1)) b None) ∷ on_line 5 (action.Assign (cell (pos 2)) c None)
    ∷ on_line 6 (action.Reduce 0 of.Sum (row (pos 2)) (read three)) ∷ on_line 7 (action.PrintScalar 0) ∷ []

only_the_whole_sum_counts : run_of (declaring (brick (row (pos 2)) ∷ []) 1) (sum_of_three MOST MOST (minus MOST)) ≡ prints (codes "9223372036854775807" ∷ [])
unfolding place_in digits
only_the_whole_sum_counts = simp fold-roll-Expr

the_sum_faults : run_of (declaring (brick (row (pos 2)) ∷ []) 1) (sum_of_three MOST (number (pos 1)) (number (pos 0))) ≡ ends_with (codes "fault line 6 at sum: overflow" ∷ [])
unfolding place_in digits
the_sum_faults = simp fold-roll-Expr

abbrev eight : Viewed
eight = view 0 (going (pos 0) (pos 1) 8 refl refl refl ∷ [])

-- the print stands before the fault, and nothing stands after it
a_run_ends_at_its_fault : run_of (declaring (brick (row (pos 7)) ∷ []) 0)
    (on_line 3 (action.Assign eight (index 0) None) ∷ on_line 4 (action.PrintView eight)
    ∷ on_line 5 (action.Assign eight (two op.Div (read eight) (two op.Sub (read eight) (number (pos 2)))) None)
    ∷ on_line 6 (action.Assign eight (two op.Add MOST (read eight)) None) ∷ on_line 7 (action.PrintView eight) ∷ [])
    ≡ ends_with (codes "0 1 2 3 4 5 6 7" ∷ codes "fault line 5 at (2): zero divisor" ∷ [])
unfolding place_in digits
a_run_ends_at_its_fault = simp fold-roll-Expr

-- of two faults on one line the first position's is named
two_positions_fault : run_of (declaring (brick (row (pos 5)) ∷ brick (row (pos 5)) ∷ []) 0)
    (on_line 4 (action.Assign six MOST None) ∷ on_line 5 (action.Assign (cell (pos 2)) (number (pos 0)) None)
    ∷ on_line 6 (action.Assign (view 1 (going (pos 0) (pos 1) 6 refl refl refl ∷ [])) (two op.Add (read six) (number (pos 1))) None) ∷ [])
    ≡ ends_with (codes "fault line 6 at (0): overflow" ∷ [])
unfolding place_in digits
two_positions_fault = simp fold-roll-Expr

-- ---- fields

-- the reads are those of the world before, external cells too
faces_of_the_old_row : run_of (declaring (field (row (pos 3)) (interval (negsuc 0) (pos 4) ∷ []) (Reflect ∷ Reflect ∷ []) ∷ []) 0)
    (on_line 3 (action.Assign four (two op.Add (index 0) (number (pos 1))) None)
    ∷ on_line 4 (action.Assign (view 0 (going (pos 0) (pos 3) 2 refl refl refl ∷ []))
    (two op.Add (read (view 0 (going (pos 0) (pos 3) 2 refl refl refl ∷ []))) (read (view 0 (going (negsuc 0) (pos 5) 2 refl refl refl ∷ [])))) None)
    ∷ on_line 5 (action.PrintView (view 0 (going (negsuc 0) (pos 1) 6 refl refl refl ∷ []))) ∷ [])
    ≡ prints (codes "2 2 2 3 8 8" ∷ [])
unfolding place_in digits
faces_of_the_old_row = simp fold-roll-Expr

lines_go_on : run_of (declaring (field (row (pos 2)) (interval (negsuc 1) (pos 4) ∷ []) (Extrapolate ∷ Extrapolate ∷ []) ∷ []) 0)
    (on_line 3 (action.Assign three (two op.Mul (index 0) (index 0)) None) ∷ on_line 4 (action.PrintView (view 0 (going (negsuc 1) (pos 1) 7 refl refl refl ∷ []))) ∷ [])
    ≡ prints (codes "-2 -1 0 1 4 7 10" ∷ [])
unfolding place_in digits
lines_go_on = simp fold-roll-Expr

-- a corner goes by the second axis
corners : run_of (declaring (field (row (pos 1) ++ row (pos 1)) (interval (negsuc 0) (pos 2) ∷ interval (negsuc 0) (pos 2) ∷ []) (Constant (pos 5) ∷ Periodic ∷ Antireflect ∷ Antireflect ∷ []) ∷ []) 0)
    (on_line 3 (action.Assign (view 0 (going (pos 0) (pos 1) 2 refl refl refl ∷ going (pos 0) (pos 1) 2 refl refl refl ∷ []))
    (two op.Add (two op.Add (number (pos 1)) (index 0)) (two op.Mul (number (pos 2)) (index 1))) None)
    ∷ on_line 4 (action.Assign (view 0 (Fixed (pos 0) ∷ Fixed (pos 0) ∷ [])) (two op.Sub (minus MOST) (number (pos 1))) None)
    ∷ on_line 5 (action.PrintView (view 0 (going (negsuc 0) (pos 1) 4 refl refl refl ∷ going (negsuc 0) (pos 1) 4 refl refl refl ∷ []))) ∷ [])
    ≡ prints (codes "-5 9223372036854775807 -2 9223372036854775807" ∷ codes "5 -9223372036854775808 2 -9223372036854775808" ∷ codes "5 3 4 3" ∷ codes "-5 -3 -4 -3" ∷ [])
unfolding place_in digits
corners = simp fold-roll-Expr

-- ---- more axes

rows_of_a_block : run_of (declaring (brick (row (pos 1) ++ (row (pos 1) ++ row (pos 1))) ∷ []) 0)
    (on_line 2 (action.Assign (view 0 (going (pos 0) (pos 1) 2 refl refl refl ∷ going (pos 0) (pos 1) 2 refl refl refl ∷ going (pos 0) (pos 1) 2 refl refl refl ∷ []))
    (two op.Add (two op.Add (index 0) (two op.Mul (number (pos 10)) (index 1))) (two op.Mul (number (pos 100)) (index 2))) None)
    ∷ on_line 3 (action.PrintView (view 0 (going (pos 0) (pos 1) 2 refl refl refl ∷ going (pos 0) (pos 1) 2 refl refl refl ∷ going (pos 0) (pos 1) 2 refl refl refl ∷ []))) ∷ [])
    ≡ prints (codes "0 1" ∷ codes "10 11" ∷ codes "100 101" ∷ codes "110 111" ∷ [])
unfolding place_in digits
rows_of_a_block = simp fold-roll-Expr

-- the column is read across the row, and they share one cell at one position
abbrev along : Viewed
along = view 0 (Fixed (pos 3) ∷ going (pos 0) (pos 1) 8 refl refl refl ∷ [])

abbrev across : Viewed
across = view 0 (going (pos 0) (pos 1) 8 refl refl refl ∷ Fixed (pos 3) ∷ [])

abbrev everywhere : Viewed
everywhere = view 0 (going (pos 0) (pos 1) 8 refl refl refl ∷ going (pos 0) (pos 1) 8 refl refl refl ∷ [])

abbrev square : Declared
square = declaring (brick (row (pos 7) ++ row (pos 7)) ∷ []) 0

-- the numbers of the cells, where a function of the cells gives them
abbrev square_has : (List ℤ → ℤ) → World
square_has number_at_cell = record { arrays = record { area = row (pos 7) ++ row (pos 7); numbers = map number_at_cell (cells_of (row (pos 7) ++ row (pos 7))) } ∷ []; scalars = [] }

abbrev by_digits : List ℤ → ℤ
by_digits c = slice_index_or c 0 (pos 0) +ℤ pos 10 *ℤ slice_index_or c 1 (pos 0)

-- the world that an assignment becomes, where what it gives to positions is known
becomes_so : (declared : Declared) (target : Viewed) (e : Expr) (world : World) (given : List ℤ → Given) → ((p : List ℤ) → given_at declared world e None p ≡ given p)
    → assigned declared target e None world ≡ fault_or (fault_at given (cells_of (positions_of target.slots))) (changed world target.array (changes_at given target.slots (cells_of (positions_of target.slots))))
becomes_so declared target e world given same =
    ap (λ f. fault_or f (changed world target.array (changes_at (given_at declared world e None) target.slots (cells_of (positions_of target.slots)))))
    (same_faults (given_at declared world e None) given (cells_of (positions_of target.slots)) (λ p m. same p))
    ∙ ap (λ changes. fault_or (fault_at given (cells_of (positions_of target.slots))) (changed world target.array changes))
    (same_changes (given_at declared world e None) given target.slots (cells_of (positions_of target.slots)) (λ p m. same p))

abbrev two_digits : Expr
two_digits = two op.Add (index 0) (two op.Mul (number (pos 10)) (index 1))

abbrev two_digits_at : List ℤ → Given
two_digits_at p = given_by (and_then (exact (pos 10 *ℤ slice_index_or p 1 (pos 0))) (λ tens. exact (slice_index_or p 0 (pos 0) +ℤ tens)))

digits_everywhere : assigned square everywhere two_digits None (opening_world square.shapes square.scalars) ≡ Becomes (square_has by_digits)
unfolding place_in
digits_everywhere = becomes_so square everywhere two_digits (opening_world square.shapes square.scalars) two_digits_at (λ p. simp fold-roll-Expr)

abbrev column_to_row : List Statement
column_to_row = on_line 3 (action.Assign along (read across) None) ∷ on_line 4 (action.PrintView along) ∷ []

column_read : serial square column_to_row (square_has by_digits) ≡ prints (codes "30 31 32 33 34 35 36 37" ∷ [])
unfolding place_in digits
column_read =
    ap (λ effect. go_on 3 [] effect (serial square (on_line 4 (action.PrintView along) ∷ [])))
    (becomes_so square along (read across) (square_has by_digits) (λ p. Number (seen_in square (square_has by_digits) across (cell_named across.slots p))) (λ p. simp fold-roll-Expr))

a_row_gets_the_column : run_of square (on_line 2 (action.Assign everywhere two_digits None) ∷ column_to_row) ≡ prints (codes "30 31 32 33 34 35 36 37" ∷ [])
a_row_gets_the_column = ap (λ effect. go_on 2 [] effect (serial square column_to_row)) digits_everywhere ∙ column_read

-- ---- repeats

abbrev means : Declared
means = declaring (field (row (pos 7)) (interval (negsuc 0) (pos 8) ∷ []) (Constant (pos 0) ∷ Constant (pos 0) ∷ []) ∷ brick (row (pos 7)) ∷ []) 0

abbrev other_eight : Viewed
other_eight = view 1 (going (pos 0) (pos 1) 8 refl refl refl ∷ [])

abbrev mean_of_neighbours : List Statement
mean_of_neighbours =
    on_line 6 (action.Assign other_eight
    (two op.Div (two op.Add (read (view 0 (going (negsuc 0) (pos 1) 8 refl refl refl ∷ []))) (read (view 0 (going (pos 1) (pos 1) 8 refl refl refl ∷ [])))) (number (pos 2))) None)
    ∷ on_line 7 (action.Assign eight (read other_eight) None) ∷ []

-- the world in which the field and the other array have these numbers
abbrev both_have : List ℤ → List ℤ → World
both_have one other = record { arrays = record { area = row (pos 7); numbers = one } ∷ record { area = row (pos 7); numbers = other } ∷ []; scalars = [] }

abbrev rising : List ℤ
rising = pos 0 ∷ pos 1 ∷ pos 2 ∷ pos 3 ∷ pos 4 ∷ pos 5 ∷ pos 6 ∷ pos 7 ∷ []

abbrev once_smooth : List ℤ
once_smooth = pos 0 ∷ pos 1 ∷ pos 2 ∷ pos 3 ∷ pos 4 ∷ pos 5 ∷ pos 6 ∷ pos 3 ∷ []

abbrev twice_smooth : List ℤ
twice_smooth = pos 0 ∷ pos 1 ∷ pos 2 ∷ pos 3 ∷ pos 4 ∷ pos 5 ∷ pos 4 ∷ pos 3 ∷ []

abbrev still : List ℤ
still = pos 0 ∷ pos 0 ∷ pos 0 ∷ pos 0 ∷ pos 0 ∷ pos 0 ∷ pos 0 ∷ pos 0 ∷ []

at_first : world_after means (on_line 4 (action.Assign eight (index 0) None) ∷ []) (opening_world means.shapes means.scalars) ≡ both_have rising still
unfolding place_in
at_first = simp fold-roll-Expr

once : world_after means mean_of_neighbours (both_have rising still) ≡ both_have once_smooth once_smooth
unfolding place_in
once = simp fold-roll-Expr

again : world_after means mean_of_neighbours (both_have once_smooth once_smooth) ≡ both_have twice_smooth twice_smooth
unfolding place_in
again = simp fold-roll-Expr

means_of_neighbours_twice : world_after means (on_line 4 (action.Assign eight (index 0) None) ∷ times 2 mean_of_neighbours) (opening_world means.shapes means.scalars) ≡ both_have twice_smooth twice_smooth
means_of_neighbours_twice = ap (world_after means (times 2 mean_of_neighbours)) at_first ∙ ap (world_after means mean_of_neighbours) once ∙ again

what_they_print : serial means (on_line 9 (action.PrintView eight) ∷ []) (both_have twice_smooth twice_smooth) ≡ prints (codes "0 1 2 3 4 5 4 3" ∷ [])
unfolding place_in digits
what_they_print = refl

-- ---- what does not fit

reads_of : (v : Viewed) → views_of (read v) ≡ v ∷ []
reads_of v = fold-roll-Expr (List Viewed) views_by (Expr-F.Read v)

no_overlap : (declared : Declared) (target source : Viewed) → IsFit declared (action.Assign target (read source) None) → IsOverlap source target → ⊥
no_overlap declared target source fit = (subst (λ views. All (λ v. IsOverlap v target → ⊥) views) (reads_of source) fit.apart) 0 source (omega arith)

same_positions : (declared : Declared) (target source : Viewed) → IsFit declared (action.Assign target (read source) None) → positions_of source.slots ≡ positions_of target.slots
same_positions declared target source fit = (subst (λ views. All (λ v. positions_of v.slots ≡ positions_of target.slots) views) (reads_of source) fit.value.equal) 0 source (omega arith)

-- at position 1 the cell is read that is written at position 0
a_row_moved_by_one : (declared : Declared) → IsFit declared (action.Assign (view 0 (going (pos 1) (pos 1) 7 refl refl refl ∷ [])) (read (view 0 (going (pos 0) (pos 1) 7 refl refl refl ∷ []))) None) → ⊥
a_row_moved_by_one declared fit =
    no_overlap declared (view 0 (going (pos 1) (pos 1) 7 refl refl refl ∷ [])) (view 0 (going (pos 0) (pos 1) 7 refl refl refl ∷ [])) fit
    (refl, (pos 1 ∷ [], pos 0 ∷ [], (omega (arith, ints), omega (arith, ints), tt), (omega (arith, ints), omega (arith, ints), tt), (λ e. let wrong : pos 1 ∷ [] ≡ pos 0 ∷ [] = e in cc), refl))

-- the cell (2, 3) is position 2 of the read and position 3 of the target
a_column_across_its_row : (declared : Declared) → IsFit declared (action.Assign (view 0 (Fixed (pos 2) ∷ going (pos 0) (pos 1) 4 refl refl refl ∷ [])) (read (view 0 (going (pos 0) (pos 1) 4 refl refl refl ∷ Fixed (pos 3) ∷ []))) None) → ⊥
a_column_across_its_row declared fit =
    no_overlap declared (view 0 (Fixed (pos 2) ∷ going (pos 0) (pos 1) 4 refl refl refl ∷ [])) (view 0 (going (pos 0) (pos 1) 4 refl refl refl ∷ Fixed (pos 3) ∷ [])) fit
    (refl, (pos 2 ∷ [], pos 3 ∷ [], (omega (arith, ints), omega (arith, ints), tt), (omega (arith, ints), omega (arith, ints), tt), (λ e. let wrong : pos 2 ∷ [] ≡ pos 3 ∷ [] = e in cc), refl))

one_position_shared : IsOverlap across along → ⊥
one_position_shared o = by o.1.0 o.1.1 o.1.2 o.1.3 o.1.4 o.1.5
  where
    by : (p q : List ℤ) → IsIn (row (pos 7)) p → IsIn (row (pos 7)) q → p ≢ q → cell_named across.slots p ≡ cell_named along.slots q → ⊥
    by [] q in_p in_q differ same = absurd in_p
    by (x ∷ y ∷ p) q in_p in_q differ same = absurd in_p.2
    by (x ∷ []) [] in_p in_q differ same = absurd in_q
    by (x ∷ []) (y ∷ z ∷ q) in_p in_q differ same = absurd in_q.2
    by (x ∷ []) (y ∷ []) in_p in_q differ same =
        let one : pos 0 +ℤ pos 1 *ℤ x ≡ pos 3 = ap (λ c. slice_index_or c 0 (pos 0)) same in
        let other : pos 3 ≡ pos 0 +ℤ pos 1 *ℤ y = ap (λ c. slice_index_or c 1 (pos 0)) same in
        let equal : x ≡ y = omega (arith, ints) in
        differ (ap (λ z. z ∷ []) equal)

-- four positions for three
rows_of_two_lengths : (declared : Declared) → IsFit declared (action.Assign (view 0 (going (pos 0) (pos 1) 3 refl refl refl ∷ [])) (read (view 1 (going (pos 0) (pos 1) 4 refl refl refl ∷ []))) None) → ⊥
rows_of_two_lengths declared fit =
    let lengths : ◌≡◌ {A = ℕ} 4 3 = ap (λ box. length (cells_of box)) (same_positions declared (view 0 (going (pos 0) (pos 1) 3 refl refl refl ∷ [])) (view 1 (going (pos 0) (pos 1) 4 refl refl refl ∷ [])) fit) in
    absurd (omega arith)

-- ---- parts

-- a row of ten cells in blocks of 3, 3, 2 and 2, and its numbers backwards
abbrev ten_in_four : List CutAxis
ten_in_four = cut_axis (interval (pos 0) (pos 9)) (pos 0) (pos 0) (pos 3 ∷ pos 6 ∷ pos 8 ∷ []) ∷ []

seven_parts : parts_of (record { shapes = brick (row (pos 9)) ∷ brick (row (pos 9)) ∷ []; layouts = ten_in_four ∷ ten_in_four ∷ []; scalars = 0 })
    (view 1 (going (pos 0) (pos 1) 10 refl refl refl ∷ []) ∷ view 0 (going (pos 9) (negsuc 0) 10 refl refl refl ∷ []) ∷ []) (row (pos 9))
    ≡ (interval (pos 0) (pos 1) ∷ []) ∷ (interval (pos 2) (pos 2) ∷ []) ∷ (interval (pos 3) (pos 3) ∷ []) ∷ (interval (pos 4) (pos 5) ∷ [])
    ∷ (interval (pos 6) (pos 6) ∷ []) ∷ (interval (pos 7) (pos 7) ∷ []) ∷ (interval (pos 8) (pos 9) ∷ []) ∷ []
seven_parts = refl

-- a statement without axes has one part
one_part : parts_of (declaring [] 0) (cell (pos 2) ∷ []) [] ≡ [] ∷ []
one_part = refl
