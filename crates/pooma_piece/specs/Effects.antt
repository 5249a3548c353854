-- What a piece makes of the patches that are lent to it, and what it answers. All values are taken over the old contents.
use Rattle.std.specs.Prelude.{ℤ, is_err, Ok, Err, Option, None, Some, List, [], ◌∷◌, length, map, count_by}
use Rattle.std.specs.List.{before_first, filter_map}
use Rattle.pooma_domain.specs.Cells.{cells_of}
use Rattle.pooma_view.specs.declared.slots.Slot.{Slot}
use Rattle.pooma_view.specs.Slots.{cell_named}
use Rattle.pooma_field.specs.Numbered.{Numbered, Change, with_changes}
use Rattle.pooma_field.specs.ShapeOf.{shape_of}
use Rattle.pooma_expr.specs.declared.reduction.Reduction.{Reduction}
use Rattle.pooma_expr.specs.Reductions.{Kept, is_set, join_all, join_of, sum_of}
use Rattle.pooma_expr.specs.Values.{Checked, value}
use Rattle.pooma_piece.specs.declared.outcome.Outcome.{Outcome}
use Rattle.pooma_piece.specs.declared.outcome.Outcome.TheVariants.{Done, Value, Fault}
use Rattle.pooma_piece.specs.declared.task.Task.{Task}
use Rattle.pooma_piece.specs.declared.task.Task.TheVariants.{Assign, Reduce, Fill, Guard}
use Rattle.pooma_piece.specs.Copies.{copy_change}
use Rattle.pooma_piece.specs.Fills.{fill_change}
use Rattle.pooma_piece.specs.Lent.{seen_by}
use Rattle.pooma_piece.specs.Pieces.{Pieced}

-- the value of the piece's code at a position
abbrev pub value_at : Pieced → Option Numbered → List Numbered → List ℤ → Checked
value_at piece written reads p = value [] (seen_by piece written reads) piece.code p

abbrev pub number_of : Checked → Option ℤ
number_of (Ok n) = Some n
number_of (Err kind) = None

abbrev pub change_to : List ℤ → Checked → Option Change
change_to c (Ok n) = Some (record { cell = c; number = n })
change_to c (Err kind) = None

-- the numbers at these positions
abbrev pub numbers_over : (List ℤ → Checked) → List (List ℤ) → List ℤ
numbers_over value positions = filter_map (λ p. number_of (value p)) positions

-- these numbers, each for the cell that the slots name at its position
abbrev pub changes_over : List Slot → (List ℤ → Checked) → List (List ℤ) → List Change
changes_over slots value positions = filter_map (λ p. change_to (cell_named slots p) (value p)) positions

-- the positions before the first whose value is a fault; all of them where none is
abbrev pub before_fault : (List ℤ → Checked) → List (List ℤ) → List (List ℤ)
before_fault value positions = before_first (λ p. is_err (value p)) positions

abbrev pub fault_or : List ℤ → Checked → Outcome → Outcome
fault_or p (Ok n) otherwise = otherwise
fault_or p (Err kind) otherwise = Fault p kind

-- the fault of the first position that has one, and else this
abbrev pub first_fault_or : (List ℤ → Checked) → List (List ℤ) → Outcome → Outcome
first_fault_or value [] otherwise = otherwise
first_fault_or value (p ∷ ps) otherwise = fault_or p (value p) (first_fault_or value ps otherwise)

-- what a reduction keeps of these numbers
abbrev pub kept_of : Reduction → List ℤ → Kept
kept_of reduction xs =
    record {
      reduction = reduction;
      total = record { number = sum_of xs; count = length xs };
      set = count_by is_set xs;
      joined = join_all (join_of reduction) xs;
    }

-- the new content of the patch that is written
abbrev pub content_by : Task → Pieced → Numbered → List Numbered → Numbered
content_by (Assign target) piece old reads =
    with_changes old (changes_over target.slots (value_at piece (Some old) reads) (before_fault (value_at piece (Some old) reads) (cells_of piece.positions)))
content_by (Reduce reduction) piece old reads = old
content_by (Fill shape slab array) piece old reads =
    with_changes old (map (fill_change (shape_of shape) slab piece (Some old) reads) (cells_of piece.positions))
content_by (Guard array) piece old reads = with_changes old (map (copy_change piece (Some old) reads) (cells_of piece.positions))

-- what the piece answers
abbrev pub answer_by : Task → Pieced → Option Numbered → List Numbered → Outcome
answer_by (Assign target) piece written reads = first_fault_or (value_at piece written reads) (cells_of piece.positions) Done
answer_by (Reduce reduction) piece written reads =
    first_fault_or (value_at piece written reads) (cells_of piece.positions)
    (Value (kept_of reduction (numbers_over (value_at piece written reads) (cells_of piece.positions))))
answer_by (Fill shape slab array) piece written reads = Done
answer_by (Guard array) piece written reads = Done
