-- Pieces make numbers of 64 bits of such numbers.
use Rattle.std.proofs.Common.{refl, subst, arith}
use Rattle.std.proofs.lemmas.List.Elements.{All-cons, All-head, All-map, All-nil, All-set, All-tail, All-take, Contains-get_or}
use Rattle.std.proofs.lemmas.Option.{get_or_from_slice_get, slice_get_within}
use Rattle.std.specs.Int.{w64}
use Rattle.std.specs.List.{cons_option, filter_map, position_or_len}
use Rattle.std.specs.Prelude.{◌≡◌, ◌==◌, ℕ, zero, ℤ, pos, negsuc, neg_ℤ, ◌*ℤ◌, ◌+ℤ◌, ◌-ℤ◌, FitsSigned, Bool, true, false, Ok, Err, is_err, Option, None, Some, option_map, option_and_then, List, [], ◌∷◌, fold, map, slice_get, slice_index_or, All, if◌then◌else◌}
use Rattle.pooma_domain.specs.Cells.{Interval, cells_of, IsAxis, IsIn}
use Rattle.pooma_view.specs.declared.slots.Slot.{Slot}
use Rattle.pooma_view.specs.Slots.{cell_named}
use Rattle.pooma_field.specs.declared.shapes.Slab.{Slab}
use Rattle.pooma_field.specs.declared.updaters.Updater.{Updater}
use Rattle.pooma_field.specs.declared.updaters.Updater.TheVariants.{Constant, Periodic, Reflect, Antireflect, Extrapolate}
use Rattle.pooma_field.specs.Numbered.{Change, Numbered, place_in, with_changes, with_number}
use Rattle.pooma_field.specs.Shapes.{Shaped}
use Rattle.pooma_field.specs.ShapeOf.{shape_of}
use Rattle.pooma_field.specs.Slabs.{axis_at, cell_sources, coordinate_at, made_of}
use Rattle.pooma_field.specs.Updaters.{clamped, distance}
use Rattle.pooma_expr.specs.Values.{Checked}
use Rattle.pooma_expr.specs.Words.{IsWord, literals_fit}
use Rattle.pooma_expr.proofs.Words.{AnswersWord, index_word, place_word, value_word}
use Rattle.pooma_machine.specs.Values.{lent_by, put_back, read_objects, written_object}
use Rattle.pooma_law.specs.Ser.{Results, with_work}
use Rattle.pooma_piece.specs.declared.outcome.Outcome.{Outcome}
use Rattle.pooma_piece.specs.declared.task.Task.{Task}
use Rattle.pooma_piece.specs.declared.task.Task.TheVariants.{Assign, Reduce, Fill, Guard}
use Rattle.pooma_piece.specs.Effects.{before_fault, change_to, changes_over, content_by, value_at}
use Rattle.pooma_piece.specs.Copies.{copy_change}
use Rattle.pooma_piece.specs.Fills.{fill_change, filled_at, numbers_lent}
use Rattle.pooma_piece.specs.Gathered.{HasMembers}
use Rattle.pooma_piece.specs.Lent.{copied_from, is_written, lent_for, number_in, read_in, seen_by}
use Rattle.pooma_piece.specs.Meaning.{pieces}
use Rattle.pooma_piece.specs.Pieces.{Pieced, requests_of}
use Rattle.pooma_piece.specs.Words.{AllWords, GivesWord, MakesWords, TaskMakesWords}

-- ---- what is lent

-- the content, if there is one, has only such numbers
abbrev pub HasWords : Option Numbered → Type 0
HasWords o = (x : Numbered) → o ≡ Some x → All IsWord x.numbers

pub object_words : (objects : List Numbered) (k : ℕ) → AllWords objects → HasWords (slice_get objects k)
object_words objects k words x at =
    subst (λ (o : Numbered). All IsWord o.numbers) (get_or_from_slice_get objects k x x at) (words k x (slice_get_within objects k x at))

pub number_word : (o : Option Numbered) → HasWords o → (c : List ℤ) → FitsSigned w64 (number_in o c)
number_word None has c = index_word [] (All-nil IsWord) zero
number_word (Some x) has c = index_word x.numbers (has x refl) (place_in x.area c)

objects_read : (objects : List Numbered) → AllWords objects → (ks : List ℕ) → AllWords (filter_map (slice_get objects) ks)
objects_read objects words [] = All-nil (λ object. All IsWord object.numbers)
objects_read objects words (k ∷ ks) = by (slice_get objects k) (object_words objects k words) (objects_read objects words ks)
  where
    by : (o : Option Numbered) → HasWords o → AllWords (filter_map (slice_get objects) ks) → AllWords (cons_option o (filter_map (slice_get objects) ks))
    by None has rest = rest
    by (Some x) has rest = All-cons (λ object. All IsWord object.numbers) x (filter_map (slice_get objects) ks) (has x refl) rest

module _ (piece : Pieced) (written : Option Numbered) (reads : List Numbered) (of_written : HasWords written) (of_reads : AllWords reads) where
  lent_words : (object : ℕ) → HasWords (lent_for piece written reads object)
  lent_words object = by (is_written piece.write object)
    where
      by : (b : Bool) → HasWords (if b then written else slice_get reads (position_or_len (λ o. o == object) (read_objects (requests_of piece))))
      by true = of_written
      by false = object_words reads (position_or_len (λ o. o == object) (read_objects (requests_of piece))) of_reads

  lent_number : (object : ℕ) (c : List ℤ) → FitsSigned w64 (number_in (lent_for piece written reads object) c)
  lent_number object c = number_word (lent_for piece written reads object) (lent_words object) c

  value_fits : All IsAxis piece.positions → literals_fit piece.code ≡ true → (p : List ℤ) → IsIn piece.positions p → AnswersWord (value_at piece written reads p)
  value_fits axes literals p inside =
      value_word [] (seen_by piece written reads) p (index_word [] (All-nil IsWord)) (place_word piece.positions p axes inside)
      (λ view c. lent_number (read_in piece view) c) piece.code literals

  sources_fit : (objects : List ℕ) (cells : List (List ℤ)) → All IsWord (numbers_lent piece written reads objects cells)
  sources_fit [] cells = All-nil IsWord
  sources_fit (object ∷ objects) [] = All-nil IsWord
  sources_fit (object ∷ objects) (c ∷ cells) =
      All-cons IsWord (number_in (lent_for piece written reads object) c) (numbers_lent piece written reads objects cells) (lent_number object c) (sources_fit objects cells)

-- ---- what an updater makes

clamped_word : (z : ℤ) → FitsSigned w64 (clamped z)
clamped_word (pos n) = record { sfits = omega arith }
clamped_word (negsuc n) = record { sfits = omega arith }

made_word : (updater : Updater) (axis : Interval) (x : ℤ) (values : List ℤ) → GivesWord updater → All IsWord values → FitsSigned w64 (made_of updater axis x values)
made_word (Constant k) axis x values gives words = gives
made_word Periodic axis x values gives words = index_word values words 0
made_word Reflect axis x values gives words = index_word values words 0
made_word Antireflect axis x values gives words = clamped_word (neg_ℤ (slice_index_or values 0 (pos 0)))
made_word Extrapolate axis x values gives words =
    clamped_word (slice_index_or values 0 (pos 0) +ℤ pos (distance axis x) *ℤ (slice_index_or values 0 (pos 0) -ℤ slice_index_or values 1 (pos 0)))

-- ---- changes

changed_words : (changes : List Change) (a : Numbered) → All (λ change. IsWord change.number) changes → All IsWord a.numbers → All IsWord (with_changes a changes).numbers
changed_words [] a each words = words
changed_words (change ∷ changes) a each words =
    changed_words changes (with_number a change.cell change.number) (All-tail (λ (x : Change). IsWord x.number) change changes each)
    (All-set IsWord a.numbers (place_in a.area change.cell) change.number (All-head (λ (x : Change). IsWord x.number) change changes each) words)

changes_fit : (slots : List Slot) (value : List ℤ → Checked) (ps : List (List ℤ)) → All (λ p. AnswersWord (value p)) ps → All (λ change. IsWord change.number) (changes_over slots value ps)
changes_fit slots value [] each = All-nil (λ (x : Change). IsWord x.number)
changes_fit slots value (p ∷ ps) each =
    by (value p) (All-head (λ q. AnswersWord (value q)) p ps each) (changes_fit slots value ps (All-tail (λ q. AnswersWord (value q)) p ps each))
  where
    by : (v : Checked) → AnswersWord v → All (λ change. IsWord change.number) (changes_over slots value ps)
        → All (λ change. IsWord change.number) (cons_option (change_to (cell_named slots p) v) (changes_over slots value ps))
    by (Ok n) good rest = All-cons (λ (x : Change). IsWord x.number) (record { cell = cell_named slots p; number = n }) (changes_over slots value ps) good rest
    by (Err kind) good rest = rest

module _ (members : HasMembers) where
  module _ (piece : Pieced) (old : Numbered) (reads : List Numbered) (words : All IsWord old.numbers) (of_reads : AllWords reads) where
    of_old : HasWords (Some old)
    of_old x is = let same : old ≡ x = cc in subst (λ (o : Numbered). All IsWord o.numbers) same words

    abbrev value : List ℤ → Checked
    value p = value_at piece (Some old) reads p

    values_fit : All IsAxis piece.positions → literals_fit piece.code ≡ true → All (λ p. AnswersWord (value p)) (cells_of piece.positions)
    values_fit axes literals k d below =
        let p = slice_index_or (cells_of piece.positions) k d in
        value_fits piece (Some old) reads of_old of_reads axes literals p ((members piece.positions p).0 (Contains-get_or (cells_of piece.positions) k d below))

    fill_fits : (shape : Shaped) (slab : Slab) → GivesWord slab.updater → (c : List ℤ) → IsWord (filled_at shape slab piece (Some old) reads c)
    fill_fits shape slab gives c =
        made_word slab.updater (axis_at shape.physical slab.axis) (coordinate_at c slab.axis) (numbers_lent piece (Some old) reads piece.reads (cell_sources shape slab c)) gives
        (sources_fit piece (Some old) reads of_old of_reads piece.reads (cell_sources shape slab c))

    content_words : (t : Task) → TaskMakesWords t piece → All IsWord (content_by t piece old reads).numbers
    content_words (Assign target) makes =
        changed_words (changes_over target.slots value (before_fault value (cells_of piece.positions))) old
        (changes_fit target.slots value (before_fault value (cells_of piece.positions))
        (All-take (λ p. AnswersWord (value p)) (position_or_len (λ p. is_err (value p)) (cells_of piece.positions)) (cells_of piece.positions) (values_fit makes.0 makes.1)))
        words
    content_words (Reduce reduction) makes = words
    content_words (Fill shape slab array) makes =
        changed_words (map (fill_change (shape_of shape) slab piece (Some old) reads) (cells_of piece.positions)) old
        (All-map (λ (x : Change). IsWord x.number) (fill_change (shape_of shape) slab piece (Some old) reads) (cells_of piece.positions)
        (λ k d below. fill_fits (shape_of shape) slab makes (slice_index_or (cells_of piece.positions) k d)))
        words
    content_words (Guard array) makes =
        changed_words (map (copy_change piece (Some old) reads) (cells_of piece.positions)) old
        (All-map (λ (x : Change). IsWord x.number) (copy_change piece (Some old) reads) (cells_of piece.positions)
        (λ k d below. lent_number piece (Some old) reads of_old of_reads (copied_from piece) (slice_index_or (cells_of piece.positions) k d)))
        words

  -- ---- pieces, one after another

  module _ (now : Results Numbered Outcome) (piece : Pieced) (makes : MakesWords piece) (words : AllWords now.objects) where
    abbrev lent : List Numbered
    lent = (lent_by now.objects (requests_of piece)).reads

    new_words : (k : ℕ) (w : Option Numbered) → slice_get now.objects k ≡ w → AllWords (put_back now.objects (Some k) (option_map (λ old. content_by piece.task piece old lent) w))
    new_words k None at = words
    new_words k (Some old) at =
        All-set (λ object. All IsWord object.numbers) now.objects k (content_by piece.task piece old lent)
        (content_words piece old lent (object_words now.objects k words old at) (objects_read now.objects words (read_objects (requests_of piece))) piece.task makes) words

    put_words : (o : Option ℕ) → AllWords (put_back now.objects o (option_map (λ old. content_by piece.task piece old lent) (option_and_then (slice_get now.objects) o)))
    put_words None = words
    put_words (Some k) = new_words k (slice_get now.objects k) refl

    work_words : AllWords (with_work pieces now piece).objects
    work_words = put_words (written_object (requests_of piece))

  pub plan_words : (plan : List Pieced) (now : Results Numbered Outcome) → All MakesWords plan → AllWords now.objects → AllWords (fold (with_work pieces) now plan).objects
  plan_words [] now makes words = words
  plan_words (piece ∷ plan) now makes words =
      plan_words plan (with_work pieces now piece) (All-tail MakesWords piece plan makes) (work_words now piece (All-head MakesWords piece plan makes) words)
