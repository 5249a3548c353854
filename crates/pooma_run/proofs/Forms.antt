-- The objects of layouts: how many they are, and that pieces keep their boxes and a number for each cell.
use Rattle.std.proofs.Common.{◌≡◌, ◌∙◌, refl, sym, ap, subst, ℕ, Option, None, Some, List, [], ◌∷◌, map, get_or, length, length-append, ◌+◌, arith}
use Rattle.std.specs.Prelude.{All, fold, option_map, slice_get, slice_set}
use Rattle.std.specs.Option.{option_and_then}
use Rattle.std.specs.Arc.{arc_value}
use Rattle.std.specs.declared.alloc.Global.{Global}
use Rattle.std.specs.declared.sync.Arc.{Arc}
use Rattle.std.proofs.lemmas.List.{length-map}
use Rattle.std.proofs.lemmas.List.Sums.{sum_by-cons}
use Rattle.std.proofs.Math.Seq.{map-set_same}
use Rattle.std.proofs.lemmas.List.Elements.{All-set}
use Rattle.std.proofs.lemmas.Option.{get_or_from_slice_get, slice_get_within}
use Rattle.pooma_domain.specs.Cells.{Interval, cells_of}
use Rattle.pooma_field.specs.Numbered.{Change, IsFull, Numbered, with_changes}
use Rattle.pooma_field.specs.ShapeOf.{shape_of}
use Rattle.pooma_law.specs.Ser.{Results, at_first, ser, with_work}
use Rattle.pooma_layout.specs.Axes.{CutAxis}
use Rattle.pooma_layout.specs.Patches.{allocated_boxes, allocated_of, owned_boxes}
use Rattle.pooma_machine.specs.Values.{put_back, written_object}
use Rattle.pooma_patch.specs.Patched.{Patched}
use Rattle.pooma_piece.specs.declared.outcome.Outcome.{Outcome}
use Rattle.pooma_piece.specs.declared.task.Task.{Task}
use Rattle.pooma_piece.specs.declared.task.Task.TheVariants as task
use Rattle.pooma_piece.specs.Effects.{before_fault, changes_over, content_by, value_at}
use Rattle.pooma_piece.specs.Copies.{copy_change}
use Rattle.pooma_piece.specs.Fills.{fill_change}
use Rattle.pooma_piece.specs.Meaning.{pieces}
use Rattle.pooma_piece.specs.Pieces.{Pieced, requests_of}
use Rattle.pooma_store.specs.Numbering.{AreObjects, areas_of, object_count, patch_count}
use Rattle.pooma_store.specs.Stored.{contents_of}
use Rattle.pooma_window.specs.Windows.{AsksWithin}

abbrev area_of_object : Numbered → List Interval
area_of_object object = object.area

-- an object has a box
boxes_of_objects : (layouts : List (List CutAxis)) → length (areas_of layouts) ≡ object_count layouts
boxes_of_objects [] = refl
boxes_of_objects (layout ∷ layouts) =
    let both : length (areas_of (layout ∷ layouts)) ≡ length (allocated_boxes layout) + length (areas_of layouts) = length-append (allocated_boxes layout) (areas_of layouts) in
    let here : length (allocated_boxes layout) ≡ patch_count layout = length-map (owned_boxes layout) (allocated_of layout) in
    let all : object_count (layout ∷ layouts) ≡ patch_count layout + object_count layouts = sum_by-cons patch_count layout layouts in
    let rest : length (areas_of layouts) ≡ object_count layouts = boxes_of_objects layouts in
    both ∙ (omega arith ∙ sym all)

pub as_many_objects : (layouts : List (List CutAxis)) (objects : List Numbered) → AreObjects layouts objects → length objects ≡ object_count layouts
as_many_objects layouts objects are = sym (length-map objects area_of_object) ∙ ap length are.areas ∙ boxes_of_objects layouts

-- pieces that ask for objects of the layouts ask for those that there are
pub asks_of_objects : (layouts : List (List CutAxis)) (patches : List (Arc Patched Global)) (plan : List Pieced) → AreObjects layouts (contents_of patches)
    → All (AsksWithin pieces (object_count layouts)) plan → All (AsksWithin pieces (length patches)) plan
asks_of_objects layouts patches plan are asks =
    subst (λ (n : ℕ). All (AsksWithin pieces n) plan)
    (sym (as_many_objects layouts (contents_of patches) are) ∙ length-map patches (λ (arc : Arc Patched Global). (arc_value arc).content)) asks

-- what is known of changes of numbers
pub record HasChanges : Type 0 where
  pub area : (a : Numbered) (changes : List Change) → (with_changes a changes).area ≡ a.area
  pub full : (a : Numbered) (changes : List Change) → IsFull a → IsFull (with_changes a changes)

abbrev pub KeepsForm : Numbered → Numbered → Type 0
KeepsForm old new = (new.area ≡ old.area) × (IsFull old → IsFull new)

changes_keep : HasChanges → (old : Numbered) (changes : List Change) → KeepsForm old (with_changes old changes)
changes_keep laws old changes = (laws.area old changes, laws.full old changes)

content_keeps : HasChanges → (t : Task) (piece : Pieced) (old : Numbered) (reads : List Numbered) → KeepsForm old (content_by t piece old reads)
content_keeps laws (task.Assign target) piece old reads =
    changes_keep laws old (changes_over target.slots (value_at piece (Some old) reads) (before_fault (value_at piece (Some old) reads) (cells_of piece.positions)))
content_keeps laws (task.Reduce reduction) piece old reads = (refl, λ h. h)
content_keeps laws (task.Fill shape slab array) piece old reads =
    changes_keep laws old (map (fill_change (shape_of shape) slab piece (Some old) reads) (cells_of piece.positions))
content_keeps laws (task.Guard array) piece old reads = changes_keep laws old (map (copy_change piece (Some old) reads) (cells_of piece.positions))

-- another content in the place of one that is there
set_keeps : (layouts : List (List CutAxis)) (objects : List Numbered) (k : ℕ) (old new : Numbered) → slice_get objects k ≡ Some old → KeepsForm old new
    → AreObjects layouts objects → AreObjects layouts (slice_set objects k new)
set_keeps layouts objects k old new at keeps are =
    let d : Numbered = old in
    let is : get_or objects k d ≡ old = get_or_from_slice_get objects k old d at in
    record {
      areas = map-set_same area_of_object objects k new d (keeps.0 ∙ ap area_of_object (sym is)) ∙ are.areas;
      full = All-set IsFull objects k new (keeps.1 (subst IsFull is (are.full k d (slice_get_within objects k old at)))) are.full;
    }

put_keeps : HasChanges → (layouts : List (List CutAxis)) (piece : Pieced) (objects reads : List Numbered) (written : Option ℕ) → AreObjects layouts objects
    → AreObjects layouts (put_back objects written (option_map (λ old. content_by piece.task piece old reads) (option_and_then (slice_get objects) written)))
put_keeps laws layouts piece objects reads None are = are
put_keeps laws layouts piece objects reads (Some k) are = by (slice_get objects k) refl
  where
    by : (found : Option Numbered) → slice_get objects k ≡ found → AreObjects layouts (put_back objects (Some k) (option_map (λ old. content_by piece.task piece old reads) found))
    by None e = are
    by (Some old) e = set_keeps layouts objects k old (content_by piece.task piece old reads) e (content_keeps laws piece.task piece old reads) are

fold_keeps : HasChanges → (layouts : List (List CutAxis)) (plan : List Pieced) (now : Results Numbered Outcome) → AreObjects layouts now.objects
    → AreObjects layouts (fold (with_work pieces) now plan).objects
fold_keeps laws layouts [] now are = are
fold_keeps laws layouts (piece ∷ plan) now are =
    fold_keeps laws layouts plan (with_work pieces now piece) (put_keeps laws layouts piece now.objects _ (written_object (requests_of piece)) are)

pub ser_keeps : HasChanges → (layouts : List (List CutAxis)) (plan : List Pieced) (objects : List Numbered) → AreObjects layouts objects
    → AreObjects layouts (ser pieces plan objects).objects
ser_keeps laws layouts plan objects are = fold_keeps laws layouts plan (at_first objects) are
