-- A fill as far as it is done: before its k-th cell. What it reads was not set.
use Rattle.std.proofs.Common.{refl, sym, ap, ◌∙◌, subst, arith}
use Rattle.std.proofs.lemmas.Bool.{false≢true}
use Rattle.std.proofs.lemmas.List.{map-append, take_all}
use Rattle.std.proofs.lemmas.List.Elements.{All-contains}
use Rattle.std.proofs.lemmas.List.Sums.{AllPass-from_list_all}
use Rattle.std.proofs.lemmas.Option.{get_or_from_slice_get, same_Some, slice_get_within}
use Rattle.std.specs.List.{list_all}
use Rattle.std.specs.Prelude.{◌≡◌, ◌↔◌, ◌&&◌, ℕ, zero, suc, ◌+◌, ◌<◌, ◌≤◌, ℤ, pos, Bool, true, false, Option, None, Some, option_map, List, [], ◌∷◌, length, map, slice_get, slice_index_or, take, All, Contains}
use Rattle.pooma_domain.specs.Cells.{Interval, cells_of, IsIn}
use Rattle.pooma_field.specs.declared.shapes.Shape.{Shape}
use Rattle.pooma_field.specs.declared.shapes.Slab.{Slab}
use Rattle.pooma_field.specs.declared.updaters.Updater.{Updater}
use Rattle.pooma_field.specs.declared.updaters.Updater.TheVariants.{Constant, Periodic, Reflect, Antireflect, Extrapolate}
use Rattle.pooma_field.specs.Numbered.{Numbered, Change, number_at, with_number, with_changes, IsFull}
use Rattle.pooma_field.specs.Shapes.{Shaped, IsShape, inside_from}
use Rattle.pooma_field.specs.ShapeOf.{shape_of}
use Rattle.pooma_field.specs.Slabs.{cell_sources, cell_value, made_of, slabs_of}
use Rattle.pooma_piece.specs.declared.source.Source.{Source}
use Rattle.pooma_piece.specs.declared.task.Task.{Task}
use Rattle.pooma_piece.specs.declared.task.Task.TheVariants.{Fill}
use Rattle.pooma_piece.specs.Fills.{fill_change, filled_at, numbers_lent}
use Rattle.pooma_piece.specs.Kept.{sources_of}
use Rattle.pooma_piece.specs.Lent.{HasCell, fits, has_one, have_sources, is_in, is_written, lent_for, number_in, task_fits}
use Rattle.pooma_piece.specs.Meaning.{area_of}
use Rattle.pooma_piece.specs.Pieces.{AreOwn, AreReads, IsPiece, Pieced}
use Rattle.pooma_piece.specs.Sources.{FindsSources, HasCellAt, HasCellOf}
use Rattle.pooma_piece.proofs.Apart.{HasLaws, from_take, in_box}
use Rattle.pooma_piece.proofs.Areas.{passes_in, sources_then}
use Rattle.pooma_piece.proofs.Firsts.{one_more, with_changes-append}
use Rattle.pooma_piece.proofs.Seen.{and_parts, is_in_is, lent_for-map}
use Rattle.pooma_piece.proofs.Tests.{not_in, source_lent}

-- ---- what makes a fill

pub own_of : (piece : Pieced) (shape : Shape) (slab : Slab) (array : ℕ) → IsPiece piece → piece.task ≡ Fill shape slab array → AreOwn (Fill shape slab array) piece.positions
own_of piece shape slab array valid task = subst (λ (t : Task). AreOwn t piece.positions) task valid.own

pub reads_of : (piece : Pieced) (shape : Shape) (slab : Slab) (array : ℕ) (c : List ℤ) → IsPiece piece → piece.task ≡ Fill shape slab array → length piece.reads ≡ length (cell_sources (shape_of shape) slab c)
reads_of piece shape slab array c valid task =
    let reads : AreReads (Fill shape slab array) piece.code piece.reads = subst (λ (t : Task). AreReads t piece.code piece.reads) task valid.reads in
    reads.1 c

-- ---- the tests of its sources

pub one_in : (area : List Interval) (c : List ℤ) (b : Bool) → (b ≡ true) ↔ IsIn area c → b ≡ has_one (Some area) c
one_in area c true h = sym (passes_in area c (h.0 refl))
one_in area c false h = sym (not_in area c (λ inside. false≢true (h.1 inside)))

pub all_there : (piece : Pieced) (written : Option (List Interval)) (reads : List (List Interval)) (objects : List ℕ) (cells : List (List ℤ)) → ((k : ℕ) (object : ℕ) (c : List ℤ) → slice_get objects k ≡ Some object → slice_get cells k ≡ Some c → has_one (lent_for piece written reads object) c ≡ true) → have_sources piece written reads objects cells ≡ true
all_there piece written reads [] cells h = refl
all_there piece written reads (o ∷ objects) [] h = refl
all_there piece written reads (o ∷ objects) (d ∷ cells) h =
    rw (h zero o d refl refl) (all_there piece written reads objects cells (λ k. h (suc k)))

pub one_missing : (piece : Pieced) (written : Option (List Interval)) (reads : List (List Interval)) (objects : List ℕ) (cells : List (List ℤ)) (k : ℕ) (object : ℕ) (c : List ℤ) → slice_get objects k ≡ Some object → slice_get cells k ≡ Some c → has_one (lent_for piece written reads object) c ≡ false → have_sources piece written reads objects cells ≡ false
one_missing piece written reads [] cells k object c ok ck e = cc
one_missing piece written reads (o ∷ objects) [] k object c ok ck e = cc
one_missing piece written reads (o ∷ objects) (d ∷ cells) zero object c ok ck e =
    let same_o : o ≡ object = cc in
    let same_c : d ≡ c = cc in
    let here : has_one (lent_for piece written reads o) d ≡ false = rw (same_o, same_c) e in
    rw here refl
one_missing piece written reads (o ∷ objects) (d ∷ cells) (suc k) object c ok ck e =
    by (has_one (lent_for piece written reads o) d) (have_sources piece written reads objects cells) (one_missing piece written reads objects cells k object c ok ck e)
  where
    by : (a b : Bool) → b ≡ false → (a && b) ≡ false
    by true b f = f
    by false b f = refl

-- ---- the numbers of its sources

pub number_lent : (piece : Pieced) (written : Option Numbered) (reads : List Numbered) (objects : List ℕ) (cells : List (List ℤ)) (k : ℕ) (object : ℕ) (c : List ℤ) → slice_get objects k ≡ Some object → slice_get cells k ≡ Some c → slice_index_or (numbers_lent piece written reads objects cells) k (pos 0) ≡ number_in (lent_for piece written reads object) c
number_lent piece written reads [] cells k object c ok ck = cc
number_lent piece written reads (o ∷ objects) [] k object c ok ck = cc
number_lent piece written reads (o ∷ objects) (d ∷ cells) zero object c ok ck =
    let same_o : o ≡ object = cc in
    let same_c : d ≡ c = cc in
    rw (same_o, same_c) refl
number_lent piece written reads (o ∷ objects) (d ∷ cells) (suc k) object c ok ck = number_lent piece written reads objects cells k object c ok ck

pub none_lent : (piece : Pieced) (written : Option Numbered) (reads : List Numbered) (objects : List ℕ) (cells : List (List ℤ)) (k : ℕ) → length cells ≤ k → slice_index_or (numbers_lent piece written reads objects cells) k (pos 0) ≡ pos 0
none_lent piece written reads [] cells k past = refl
none_lent piece written reads (o ∷ objects) [] k past = refl
none_lent piece written reads (o ∷ objects) (d ∷ cells) zero past = absurd (omega (arith, past))
none_lent piece written reads (o ∷ objects) (d ∷ cells) (suc k) past = none_lent piece written reads objects cells k (omega (arith, past))

-- what is made of two numbers is made of a list that begins with them
made_alike : (u : Updater) (axis : Interval) (x v w : ℤ) (values : List ℤ) → v ≡ slice_index_or values 0 (pos 0) → w ≡ slice_index_or values 1 (pos 0) → made_of u axis x (v ∷ w ∷ []) ≡ made_of u axis x values
made_alike (Constant k) axis x v w values e f = refl
made_alike Periodic axis x v w values e f = e
made_alike Reflect axis x v w values e f = e
made_alike Antireflect axis x v w values e f = rw e refl
made_alike Extrapolate axis x v w values e f = rw (e, f) refl

pub value_alike : (shape : Shaped) (slab : Slab) (c : List ℤ) (v w : ℤ) (values : List ℤ) → v ≡ slice_index_or values 0 (pos 0) → w ≡ slice_index_or values 1 (pos 0) → cell_value shape slab c (v ∷ w ∷ []) ≡ cell_value shape slab c values
value_alike shape slab c v w values e f = made_alike slab.updater _ _ v w values e f

-- a source is found where the patch that is lent for its object has it
pub found_at : (piece : Pieced) (w : Option Numbered) (r : List Numbered) (k : ℕ) (object : ℕ) (source : Source) (c : List ℤ) → slice_get piece.reads k ≡ Some object → slice_get (sources_of piece) k ≡ Some source → HasCellOf piece w r object c → HasCellAt source w r c
found_at piece w r k object source c ok sk has = record { content = has.content; lent = source_lent piece w r k object source ok sk ∙ has.lent; inside = has.inside }

-- ---- the fill as far as it is done

-- what is known of slabs
pub record HasSlabs : Type 0 where
  pub sources : (shape : Shaped) (slab : Slab) (c : List ℤ) → IsShape shape → Contains (slabs_of shape) slab → IsIn slab.target c → All (IsIn (inside_from slab.axis shape)) (cell_sources shape slab c)
  pub earlier : (shape : Shaped) (n : ℕ) (slab : Slab) (c : List ℤ) → IsShape shape → Contains (slabs_of shape) slab → IsIn slab.target c → IsIn (inside_from n shape) c → slab.axis < n

pub record IsFilledUpTo (piece : Pieced) (shape : Shape) (slab : Slab) (array : ℕ) (old now : Numbered) (r : List Numbered) (k : ℕ) : Type 0 where
  pub laws : HasLaws
  pub slabs : HasSlabs
  pub valid : IsPiece piece
  pub task : piece.task ≡ Fill shape slab array
  pub fit : fits piece (Some old.area) (map area_of r) ≡ true
  pub full : IsFull old
  pub area : now.area ≡ old.area
  pub content : now ≡ with_changes old (map (fill_change (shape_of shape) slab piece (Some old) r) (take k (cells_of piece.positions)))

pub filled_up_to : HasLaws → HasSlabs → ((a : Numbered) (changes : List Change) → (with_changes a changes).area ≡ a.area) → (piece : Pieced) (shape : Shape) (slab : Slab) (array : ℕ) (old now : Numbered) (r : List Numbered) (k : ℕ) → IsPiece piece → piece.task ≡ Fill shape slab array → fits piece (Some old.area) (map area_of r) ≡ true → IsFull old → now ≡ with_changes old (map (fill_change (shape_of shape) slab piece (Some old) r) (take k (cells_of piece.positions))) → IsFilledUpTo piece shape slab array old now r k
filled_up_to laws slabs area piece shape slab array old now r k valid task fit full content = record {
  laws = laws;
  slabs = slabs;
  valid = valid;
  task = task;
  fit = fit;
  full = full;
  area = ap area_of content ∙ area old (map (fill_change (shape_of shape) slab piece (Some old) r) (take k (cells_of piece.positions)));
  content = content;
}

-- a cell in an area, as one in a content
content_of_area : (o : Option Numbered) (c : List ℤ) → HasCell (option_map area_of o) c → (content : Numbered) × (o ≡ Some content) × IsIn content.area c
content_of_area None c h = absurd h
content_of_area (Some content) c h = (content, refl, h)

pub changed_cell : (f : List ℤ → Change) (cells : List (List ℤ)) (m : ℕ) (change : Change) → slice_get (map f cells) m ≡ Some change → (c : List ℤ) × (slice_get cells m ≡ Some c) × (f c ≡ change)
changed_cell f [] m change e = cc
changed_cell f (c ∷ cells) zero change e = (c, refl, same_Some (f c) change e)
changed_cell f (c ∷ cells) (suc m) change e = changed_cell f cells m change e

module _ (piece : Pieced) (shape : Shape) (slab : Slab) (array : ℕ) (old now : Numbered) (r : List Numbered) (k : ℕ) where
  task_passes : IsFilledUpTo piece shape slab array old now r k → task_fits (Fill shape slab array) piece (Some old.area) (map area_of r) ≡ true
  task_passes g =
      subst (λ (t : Task). task_fits t piece (Some old.area) (map area_of r) ≡ true) g.task
      (and_parts _ (task_fits piece.task piece (Some old.area) (map area_of r)) g.fit).1

  at_k : (test : List ℤ → Bool) (c : List ℤ) → list_all test (cells_of piece.positions) ≡ true → slice_get (cells_of piece.positions) k ≡ Some c → test c ≡ true
  at_k test c all at =
      subst (λ (d : List ℤ). test d ≡ true) (get_or_from_slice_get (cells_of piece.positions) k c c at)
      (AllPass-from_list_all test (cells_of piece.positions) all k c (slice_get_within (cells_of piece.positions) k c at))

  pub set_there : IsFilledUpTo piece shape slab array old now r k → (c : List ℤ) → slice_get (cells_of piece.positions) k ≡ Some c → IsIn now.area c
  set_there g c at =
      let parts = and_parts (list_all (is_in old.area) (cells_of piece.positions)) (list_all (λ d. have_sources piece (Some old.area) (map area_of r) piece.reads (cell_sources (shape_of shape) slab d)) (cells_of piece.positions)) (task_passes g) in
      subst (λ (a : List Interval). IsIn a c) (sym g.area) (is_in_is old.area c (at_k (is_in old.area) c parts.0 at))

  pub sources_there : IsFilledUpTo piece shape slab array old now r k → (c : List ℤ) → slice_get (cells_of piece.positions) k ≡ Some c → FindsSources piece (Some now) r (cell_sources (shape_of shape) slab c)
  sources_there g c at j object s oj sj =
      let parts = and_parts (list_all (is_in old.area) (cells_of piece.positions)) (list_all (λ d. have_sources piece (Some old.area) (map area_of r) piece.reads (cell_sources (shape_of shape) slab d)) (cells_of piece.positions)) (task_passes g) in
      let here = at_k (λ d. have_sources piece (Some old.area) (map area_of r) piece.reads (cell_sources (shape_of shape) slab d)) c parts.1 at in
      let there : HasCell (lent_for piece (Some old.area) (map area_of r) object) s = sources_then piece (Some old.area) (map area_of r) piece.reads (cell_sources (shape_of shape) slab c) here j object s oj sj in
      let present : HasCell (option_map area_of (lent_for piece (Some now) r object)) s =
      subst (λ (o : Option (List Interval)). HasCell o s)
      (ap (λ (a : List Interval). lent_for piece (Some a) (map area_of r) object) (sym g.area) ∙ lent_for-map area_of piece (Some now) r object) there in
      let found = content_of_area (lent_for piece (Some now) r object) s present in
      record { content = found.0; lent = found.1; inside = found.2 }

  -- no source of a cell is set by the fill
  unset : IsFilledUpTo piece shape slab array old now r k → (c : List ℤ) → IsIn piece.positions c → (j : ℕ) (s : List ℤ) → slice_get (cell_sources (shape_of shape) slab c) j ≡ Some s → number_at now s ≡ number_at old s
  unset g c inside j s sj =
      ap (λ (a : Numbered). number_at a s) g.content
      ∙ g.laws.kept old (map (fill_change (shape_of shape) slab piece (Some old) r) (take k (cells_of piece.positions))) s g.full
      (λ m change e same.
      let made = changed_cell (fill_change (shape_of shape) slab piece (Some old) r) (take k (cells_of piece.positions)) m change e in
      let q : List ℤ = made.0 in
      let taken = from_take k (cells_of piece.positions) m q made.1 in
      let own : AreOwn (Fill shape slab array) piece.positions = own_of piece shape slab array g.valid g.task in
      let is_q : s ≡ q = same ∙ sym (ap (λ (ch : Change). ch.cell) made.2) in
      let in_target : IsIn slab.target s = subst (IsIn slab.target) (sym is_q) (own.1 q (in_box g.laws piece.positions m q taken.1)) in
      let from : IsIn (inside_from slab.axis (shape_of shape)) s =
      All-contains (IsIn (inside_from slab.axis (shape_of shape))) (cell_sources (shape_of shape) slab c) s
      (g.slabs.sources (shape_of shape) slab c shape.valid own.0 (own.1 c inside))
      (j, slice_get_within (cell_sources (shape_of shape) slab c) j s sj, get_or_from_slice_get (cell_sources (shape_of shape) slab c) j s s sj) in
      before_itself (g.slabs.earlier (shape_of shape) slab.axis slab s shape.valid own.0 in_target from))
    where
      before_itself : {n : ℕ} → n < n → ⊥
      before_itself h = omega (arith, h)

  same_numbers : (objects : List ℕ) (cells : List (List ℤ)) → ((j : ℕ) (s : List ℤ) → slice_get cells j ≡ Some s → number_at now s ≡ number_at old s) → numbers_lent piece (Some now) r objects cells ≡ numbers_lent piece (Some old) r objects cells
  same_numbers [] cells h = refl
  same_numbers (o ∷ objects) [] h = refl
  same_numbers (o ∷ objects) (s ∷ cells) h =
      rw (picked (is_written piece.write o) refl, same_numbers objects cells (λ j. h (suc j))) refl
    where
      picked : (b : Bool) → is_written piece.write o ≡ b → number_in (lent_for piece (Some now) r o) s ≡ number_in (lent_for piece (Some old) r o) s
      picked true e = rw e (h zero s refl)
      picked false e = rw e refl

  pub filled_as_old : IsFilledUpTo piece shape slab array old now r k → (c : List ℤ) → IsIn piece.positions c → filled_at (shape_of shape) slab piece (Some now) r c ≡ filled_at (shape_of shape) slab piece (Some old) r c
  filled_as_old g c inside =
      ap (cell_value (shape_of shape) slab c) (same_numbers piece.reads (cell_sources (shape_of shape) slab c) (unset g c inside))

  pub one_more_filled : IsFilledUpTo piece shape slab array old now r k → (c : List ℤ) → slice_get (cells_of piece.positions) k ≡ Some c → (n : ℤ) → n ≡ filled_at (shape_of shape) slab piece (Some old) r c → with_number now c n ≡ with_changes old (map (fill_change (shape_of shape) slab piece (Some old) r) (take (k + 1) (cells_of piece.positions)))
  one_more_filled g c at n is =
      let f = fill_change (shape_of shape) slab piece (Some old) r in
      ap (λ (m : ℤ). with_number now c m) is
      ∙ ap (λ (a : Numbered). with_number a c (filled_at (shape_of shape) slab piece (Some old) r c)) g.content
      ∙ sym (with_changes-append old (map f (take k (cells_of piece.positions))) (f c ∷ []))
      ∙ ap (with_changes old) (sym (map-append f (take k (cells_of piece.positions)) (c ∷ [])))
      ∙ ap (λ (cs : List (List ℤ)). with_changes old (map f cs)) (sym (one_more (cells_of piece.positions) k c at))

  pub filled_at_end : IsFilledUpTo piece shape slab array old now r k → length (cells_of piece.positions) ≤ k → now ≡ with_changes old (map (fill_change (shape_of shape) slab piece (Some old) r) (cells_of piece.positions))
  filled_at_end g end =
      g.content ∙ ap (λ (cs : List (List ℤ)). with_changes old (map (fill_change (shape_of shape) slab piece (Some old) r) cs)) (take_all k (cells_of piece.positions) end)
