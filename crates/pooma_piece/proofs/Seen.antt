-- What a piece sees of what is lent to it.
use Rattle.std.proofs.Common.{refl, sym, ap, ap₂, ◌∙◌, subst, ⊎_elim, cond, arith, get_or}
use Rattle.std.proofs.lemmas.Bool.{cases_lt}
use Rattle.std.proofs.lemmas.Int.{ints}
use Rattle.std.proofs.lemmas.Bool.Decides.{Decides-and, Decides-like, Decides-int_eq, Decides-eqb}
use Rattle.std.proofs.lemmas.List.Sums.{AllPass-from_list_all, passes_at_first, fails_before_first}
use Rattle.std.proofs.lemmas.Option.{get_or_from_slice_get, slice_get_within, same_Some, slice_get-get_or, slice_get-map}
use Rattle.std.specs.Bool.{Decides}
use Rattle.std.specs.Cmp.Lexicographic.{pointwise_decides}
use Rattle.std.specs.List.{position_or_len}
use Rattle.std.specs.Prelude.{◌≡◌, ◌&&◌, ℕ, ◌<◌, ◌≤◌, ℤ, ◌≤ℤ◌, int_le, Bool, true, false, Option, None, Some, option_map, List, [], ◌∷◌, length, map, slice_get}
use Rattle.pooma_domain.specs.declared.strides.Strided.{Strided}
use Rattle.pooma_domain.specs.Cells.{Interval, cells_of, IsIn}
use Rattle.pooma_view.specs.declared.slots.Slot.{Slot}
use Rattle.pooma_view.specs.declared.slots.Slot.TheVariants.{Fixed, Along}
use Rattle.pooma_view.specs.Slots.{cell_named}
use Rattle.pooma_view.specs.Views.{Viewed}
use Rattle.pooma_view.proofs.Same.{same_strided}
use Rattle.pooma_field.specs.Numbered.{Numbered}
use Rattle.pooma_expr.specs.declared.tree.Expr.{Expr}
use Rattle.pooma_expr.specs.Reads.{AgreeWith}
use Rattle.pooma_expr.specs.Trees.{views_of}
use Rattle.pooma_expr.specs.Values.{Contents}
use Rattle.pooma_piece.specs.declared.source.Source.{Source}
use Rattle.pooma_piece.specs.declared.source.Source.TheVariants.{Written, Read}
use Rattle.pooma_piece.specs.declared.task.Task.{Task}
use Rattle.pooma_piece.specs.declared.task.Task.TheVariants.{Assign, Reduce, Fill, Guard}
use Rattle.pooma_piece.specs.Kept.{sources_of}
use Rattle.pooma_piece.specs.Lent.{fits, has_cells, is_in, is_written, lent_for, number_in, read_in, same_slot, same_view, seen_by, task_fits}
use Rattle.pooma_piece.specs.Meaning.{area_of}
use Rattle.pooma_piece.specs.Pieces.{AreReadAlike, AreReads, IsPiece, Pieced, requests_of}
use Rattle.pooma_piece.specs.Sources.{CanRead, CanSee, HasCellOf, SeesAs, from_source, number_read, read_from, source_of}

Decides-same_slot : (a b : Slot) → Decides (same_slot a b) (a ≡ b)
Decides-same_slot (Fixed x) (Fixed y) = Decides-like _ (λ e. ap Fixed e) (λ e. cc) (Decides-int_eq x y)
Decides-same_slot (Fixed x) (Along t) = (λ e. cc, λ e. cc)
Decides-same_slot (Along s) (Fixed y) = (λ e. cc, λ e. cc)
Decides-same_slot (Along s) (Along t) =
    let fields : Decides (same_slot (Along s) (Along t)) ((s.first ≡ t.first) × ((s.stride ≡ t.stride) × (s.count ≡ t.count))) =
    Decides-and _ _ (Decides-int_eq s.first t.first) (Decides-and _ _ (Decides-int_eq s.stride t.stride) (Decides-eqb s.count t.count)) in (
      λ t'. let h = fields.0 t' in ap Along (same_strided s t h.0 h.1.0 h.1.1),
      λ e.
          let same : s ≡ t = cc in
          fields.1 (ap (λ (n : Strided). n.first) same, (ap (λ (n : Strided). n.stride) same, ap (λ (n : Strided). n.count) same)),
    )

-- the test tells whether two views are the same
Decides-same_view : (v w : Viewed) → Decides (same_view v w) (v ≡ w)
Decides-same_view v w =
    Decides-like _ (λ k. ap₂ (λ (n : ℕ) (s : List Slot). record { array = n; slots = s }) k.0 k.1) (λ e. (ap (λ (u : Viewed). u.array) e, ap (λ (u : Viewed). u.slots) e))
    (Decides-and _ _ (Decides-eqb v.array w.array) (pointwise_decides Decides-same_slot v.slots w.slots))

-- where a view stands first, this view stands
first_place : (views : List Viewed) (k : ℕ) (view : Viewed) → slice_get views k ≡ Some view → slice_get views (position_or_len (same_view view) views) ≡ Some view
first_place views k view at =
    let n : ℕ = position_or_len (same_view view) views in
    let here : same_view view (get_or views k view) ≡ true = (Decides-same_view view (get_or views k view)).1 (sym (get_or_from_slice_get views k view view at)) in
    let within : n < length views = within_views n refl here in
    slice_get-get_or views n view within ∙ ap Some (sym ((Decides-same_view view (get_or views n view)).0 (passes_at_first (same_view view) views view within)))
  where
    both : {b : Bool} → b ≡ false → b ≡ true → ⊥
    both e f = cc

    within_views : (n : ℕ) → n ≡ position_or_len (same_view view) views → same_view view (get_or views k view) ≡ true → n < length views
    within_views n is here =
        ⊎_elim (λ (inside : n < length views). inside)
        (λ (past : length views ≤ n). absurd (both (fails_before_first (same_view view) views k view (omega (arith, past, is, slice_get_within views k view at))) here))
        (cases_lt n (length views))

-- the k-th view of the code is read in the k-th object
pub read_in_is : (piece : Pieced) (k : ℕ) (view : Viewed) (object : ℕ) → AreReadAlike (views_of piece.code) piece.reads → slice_get (views_of piece.code) k ≡ Some view → slice_get piece.reads k ≡ Some object → read_in piece view ≡ object
read_in_is piece k view object alike at read =
    let views : List Viewed = views_of piece.code in
    let n : ℕ = position_or_len (same_view view) views in
    get_or_from_slice_get piece.reads n object 0 (alike n k view (first_place views k view at) at ∙ read)

pub and_parts : (a b : Bool) → (a && b) ≡ true → (a ≡ true) × (b ≡ true)
and_parts true b e = (refl, e)
and_parts false b e = absurd (cc)

not_above : (a b : ℤ) → int_le a b ≡ true → a ≤ℤ b
not_above a b e = grind (arith, ints)

-- the test of a cell, read as a fact
pub is_in_is : (area : List Interval) (c : List ℤ) → is_in area c ≡ true → IsIn area c
is_in_is [] [] e = tt
is_in_is [] (x ∷ xs) e = absurd (cc)
is_in_is (axis ∷ axes) [] e = absurd (cc)
is_in_is (axis ∷ axes) (x ∷ xs) e =
    let parts = and_parts (int_le axis.first x) (int_le x axis.last && is_in axes xs) e in
    let later = and_parts (int_le x axis.last) (is_in axes xs) parts.1 in
    (not_above axis.first x parts.0, not_above x axis.last later.0, is_in_is axes xs later.1)

pick-map : {A B : Type 0} (f : A → B) (b : Bool) (w : Option A) (r : List A) (n : ℕ) → cond b (option_map f w) (slice_get (map f r) n) ≡ option_map f (cond b w (slice_get r n))
pick-map f true w r n = refl
pick-map f false w r n = slice_get-map f r n

pub lent_for-map : {A B : Type 0} (f : A → B) (piece : Pieced) (w : Option A) (r : List A) (object : ℕ) → lent_for piece (option_map f w) (map f r) object ≡ option_map f (lent_for piece w r object)
lent_for-map f piece w r object = pick-map f (is_written piece.write object) w r _

cell_there : (o : Option Numbered) (slots : List Slot) (ps : List (List ℤ)) (j : ℕ) (p : List ℤ) → has_cells (option_map area_of o) slots ps ≡ true → slice_get ps j ≡ Some p → (content : Numbered) × (o ≡ Some content) × IsIn content.area (cell_named slots p)
cell_there None slots ps j p e at = absurd (cc)
cell_there (Some content) slots ps j p e at =
    let all = AllPass-from_list_all (λ (q : List ℤ). is_in content.area (cell_named slots q)) ps e j p (slice_get_within ps j p at) in
    let here : get_or ps j p ≡ p = get_or_from_slice_get ps j p p at in
    (content, refl, is_in_is content.area (cell_named slots p) (subst (λ (q : List ℤ). is_in content.area (cell_named slots q) ≡ true) here all))

-- a piece that fits what is lent to it finds there each cell that it reads at one of its positions
pub can_see : (piece : Pieced) (w : Option Numbered) (r : List Numbered) → AreReadAlike (views_of piece.code) piece.reads → fits piece (option_map area_of w) (map area_of r) ≡ true → (j : ℕ) (p : List ℤ) → slice_get (cells_of piece.positions) j ≡ Some p → CanSee piece w r p
can_see piece w r alike e j p at k view object vk ok =
    let views : List Viewed = views_of piece.code in
    let each = AllPass-from_list_all (λ (v : Viewed). has_cells (lent_for piece (option_map area_of w) (map area_of r) (read_in piece v)) v.slots (cells_of piece.positions)) views
    (and_parts _ (task_fits piece.task piece (option_map area_of w) (map area_of r)) e).0 k view (slice_get_within views k view vk) in
    let this : get_or views k view ≡ view = get_or_from_slice_get views k view view vk in
    let there : has_cells (lent_for piece (option_map area_of w) (map area_of r) (read_in piece view)) view.slots (cells_of piece.positions) ≡ true =
    subst (λ (v : Viewed). has_cells (lent_for piece (option_map area_of w) (map area_of r) (read_in piece v)) v.slots (cells_of piece.positions) ≡ true) this each in
    let named : has_cells (lent_for piece (option_map area_of w) (map area_of r) object) view.slots (cells_of piece.positions) ≡ true =
    subst (λ (o : ℕ). has_cells (lent_for piece (option_map area_of w) (map area_of r) o) view.slots (cells_of piece.positions) ≡ true) (read_in_is piece k view object alike vk ok) there in
    let of_content : has_cells (option_map area_of (lent_for piece w r object)) view.slots (cells_of piece.positions) ≡ true =
    subst (λ (a : Option (List Interval)). has_cells a view.slots (cells_of piece.positions) ≡ true) (lent_for-map area_of piece w r object) named in
    let found = cell_there (lent_for piece w r object) view.slots (cells_of piece.positions) j p of_content at in
    record { content = found.0; lent = found.1; inside = found.2 }

-- and the patch that it writes has each cell that it sets
pub target_there : (piece : Pieced) (target : Viewed) (old : Numbered) (r : List Numbered) → piece.task ≡ Assign target → fits piece (Some old.area) (map area_of r) ≡ true → (j : ℕ) (p : List ℤ) → slice_get (cells_of piece.positions) j ≡ Some p → IsIn old.area (cell_named target.slots p)
target_there piece target old r task e j p at =
    let fit = (and_parts _ (task_fits piece.task piece (Some old.area) (map area_of r)) e).1 in
    let sets : task_fits (Assign target) piece (Some old.area) (map area_of r) ≡ true = subst (λ (t : Task). task_fits t piece (Some old.area) (map area_of r) ≡ true) task fit in
    let found = cell_there (Some old) target.slots (cells_of piece.positions) j p sets at in
    subst (λ (a : Numbered). IsIn a.area (cell_named target.slots p)) (sym (same_Some old found.0 found.1)) found.2

from_source-pick : {A : Type 0} (b : Bool) (n : ℕ) (w : Option A) (r : List A) → from_source (cond b Written (Read n)) w r ≡ cond b w (slice_get r n)
from_source-pick true n w r = refl
from_source-pick false n w r = refl

-- what is found at an object's source is what is lent for the object
pub from_source-of : {A : Type 0} (piece : Pieced) (w : Option A) (r : List A) (object : ℕ) → from_source (source_of piece.write (requests_of piece) object) w r ≡ lent_for piece w r object
from_source-of piece w r object = from_source-pick (is_written piece.write object) _ w r

-- each read of a piece that finds its cells can be asked
pub can_read : (piece : Pieced) (w : Option Numbered) (r : List Numbered) (p : List ℤ) → IsPiece piece → length (views_of piece.code) ≤ length piece.reads → IsIn piece.positions p → CanSee piece w r p → (k : ℕ) → k < length (views_of piece.code) → CanRead (views_of piece.code) (sources_of piece) w r k p
can_read piece w r p valid count inside sees k within =
    let views : List Viewed = views_of piece.code in
    let view : Viewed = get_or views k no_view in
    let object : ℕ = get_or piece.reads k 0 in
    let vk : slice_get views k ≡ Some view = slice_get-get_or views k no_view within in
    let ok : slice_get piece.reads k ≡ Some object = slice_get-get_or piece.reads k 0 (omega (arith, count, within)) in
    let seen : HasCellOf piece w r object (cell_named view.slots p) = sees k view object vk ok in
    record {
      view = view;
      source = source_of piece.write (requests_of piece) object;
      content = seen.content;
      view_is = vk;
      source_is = slice_get-map (source_of piece.write (requests_of piece)) piece.reads k ∙ ap (option_map (source_of piece.write (requests_of piece))) ok;
      position = valid.within k no_view within p inside;
      lent = from_source-of piece w r object ∙ seen.lent;
      inside = seen.inside;
    }
  where
    no_view : Viewed
    no_view = record { array = 0; slots = [] }

-- what a piece sees is what its reads give
pub reads_agree : (piece : Pieced) (w : Option Numbered) (r : List Numbered) (has : Contents) (p : List ℤ) → length (views_of piece.code) ≤ length piece.reads → SeesAs piece w r has p → AgreeWith has (views_of piece.code) p (number_read (views_of piece.code) (sources_of piece) w r)
reads_agree piece w r has p count sees k view vk =
    let views : List Viewed = views_of piece.code in
    let object : ℕ = get_or piece.reads k 0 in
    let ok : slice_get piece.reads k ≡ Some object = slice_get-get_or piece.reads k 0 (let within : k < length views = slice_get_within views k view vk in omega (arith, count, within)) in
    let source : slice_get (sources_of piece) k ≡ Some (source_of piece.write (requests_of piece) object) =
    slice_get-map (source_of piece.write (requests_of piece)) piece.reads k ∙ ap (option_map (source_of piece.write (requests_of piece))) ok in
    ap (λ (v : Option Viewed). read_from v (slice_get (sources_of piece) k) w r p) vk
    ∙ ap (λ (s : Option Source). read_from (Some view) s w r p) source
    ∙ ap (λ (o : Option Numbered). number_in o (cell_named view.slots p)) (from_source-of piece w r object)
    ∙ sees k view object vk ok

-- a piece sees the patches that are lent to it
pub sees_them : (piece : Pieced) (w : Option Numbered) (r : List Numbered) (p : List ℤ) → AreReadAlike (views_of piece.code) piece.reads → SeesAs piece w r (seen_by piece w r) p
sees_them piece w r p alike k view object vk ok =
    ap (λ (o : ℕ). number_in (lent_for piece w r o) (cell_named view.slots p)) (sym (read_in_is piece k view object alike vk ok))

pub as_many : (task : Task) (code : Expr) (reads : List ℕ) → AreReads task code reads → length (views_of code) ≤ length reads
as_many (Assign target) code reads h = omega (arith, h)
as_many (Reduce reduction) code reads h = omega (arith, h)
as_many (Fill shape slab array) code reads h = let none : length (views_of code) ≡ 0 = ap length h.0 in omega (arith, none)
as_many (Guard array) code reads h = let none : length (views_of code) ≡ 0 = ap length h.0 in omega (arith, none)

-- the same of a code, views and sources that are those of the piece
pub can_read_as : (piece : Pieced) (w : Option Numbered) (r : List Numbered) (p : List ℤ) → IsPiece piece → IsIn piece.positions p → CanSee piece w r p → (code : Expr) → code ≡ piece.code → (views : List Viewed) → views ≡ views_of code → (sources : List Source) → sources ≡ sources_of piece → (k : ℕ) → k < length (views_of code) → CanRead views sources w r k p
can_read_as piece w r p valid inside sees code tree views are sources stand k within =
    subst (λ (vs : List Viewed). CanRead vs sources w r k p) (sym (are ∙ ap views_of tree))
    (subst (λ (ss : List Source). CanRead (views_of piece.code) ss w r k p) (sym stand)
    (can_read piece w r p valid (as_many piece.task piece.code piece.reads valid.reads) inside sees k (subst (λ (e : Expr). k < length (views_of e)) tree within)))

pub reads_agree_as : (piece : Pieced) (w : Option Numbered) (r : List Numbered) (has : Contents) (p : List ℤ) → IsPiece piece → SeesAs piece w r has p → (code : Expr) → code ≡ piece.code → (views : List Viewed) → views ≡ views_of code → (sources : List Source) → sources ≡ sources_of piece → AgreeWith has (views_of code) p (number_read views sources w r)
reads_agree_as piece w r has p valid sees code tree views are sources stand k view at =
    ap (λ (vs : List Viewed). number_read vs sources w r k p) (are ∙ ap views_of tree)
    ∙ ap (λ (ss : List Source). number_read (views_of piece.code) ss w r k p) stand
    ∙ reads_agree piece w r has p (as_many piece.task piece.code piece.reads valid.reads) sees k view (subst (λ (e : Expr). slice_get (views_of e) k ≡ Some view) tree at)
