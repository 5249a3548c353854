-- What a piece reads at a position is as it was, whatever it set at the positions before.
use Rattle.std.proofs.Common.{refl, sym, ap, ◌∙◌, subst, arith, get_or}
use Rattle.std.proofs.lemmas.Bool.Decides.{Decides-eqb}
use Rattle.std.proofs.lemmas.Option.{get_or_from_slice_get, slice_get_within, same_Some}
use Rattle.std.specs.List.{cons_option, filter_map}
use Rattle.std.specs.Prelude.{◌≡◌, ◌≢◌, ℕ, zero, suc, ◌<◌, ℤ, Bool, true, false, Option, None, Some, Ok, Err, List, [], ◌∷◌, take, length, slice_get}
use Rattle.pooma_domain.specs.Cells.{Interval, cells_of, IsIn}
use Rattle.pooma_view.specs.Overlap.{IsOverlap}
use Rattle.pooma_view.specs.Slots.{cell_named, positions_of}
use Rattle.pooma_view.specs.Views.{Viewed}
use Rattle.pooma_field.specs.Numbered.{Numbered, Change, number_at, with_changes, IsFull}
use Rattle.pooma_expr.specs.Trees.{views_of}
use Rattle.pooma_expr.specs.Values.{Checked}
use Rattle.pooma_piece.specs.declared.task.Task.{Task}
use Rattle.pooma_piece.specs.declared.task.Task.TheVariants.{Assign}
use Rattle.pooma_piece.specs.Effects.{change_to, changes_over}
use Rattle.pooma_piece.specs.Gathered.{OfCells}
use Rattle.pooma_piece.specs.Lent.{is_written, lent_for, number_in, seen_by}
use Rattle.pooma_piece.specs.Pieces.{AreApart, AreOfTarget, AreOwn, IsPiece, Pieced}
use Rattle.pooma_piece.specs.Sources.{SeesAs}
use Rattle.pooma_piece.proofs.Seen.{read_in_is}

-- what a change of some cells leaves, and that a box has its cells once each
pub record HasLaws : Type 0 where
  pub kept : (a : Numbered) (changes : List Change) (d : List ℤ) → IsFull a → ((k : ℕ) (change : Change) → slice_get changes k ≡ Some change → d ≢ change.cell) → number_at (with_changes a changes) d ≡ number_at a d
  pub cells : OfCells

pub from_take : (k : ℕ) (xs : List (List ℤ)) (j : ℕ) (x : List ℤ) → slice_get (take k xs) j ≡ Some x → (j < k) × (slice_get xs j ≡ Some x)
from_take zero [] j x e = absurd (cc)
from_take zero (y ∷ ys) j x e = absurd (cc)
from_take (suc k) [] j x e = absurd (cc)
from_take (suc k) (y ∷ ys) zero x e = (omega arith, e)
from_take (suc k) (y ∷ ys) (suc j) x e = let h = from_take k ys j x e in (omega (arith, h.0), h.1)

-- an element that is made of another one
record IsMadeOf {X Y : Type 0} (f : X → Option Y) (xs : List X) (y : Y) : Type 0 where
  place : ℕ
  element : X
  at : slice_get xs place ≡ Some element
  made : f element ≡ Some y

later : {X Y : Type 0} (f : X → Option Y) (x : X) (xs : List X) (y : Y) → IsMadeOf f xs y → IsMadeOf f (x ∷ xs) y
later f x xs y h = record { place = suc h.place; element = h.element; at = h.at; made = h.made }

from_filter_map : {X Y : Type 0} (f : X → Option Y) (xs : List X) (m : ℕ) (y : Y) → slice_get (filter_map f xs) m ≡ Some y → IsMadeOf f xs y
from_filter_map f [] m y e = absurd (cc)
from_filter_map f (x ∷ xs) m y e = first f x xs (f x) refl m y e (λ m'. from_filter_map f xs m' y)
  where
    first : {X Y : Type 0} (f : X → Option Y) (x : X) (xs : List X) (o : Option Y) → f x ≡ o → (m : ℕ) (y : Y) → slice_get (cons_option o (filter_map f xs)) m ≡ Some y → ((m' : ℕ) → slice_get (filter_map f xs) m' ≡ Some y → IsMadeOf f xs y) → IsMadeOf f (x ∷ xs) y
    first f x xs None is m y e rest = later f x xs y (rest m e)
    first f x xs (Some z) is zero y e rest = record { place = 0; element = x; at = refl; made = is ∙ e }
    first f x xs (Some z) is (suc m) y e rest = later f x xs y (rest m e)

change_cell : (c : List ℤ) (v : Checked) (change : Change) → change_to c v ≡ Some change → change.cell ≡ c
change_cell c (Ok n) change e = ap (λ (x : Change). x.cell) (sym (same_Some _ change e))
change_cell c (Err kind) change e = absurd (cc)

written_is : (write : Option ℕ) (object : ℕ) → is_written write object ≡ true → write ≡ Some object
written_is None object e = absurd (cc)
written_is (Some o) object e = ap Some ((Decides-eqb o object).0 e)

pub in_box : HasLaws → (box : List Interval) (j : ℕ) (q : List ℤ) → slice_get (cells_of box) j ≡ Some q → IsIn box q
in_box laws box j q at = (laws.cells.members box q).0 (j, slice_get_within (cells_of box) j q at, get_or_from_slice_get (cells_of box) j q q at)

-- no cell that is read at the k-th position is one that was set at an earlier one
pub set_elsewhere : HasLaws → (piece : Pieced) (target : Viewed) → IsPiece piece → piece.task ≡ Assign target → (k : ℕ) (p : List ℤ) → slice_get (cells_of piece.positions) k ≡ Some p → (value : List ℤ → Checked) (i : ℕ) (view : Viewed) → slice_get (views_of piece.code) i ≡ Some view → slice_get piece.reads i ≡ piece.write → (m : ℕ) (change : Change) → slice_get (changes_over target.slots value (take k (cells_of piece.positions))) m ≡ Some change → cell_named view.slots p ≢ change.cell
set_elsewhere laws piece target valid task k p at value i view vi oi m change e same =
    let cells : List (List ℤ) = cells_of piece.positions in
    let made = from_filter_map (λ (q : List ℤ). change_to (cell_named target.slots q) (value q)) (take k cells) m change e in
    let q : List ℤ = made.element in
    let taken = from_take k cells made.place q made.at in
    let own : AreOwn (Assign target) piece.positions = subst (λ (t : Task). AreOwn t piece.positions) task valid.own in
    let apart : AreApart (Assign target) piece.code = subst (λ (t : Task). AreApart t piece.code) task valid.apart in
    let of_target : AreOfTarget (Assign target) piece.write (views_of piece.code) piece.reads = subst (λ (t : Task). AreOfTarget t piece.write (views_of piece.code) piece.reads) task valid.of_target in
    let this : get_or (views_of piece.code) i view ≡ view = get_or_from_slice_get (views_of piece.code) i view view vi in
    let within : i < length (views_of piece.code) = slice_get_within (views_of piece.code) i view vi in
    let positions : IsIn (positions_of view.slots) p = subst (λ (v : Viewed). IsIn (positions_of v.slots) p) this (valid.within i view within p (in_box laws piece.positions k p at)) in
    let other : p ≢ q = λ (equal : p ≡ q). before_itself (laws.cells.once piece.positions q made.place k taken.1 (at ∙ ap Some equal)) taken.0 in
    let overlap : IsOverlap view target =
    (of_target i view vi oi, (p, q, positions, own q (in_box laws piece.positions made.place q taken.1), other, same ∙ change_cell (cell_named target.slots q) (value q) change made.made)) in
    subst (λ (v : Viewed). IsOverlap v target → ⊥) this (apart i view within) overlap
  where
    before_itself : {a b : ℕ} → a ≡ b → a < b → ⊥
    before_itself e h = omega (arith, e, h)

-- the same for what it sees: what was set at earlier positions is not seen
pub sees_the_old : HasLaws → (piece : Pieced) (target : Viewed) (old now : Numbered) (r : List Numbered) → IsPiece piece → piece.task ≡ Assign target → IsFull old → (k : ℕ) (p : List ℤ) → slice_get (cells_of piece.positions) k ≡ Some p → (value : List ℤ → Checked) → now ≡ with_changes old (changes_over target.slots value (take k (cells_of piece.positions))) → SeesAs piece (Some now) r (seen_by piece (Some old) r) p
sees_the_old laws piece target old now r valid task full k p at value is i view object vi oi =
    picked (is_written piece.write object) refl
    ∙ ap (λ (o : ℕ). number_in (lent_for piece (Some old) r o) (cell_named view.slots p)) (sym (read_in_is piece i view object valid.alike vi oi))
  where
    the_same : is_written piece.write object ≡ true → number_at now (cell_named view.slots p) ≡ number_at old (cell_named view.slots p)
    the_same e =
        ap (λ (a : Numbered). number_at a (cell_named view.slots p)) is
        ∙ laws.kept old (changes_over target.slots value (take k (cells_of piece.positions))) (cell_named view.slots p) full
        (set_elsewhere laws piece target valid task k p at value i view vi (oi ∙ sym (written_is piece.write object e)))

    picked : (b : Bool) → is_written piece.write object ≡ b → number_in (lent_for piece (Some now) r object) (cell_named view.slots p) ≡ number_in (lent_for piece (Some old) r object) (cell_named view.slots p)
    picked true e = rw e (the_same e)
    picked false e = rw e refl
