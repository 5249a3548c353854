-- A guard copy: what it asks for is there, and what it leaves is what its changes make.
use Rattle.std.proofs.Common.{refl, sym, ap, ◌∙◌, subst, arith}
use Rattle.std.proofs.lemmas.Bool.{false≢true}
use Rattle.std.proofs.lemmas.Option.{same_Some, slice_get-get_or, slice_get-map}
use Rattle.std.specs.Prelude.{◌≡◌, ◌≢◌, ℕ, zero, suc, ◌<◌, ℤ, Bool, true, false, Option, None, Some, option_map, List, [], ◌∷◌, length, map, slice_get, slice_index_or}
use Rattle.pooma_domain.specs.Cells.{Interval, cells_of, IsIn}
use Rattle.pooma_field.specs.Numbered.{Numbered, Change, number_at, with_changes, IsFull}
use Rattle.pooma_piece.specs.declared.source.Source.TheVariants.{Read}
use Rattle.pooma_piece.specs.declared.task.Task.{Task}
use Rattle.pooma_piece.specs.declared.task.Task.TheVariants.{Guard}
use Rattle.pooma_piece.specs.Copies.{copy_change}
use Rattle.pooma_piece.specs.Kept.{sources_of}
use Rattle.pooma_piece.specs.Lent.{HasAll, copied_from, fits, is_in, lent_for, number_in, task_fits}
use Rattle.pooma_piece.specs.Meaning.{area_of}
use Rattle.pooma_piece.specs.Pieces.{AreReads, IsPiece, Pieced}
use Rattle.pooma_piece.proofs.Apart.{HasLaws, in_box}
use Rattle.pooma_piece.proofs.Areas.{passes_in, task_then}
use Rattle.pooma_piece.proofs.Fillings.{changed_cell}
use Rattle.pooma_piece.proofs.Seen.{and_parts, is_in_is, lent_for-map}
use Rattle.pooma_piece.proofs.Tests.{source_lent}

-- what is lent at a place is what a list of shared values has there
pub lent_at : {X : Type 0} (g : X → Numbered) (xs : List X) (k : ℕ) (x : X) (content : Numbered) → slice_get (map g xs) k ≡ Some content → x ≡ slice_index_or xs k x → content ≡ g x
lent_at g [] k x content e is = absurd (cc)
lent_at g (y ∷ ys) zero x content e is = sym (same_Some (g y) content e) ∙ ap g (sym is)
lent_at g (y ∷ ys) (suc k) x content e is = lent_at g ys k x content e is

-- ---- what is there

-- what a guard copy is given
pub record IsCopying (piece : Pieced) (array : ℕ) (old : Numbered) (r : List Numbered) (place : ℕ) : Type 0 where
  pub laws : HasLaws
  pub valid : IsPiece piece
  pub task : piece.task ≡ Guard array
  pub fit : fits piece (Some old.area) (map area_of r) ≡ true
  pub source : slice_get (sources_of piece) 0 ≡ Some (Read place)

module _ (piece : Pieced) (array : ℕ) (old : Numbered) (r : List Numbered) (place : ℕ) (g : IsCopying piece array old r place) where
  both_there : HasAll (Some old.area) piece.positions × HasAll (lent_for piece (Some old.area) (map area_of r) (copied_from piece)) piece.positions
  both_there =
      task_then g.laws.cells.members (Guard array) piece (Some old.area) (map area_of r)
      (subst (λ (t : Task). task_fits t piece (Some old.area) (map area_of r) ≡ true) g.task (and_parts _ (task_fits piece.task piece (Some old.area) (map area_of r)) g.fit).1)

  pub set_there : (c : List ℤ) → IsIn piece.positions c → IsIn old.area c
  set_there = both_there.0

  lent_there : HasAll (option_map area_of (lent_for piece (Some old) r (copied_from piece))) piece.positions
  lent_there = subst (λ (o : Option (List Interval)). HasAll o piece.positions) (lent_for-map area_of piece (Some old) r (copied_from piece)) both_there.1

  one_object : slice_get piece.reads 0 ≡ Some (copied_from piece)
  one_object =
      let reads : AreReads (Guard array) piece.code piece.reads = subst (λ (t : Task). AreReads t piece.code piece.reads) g.task g.valid.reads in
      let one : length piece.reads ≡ 1 = reads.1 in
      slice_get-get_or piece.reads 0 0 (omega (arith, one))

  -- the content that is read is the one at the place of the source
  pub lent_is : {X : Type 0} (of : X → Numbered) (xs : List X) (x : X) → r ≡ map of xs → x ≡ slice_index_or xs place x → lent_for piece (Some old) r (copied_from piece) ≡ Some (of x)
  lent_is of xs x are is = by (lent_for piece (Some old) r (copied_from piece)) refl lent_there
    where
      found : slice_get r place ≡ lent_for piece (Some old) r (copied_from piece)
      found = source_lent piece (Some old) r 0 (copied_from piece) (Read place) one_object g.source

      by : (o : Option Numbered) → lent_for piece (Some old) r (copied_from piece) ≡ o → HasAll (option_map area_of o) piece.positions → lent_for piece (Some old) r (copied_from piece) ≡ Some (of x)
      by None e there = absurd there
      by (Some content) e there = e ∙ ap Some (lent_at of xs place x content (ap (λ (l : List Numbered). slice_get l place) (sym are) ∙ found ∙ e) is)

  pub read_there : (from : Numbered) → lent_for piece (Some old) r (copied_from piece) ≡ Some from → (c : List ℤ) → IsIn piece.positions c → IsIn from.area c
  read_there from lent = subst (λ (o : Option Numbered). HasAll (option_map area_of o) piece.positions) lent lent_there

-- ---- what is left

-- what is known of changes
pub record HasChanges : Type 0 where
  pub laws : HasLaws
  pub all_set : (a : Numbered) (changes : List Change) (k : ℕ) (change : Change) → IsFull a → IsIn a.area change.cell → slice_get changes k ≡ Some change → ((j : ℕ) (later : Change) → k < j → slice_get changes j ≡ Some later → later.cell ≢ change.cell) → number_at (with_changes a changes) change.cell ≡ change.number
  pub area : (a : Numbered) (changes : List Change) → (with_changes a changes).area ≡ a.area
  pub full : (a : Numbered) (changes : List Change) → IsFull a → IsFull (with_changes a changes)
  pub same : (a b : Numbered) → a.area ≡ b.area → IsFull a → IsFull b → ((c : List ℤ) → IsIn a.area c → number_at a c ≡ number_at b c) → a ≡ b

-- a content whose cells of the box are those of another one, and whose other cells stayed
pub record IsCopied (box : List Interval) (old new from : Numbered) : Type 0 where
  pub area : new.area ≡ old.area
  pub full_before : IsFull old
  pub full : IsFull new
  pub inside : (c : List ℤ) → IsIn box c → IsIn old.area c
  pub copied : (c : List ℤ) → IsIn box c → number_at new c ≡ number_at from c
  pub kept : (c : List ℤ) → (IsIn box c → ⊥) → number_at new c ≡ number_at old c

module _ (has : HasChanges) (piece : Pieced) (old new from : Numbered) (r : List Numbered) (g : IsCopied piece.positions old new from) (lent : lent_for piece (Some old) r (copied_from piece) ≡ Some from) where
  abbrev f : List ℤ → Change
  f = copy_change piece (Some old) r

  abbrev cells : List (List ℤ)
  cells = cells_of piece.positions

  in_copy : (c : List ℤ) → IsIn piece.positions c → number_at new c ≡ number_at (with_changes old (map f cells)) c
  in_copy c inside =
      g.copied c inside ∙ sym (ap (λ (o : Option Numbered). number_in o c) lent)
      ∙ sym (has.all_set old (map f cells) k (f c) g.full_before (g.inside c inside) (slice_get-map f cells k ∙ ap (option_map f) at) alone)
    where
      there : (j : ℕ) × (slice_get cells j ≡ Some c)
      there = let held = (has.laws.cells.members piece.positions c).1 inside in (held.0, slice_get-get_or cells held.0 c held.1 ∙ ap Some held.2)

      k : ℕ
      k = there.0

      at : slice_get cells k ≡ Some c
      at = there.1

      alone : (j : ℕ) (later : Change) → k < j → slice_get (map f cells) j ≡ Some later → later.cell ≢ c
      alone j later after e same =
          let made = changed_cell f cells j later e in
          let is : made.0 ≡ c = ap (λ (x : Change). x.cell) made.2 ∙ same in
          let twice : j ≡ k = has.laws.cells.once piece.positions c j k (made.1 ∙ ap Some is) at in
          omega (arith, twice, after)

  beside : (c : List ℤ) → (IsIn piece.positions c → ⊥) → number_at new c ≡ number_at (with_changes old (map f cells)) c
  beside c none =
      g.kept c none
      ∙ sym (has.laws.kept old (map f cells) c g.full_before
      (λ k change e same.
      let made = changed_cell f cells k change e in
      let is : made.0 ≡ c = ap (λ (x : Change). x.cell) made.2 ∙ sym same in
      none (subst (IsIn piece.positions) is (in_box has.laws piece.positions k made.0 made.1))))

  pub copied_is : new ≡ with_changes old (map f cells)
  copied_is =
      has.same new (with_changes old (map f cells)) (g.area ∙ sym (has.area old (map f cells))) g.full (has.full old (map f cells) g.full_before)
      (λ c inside. by c (is_in piece.positions c) refl)
    where
      by : (c : List ℤ) (b : Bool) → is_in piece.positions c ≡ b → number_at new c ≡ number_at (with_changes old (map f cells)) c
      by c true e = in_copy c (is_in_is piece.positions c e)
      by c false e = beside c (λ inside. false≢true (sym e ∙ passes_in piece.positions c inside))
