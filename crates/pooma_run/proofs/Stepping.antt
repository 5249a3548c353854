-- Where a run stands once the works of the next statement are pending too.
use Rattle.std.proofs.Common.{◌≡◌, ◌∙◌, refl, sym, ap, subst, ℕ, zero, suc, ◌+◌, ◌<◌, Option, None, Some, List, [], ◌∷◌, ◌++◌, length, drop, get_or, arith}
use Rattle.std.specs.Prelude.{ℤ, All, Contains, IsTrue, slice_get}
use Rattle.std.proofs.lemmas.List.Elements.{All-append, Contains-get_or}
use Rattle.pooma_expr.specs.Words.{IsWord}
use Rattle.pooma_field.specs.Numbered.{Numbered}
use Rattle.pooma_field.specs.Worlds.{World}
use Rattle.pooma_fill.specs.Marks.{Staled, declared_of, fills_before}
use Rattle.pooma_law.specs.Ser.{Results}
use Rattle.pooma_machine.specs.Machine.{FitsShapes}
use Rattle.pooma_model.specs.declared.statement.Action.{Action}
use Rattle.pooma_model.specs.declared.statement.Statement.{Statement}
use Rattle.pooma_model.specs.Declarations.{Declared}
use Rattle.pooma_model.specs.Fit.{IsFit}
use Rattle.pooma_model.specs.Order.{Programmed}
use Rattle.pooma_model.specs.Serial.{go_on, printed, serial}
use Rattle.pooma_piece.specs.declared.outcome.Outcome.{Outcome}
use Rattle.pooma_piece.specs.declared.outcome.Outcome.TheVariants.{Done}
use Rattle.pooma_piece.specs.Meaning.{pieces}
use Rattle.pooma_piece.specs.Pieces.{Pieced}
use Rattle.pooma_piece.specs.Plans.{Faulted}
use Rattle.pooma_piece.specs.Words.{HaveWords}
use Rattle.pooma_split.specs.Splits.{pieces_of}
use Rattle.pooma_split.specs.Statements.{done_in_order, fault_among}
use Rattle.pooma_split.specs.Words.{literals_fit_in}
use Rattle.pooma_store.specs.Numbering.{areas_of, object_count}
use Rattle.pooma_store.specs.Stored.{AreArrays}
use Rattle.pooma_run.specs.Gathered.{HasLaws}
use Rattle.pooma_run.specs.Plan.{fault_or_later, first_to_fault, stale_after, works_of}
use Rattle.pooma_run.specs.Underway.{AddedBy, ArePending, EndsBy, GoesOn, IsAdded, IsHere, IsOf, IsUnderway, Kept, StandsBy, begins, behind, left, with_works}
use Rattle.pooma_window.specs.Windows.{AsksWithin}
use Rattle.pooma_run.proofs.Adding.{ComesOut, IsFaultOf, comes_out, fills_answer}
use Rattle.pooma_run.proofs.Behind.{answers_behind, objects_behind, pending_first, pieces_first}
use Rattle.pooma_run.proofs.Standing.{has_arrays, store_of}

-- the works of the statement can be done
each_known : {P : Pieced → Type 0} (works : List Pieced) → ((piece : Pieced) → Contains works piece → P piece) → All P works
each_known works known k d within = known (get_or works k d) (Contains-get_or works k d within)

pub statements_are : HasLaws → (stale : Staled) (scalars : List ℤ) (number : ℕ) (does : Action) → AreArrays (declared_of stale).shapes stale.layouts → IsFit (declared_of stale) does
    → All (λ piece. piece.statement ≡ number) (works_of stale scalars number does)
statements_are laws stale scalars number does arrays fit =
    All-append (λ (piece : Pieced). piece.statement ≡ number) (fills_before stale.layouts stale number does) (pieces_of (declared_of stale) scalars number does)
    (each_known (fills_before stale.layouts stale number does) (λ piece there. laws.fills.statement (store_of stale) stale number does piece arrays (has_arrays stale) there))
    (each_known (pieces_of (declared_of stale) scalars number does) (λ piece there. laws.pieces.statement (declared_of stale) scalars number does piece arrays fit there))

works_pending : HasLaws → (stale : Staled) (scalars : List ℤ) (number : ℕ) (does : Action) → AreArrays (declared_of stale).shapes stale.layouts → IsFit (declared_of stale) does
    → ArePending (declared_of stale) (number + 1) (works_of stale scalars number does)
works_pending laws stale scalars number does arrays fit = record {
  there = All-append (AsksWithin pieces (object_count stale.layouts)) (fills_before stale.layouts stale number does) (pieces_of (declared_of stale) scalars number does)
      (each_known (fills_before stale.layouts stale number does) (λ piece there. laws.fills.known (store_of stale) stale number does piece arrays (has_arrays stale) there))
      (each_known (pieces_of (declared_of stale) scalars number does) (λ piece there. laws.pieces.known (declared_of stale) scalars number does piece arrays fit there));
  fits = All-append (FitsShapes pieces (areas_of stale.layouts)) (fills_before stale.layouts stale number does) (pieces_of (declared_of stale) scalars number does)
      (each_known (fills_before stale.layouts stale number does) (λ piece there. laws.fills.fits (store_of stale) stale number does piece arrays (has_arrays stale) there))
      (each_known (pieces_of (declared_of stale) scalars number does) (λ piece there. laws.pieces.fits (declared_of stale) scalars number does piece arrays fit there));
  before = λ k d within. let same = statements_are laws stale scalars number does arrays fit k d within in omega arith;
}

both_pending : (declared : Declared) (number : ℕ) (pending works : List Pieced) → ArePending declared number pending → ArePending declared (number + 1) works
    → ArePending declared (number + 1) (pending ++ works)
both_pending declared number pending works old new = record {
  there = All-append (AsksWithin pieces (object_count declared.layouts)) pending works old.there new.there;
  fits = All-append (FitsShapes pieces (areas_of declared.layouts)) pending works old.fits new.fits;
  before = All-append (λ (piece : Pieced). piece.statement < number + 1) pending works (λ k d within. let less = old.before k d within in omega arith) new.before;
}

-- what they come to, where the arrays are those of the program
abbrev after_fills : Staled → ℕ → Action → List Numbered → Results Numbered Outcome
after_fills stale number does objects = done_in_order (fills_before stale.layouts stale number does) objects

abbrev after_pieces : Staled → List ℤ → ℕ → Action → List Numbered → Results Numbered Outcome
after_pieces stale scalars number does objects = done_in_order (pieces_of (declared_of stale) scalars number does) (after_fills stale number does objects).objects

fills_done : HasLaws → (stale : Staled) (number : ℕ) (objects : List Numbered) (world : World) (does : Action) (declared : Declared) → declared_of stale ≡ declared
    → AreArrays declared.shapes declared.layouts → length stale.marks ≡ length stale.shapes → All HaveWords stale.shapes → IsHere declared stale.marks objects world → All IsWord world.scalars
    → All (λ outcome. outcome ≡ Done) (after_fills stale number does objects).outcomes
fills_done laws stale number objects world does declared same arrays as_many constants here words =
    subst (λ (d : Declared). AreArrays d.shapes d.layouts → IsHere d stale.marks objects world → All (λ outcome. outcome ≡ Done) (after_fills stale number does objects).outcomes) same
    (λ arrays_are is_here. fills_answer laws stale number objects world arrays_are as_many constants is_here words does)
    arrays here

pieces_come : HasLaws → (stale : Staled) (number : ℕ) (objects : List Numbered) (world : World) (does : Action) (scalars : List ℤ) (declared : Declared) → declared_of stale ≡ declared → world.scalars ≡ scalars
    → AreArrays declared.shapes declared.layouts → length stale.marks ≡ length stale.shapes → All HaveWords stale.shapes → IsHere declared stale.marks objects world → All IsWord scalars
    → IsFit declared does → IsTrue (literals_fit_in does) → (found : Option Faulted)
    → fault_among (pieces_of (declared_of stale) scalars number does) (after_pieces stale scalars number does objects) ≡ found
    → ComesOut declared (stale_after stale does) number does world (after_pieces stale scalars number does objects).objects (after_pieces stale scalars number does objects).outcomes found
pieces_come laws stale number objects world does scalars declared same known arrays as_many constants here words fit literals found is =
    subst (λ (d : Declared). AreArrays d.shapes d.layouts → IsHere d stale.marks objects world → IsFit d does
    → ComesOut d (stale_after stale does) number does world (after_pieces stale scalars number does objects).objects (after_pieces stale scalars number does objects).outcomes found) same
    (λ arrays_are is_here is_fit.
    subst (λ (xs : List ℤ). All IsWord xs → fault_among (pieces_of (declared_of stale) xs number does) (after_pieces stale xs number does objects) ≡ found
    → ComesOut (declared_of stale) (stale_after stale does) number does world (after_pieces stale xs number does objects).objects (after_pieces stale xs number does objects).outcomes found) known
    (λ are e. comes_out laws stale number objects world arrays_are as_many constants is_here are does is_fit literals found e)
    words is)
    arrays here fit

at_drop : {X : Type 0} (xs : List X) (n : ℕ) (x : X) (rest : List X) → drop n xs ≡ x ∷ rest → slice_get xs n ≡ Some x
at_drop [] zero x rest e = absurd (cc)
at_drop [] (suc n) x rest e = absurd (cc)
at_drop (y ∷ ys) zero x rest e = cc
at_drop (y ∷ ys) (suc n) x rest e = at_drop ys n x rest e

-- the fault of its pieces, where there was none before
ends : (program : Programmed) (kept : Kept) (number : ℕ) (s : Statement) (rest : List Statement) (world : World) (fault : Faulted) → drop number program.order ≡ s ∷ rest
    → GoesOn program kept number (drop number program.order) world → IsFaultOf program.declared number s.action world fault → EndsBy program (with_works kept number s.action) fault
ends program kept number s rest world fault next goes (statement, effect) = record {
  statement = s;
  is = ap (slice_get program.order) statement ∙ at_drop program.order number s rest next;
  run = goes.run
      ∙ ap (λ (left_over : List Statement). behind kept.bytes (serial program.declared left_over world)) next
      ∙ ap (λ e. behind kept.bytes (go_on s.line (printed program.declared s.action world) e (serial program.declared rest))) effect;
  first = goes.first
      ∙ ap (λ (left_over : List Statement). first_to_fault program.declared number left_over world) next
      ∙ ap (λ e. fault_or_later e number (first_to_fault program.declared (suc number) rest)) effect
      ∙ ap Some (sym statement);
}

-- the outcomes of the next statement's pieces stand behind all others
module _ (laws : HasLaws) (program : Programmed) (kept : Kept) (number : ℕ) (s : Statement) (underway : IsUnderway program kept number)
    (next : drop number program.order ≡ s ∷ drop (number + 1) program.order) (fit : IsFit program.declared s.action) (literals : IsTrue (literals_fit_in s.action)) where
  abbrev now : Kept
  now = with_works kept number s.action

  abbrev outcomes : List Outcome
  outcomes = drop (begins kept number s.action) (left now).outcomes

  abbrev fills : List Pieced
  fills = fills_before kept.stale.layouts kept.stale number s.action

  abbrev made : List Pieced
  made = pieces_of (declared_of kept.stale) kept.scalars number s.action

  still_of : IsOf program now
  still_of = record {
    declared = underway.of.declared;
    in_store = underway.of.in_store;
    arrays = underway.of.arrays;
    as_many = laws.fills.as_many kept.stale s.action underway.of.as_many;
    constants = underway.of.constants;
    home = underway.of.home;
    words = underway.of.words;
  }

  -- over the arrays that are kept with their marks
  of_stale : (P : Declared → Type 0) → P program.declared → P (declared_of kept.stale)
  of_stale P h = subst P (sym underway.of.declared) h

  are_pending : ArePending program.declared (number + 1) now.pending
  are_pending = both_pending program.declared number kept.pending (works_of kept.stale kept.scalars number s.action) underway.pending
      (subst (λ (d : Declared). ArePending d (number + 1) (works_of kept.stale kept.scalars number s.action)) underway.of.declared
      (works_pending laws kept.stale kept.scalars number s.action (of_stale (λ (d : Declared). AreArrays d.shapes d.layouts) underway.of.arrays) (of_stale (λ (d : Declared). IsFit d s.action) fit)))

  stands_by_fault : (fault : Faulted) → fault_among kept.pending (left kept) ≡ Some fault → EndsBy program kept fault → AddedBy program now number s outcomes (fault_among now.pending (left now))
  stands_by_fault fault is ended =
      subst (AddedBy program now number s outcomes)
      (sym (pending_first laws.works kept.pending (works_of kept.stale kept.scalars number s.action) kept.store.objects number fault is underway.pending.before
      (statements_are laws kept.stale kept.scalars number s.action (of_stale (λ (d : Declared). AreArrays d.shapes d.layouts) underway.of.arrays) (of_stale (λ (d : Declared). IsFit d s.action) fit))))
      (record { statement = ended.statement; is = ended.is; run = ended.run; first = ended.first })

  stands_by_world : (world : World) → fault_among kept.pending (left kept) ≡ None → GoesOn program kept number (drop number program.order) world
      → IsHere program.declared kept.stale.marks (left kept).objects world → AddedBy program now number s outcomes (fault_among now.pending (left now))
  stands_by_world world none goes here = by (fault_among made (after_pieces kept.stale kept.scalars number s.action (left kept).objects)) refl
    where
      words : All IsWord world.scalars
      words = subst (All IsWord) (sym goes.scalars) underway.of.words

      fills_are : All (λ outcome. outcome ≡ Done) (after_fills kept.stale number s.action (left kept).objects).outcomes
      fills_are = fills_done laws kept.stale number (left kept).objects world s.action program.declared underway.of.declared underway.of.arrays underway.of.as_many underway.of.constants here words

      first_is : fault_among now.pending (left now) ≡ fault_among made (after_pieces kept.stale kept.scalars number s.action (left kept).objects)
      first_is = pieces_first laws.works kept.pending fills made kept.store.objects none fills_are

      come : (found : Option Faulted) → fault_among made (after_pieces kept.stale kept.scalars number s.action (left kept).objects) ≡ found
          → ComesOut program.declared now.stale number s.action world (left now).objects outcomes found
      come found is =
          subst (λ (os : List Outcome). ComesOut program.declared now.stale number s.action world (left now).objects os found) (sym (answers_behind laws.works kept.pending fills made kept.store.objects))
          (subst (λ (os : List Numbered). ComesOut program.declared now.stale number s.action world os (after_pieces kept.stale kept.scalars number s.action (left kept).objects).outcomes found)
          (sym (objects_behind laws.works kept.pending fills made kept.store.objects))
          (pieces_come laws kept.stale number (left kept).objects world s.action kept.scalars program.declared underway.of.declared goes.scalars underway.of.arrays underway.of.as_many underway.of.constants
          here underway.of.words fit literals found is))

      out : (found : Option Faulted) → ComesOut program.declared now.stale number s.action world (left now).objects outcomes found → AddedBy program now number s outcomes found
      out (Some fault) comes = ends program kept number s (drop (number + 1) program.order) world fault next goes comes
      out None comes = (
        world,
        record {
          run = goes.run ∙ ap (λ (left_over : List Statement). behind kept.bytes (serial program.declared left_over world)) next;
          first = goes.first ∙ ap (λ (left_over : List Statement). first_to_fault program.declared number left_over world) next;
          scalars = goes.scalars;
        },
        comes,
      )

      by : (found : Option Faulted) → fault_among made (after_pieces kept.stale kept.scalars number s.action (left kept).objects) ≡ found → AddedBy program now number s outcomes (fault_among now.pending (left now))
      by found is = subst (AddedBy program now number s outcomes) (sym (first_is ∙ is)) (out found (come found is))

  stands_now : AddedBy program now number s outcomes (fault_among now.pending (left now))
  stands_now = by (fault_among kept.pending (left kept)) refl
    where
      by : (found : Option Faulted) → fault_among kept.pending (left kept) ≡ found → AddedBy program now number s outcomes (fault_among now.pending (left now))
      by found is = on found is (subst (StandsBy program kept number (drop number program.order)) is underway.stands)
        where
          on : (f : Option Faulted) → fault_among kept.pending (left kept) ≡ f → StandsBy program kept number (drop number program.order) f → AddedBy program now number s outcomes (fault_among now.pending (left now))
          on (Some fault) e ended = stands_by_fault fault e ended
          on None e (world, goes, here) = stands_by_world world e goes here

  pub is_added : IsAdded program now number s outcomes
  is_added = record { of = still_of; fit = fit; pending = are_pending; stands = stands_now }

pub added : HasLaws → (program : Programmed) (kept : Kept) (number : ℕ) (s : Statement) → IsUnderway program kept number
    → drop number program.order ≡ s ∷ drop (number + 1) program.order → IsFit program.declared s.action → IsTrue (literals_fit_in s.action)
    → IsAdded program (with_works kept number s.action) number s (drop (begins kept number s.action) (left (with_works kept number s.action)).outcomes)
added laws program kept number s underway next fit literals = is_added laws program kept number s underway next fit literals
