-- What is told while a statement is performed.
use Rattle.std.proofs.Common.{◌≡◌, ◌∙◌, refl, sym, ap, subst, ℕ, zero, suc, ◌+◌, ◌-◌, ◌<◌, ◌≤◌, ℤ, Bool, true, false, Option, None, Some, List, [], ◌∷◌, ◌++◌, drop, length, length-append, length-drop, map, append-nil, add-one, inl, inr, arith, rules}
use Rattle.std.specs.Prelude.{◌⊎◌, ◌||◌, ◌==◌, IfSome, not, nat_lt, slice_get}
use Rattle.std.proofs.lemmas.List.{length-map, map-append}
use Rattle.pooma_fill.specs.Marks.{Staled, declared_of, fills_before}
use Rattle.pooma_domain.specs.Cells.{Interval}
use Rattle.pooma_expr.specs.Trees.{bound, views_of}
use Rattle.pooma_field.specs.Worlds.{World}
use Rattle.pooma_machine.specs.declared.journal.Entry.{Entry}
use Rattle.pooma_machine.specs.Journal.{entry_of}
use Rattle.pooma_machine.specs.Told.{Window}
use Rattle.pooma_model.specs.declared.statement.Action.{Action}
use Rattle.pooma_model.specs.declared.statement.Action.TheVariants as action
use Rattle.pooma_model.specs.declared.statement.Statement.{Statement}
use Rattle.pooma_model.specs.Assigning.{Becomes, Effect, Faults, whole_value}
use Rattle.pooma_model.specs.Declarations.{Declared}
use Rattle.pooma_model.specs.Order.{Programmed}
use Rattle.pooma_model.specs.Parts.{parts_of}
use Rattle.pooma_model.specs.Serial.{effect_of}
use Rattle.pooma_model.specs.Texts.{fault_text}
use Rattle.pooma_piece.specs.declared.outcome.Outcome.{Outcome}
use Rattle.pooma_piece.specs.declared.task.Task.TheVariants as task
use Rattle.pooma_piece.specs.Meaning.{pieces}
use Rattle.pooma_piece.specs.Pieces.{Pieced}
use Rattle.pooma_piece.specs.Plans.{Faulted, plan_fault}
use Rattle.pooma_split.specs.Splits.{piece_of, pieces_of}
use Rattle.pooma_split.specs.Statements.{as_fault, fault_among}
use Rattle.pooma_store.specs.Stored.{Stored}
use Rattle.pooma_view.specs.Slots.{positions_of}
use Rattle.pooma_run.specs.Gathered.{HasLaws}
use Rattle.pooma_run.specs.Plan.{ends_window, fault_of_run, fault_or_later, first_to_fault, stale_after, step_of, steps_of, works_of}
use Rattle.pooma_run.specs.Steps.{has_statement, is_end, window_with, windows_of}
use Rattle.pooma_run.specs.Told.{AreBeforeFault, HasToldFirst, IsCutShort, TellsTo, TellsUpTo, entries_of}
use Rattle.pooma_run.specs.Underway.{ArePending, IsUnderway, Kept, StandsBy, WritesFault, begins, completed, left, with_works}
use Rattle.pooma_run.proofs.Faulting.{or_right, same_number}
use Rattle.pooma_run.proofs.Telling.{none_ends, one_ends, tells_as, told_first, told_first_stopped, told_first_with}

-- what is kept once the works of a statement were put behind the others, by its parts
pub with_works_is : (kept : Kept) (number : ℕ) (does : Action) (stale : Staled) (scalars : List ℤ) (pending : List Pieced)
    → stale ≡ stale_after kept.stale does → scalars ≡ kept.scalars → pending ≡ kept.pending ++ works_of kept.stale scalars number does
    → record { stale = stale; store = kept.store; scalars = kept.scalars; pending = pending; bytes = kept.bytes } ≡ with_works kept number does
with_works_is kept number does stale scalars pending is same are =
    let so : pending ≡ kept.pending ++ works_of kept.stale kept.scalars number does = are ∙ ap (λ xs. kept.pending ++ works_of kept.stale xs number does) same in
    cc

-- no request depends on a scalar's number
pub entries_added : HasLaws → (kept : Kept) (number : ℕ) (does : Action)
    → entries_of (with_works kept number does).pending ≡ entries_of kept.pending ++ (step_of kept.stale number does).entries
entries_added laws kept number does =
    let fills : List Pieced = fills_before kept.stale.layouts kept.stale number does in
    map-append (entry_of pieces) kept.pending (works_of kept.stale kept.scalars number does)
    ∙ ap (λ (es : List Entry). entries_of kept.pending ++ es)
    (map-append (entry_of pieces) fills (pieces_of (declared_of kept.stale) kept.scalars number does)
    ∙ (ap (λ (es : List Entry). entries_of fills ++ es) (laws.pieces.entries (declared_of kept.stale) kept.scalars [] number does)
    ∙ sym (map-append (entry_of pieces) fills (pieces_of (declared_of kept.stale) [] number does))))

steps_next : (stale : Staled) (number : ℕ) (order : List Statement) (s : Statement) → drop number order ≡ s ∷ drop (number + 1) order
    → steps_of stale number (drop number order) ≡ step_of stale number s.action ∷ steps_of (stale_after stale s.action) (number + 1) (drop (number + 1) order)
steps_next stale number order s next =
    ap (steps_of stale number) next
    ∙ ap (λ (n : ℕ). step_of stale number s.action ∷ steps_of (stale_after stale s.action) n (drop (number + 1) order)) (sym (add-one number))

-- whether a window ends, as the code finds it
pub goes_on : (kept : Kept) (number : ℕ) (does : Action) → ends_window does ≡ false → length (with_works kept number does).pending < 4096
    → is_end (step_of kept.stale number does) (entries_of (with_works kept number does).pending) ≡ false
goes_on kept number does none few =
    let lt : length (entries_of (with_works kept number does).pending) < 4096 = rw (length-map (with_works kept number does).pending (entry_of pieces)) few in
    rw none (search (rules, lt))

pub ends_here : (kept : Kept) (number : ℕ) (does : Action) → (ends_window does ≡ true) ⊎ (4096 ≤ length (with_works kept number does).pending)
    → is_end (step_of kept.stale number does) (entries_of (with_works kept number does).pending) ≡ true
ends_here kept number does (inl ends) = rw ends refl
ends_here kept number does (inr many) =
    let le : 4096 ≤ length (entries_of (with_works kept number does).pending) = rw (length-map (with_works kept number does).pending (entry_of pieces)) many in
    by (ends_window does) (search (rules, le))
  where
    by : (b : Bool) → not (nat_lt (length (entries_of (with_works kept number does).pending)) 4096) ≡ true → (b || not (nat_lt (length (entries_of (with_works kept number does).pending)) 4096)) ≡ true
    by true e = refl
    by false e = e

module _ {S : Type 0} (tells : List Pieced → Window → S → S → Type 0) (program : Programmed) (known : Option (List Window)) (start : S) where
  module _ (laws : HasLaws) (kept : Kept) (number : ℕ) (s : Statement) (next : drop number program.order ≡ s ∷ drop (number + 1) program.order)
      (told : Option (List Window)) (now : S) (upto : TellsUpTo tells program kept number known told start now) where
    -- no window ends
    pub tells_on : is_end (step_of kept.stale number s.action) (entries_of (with_works kept number s.action).pending) ≡ false
        → TellsUpTo tells program (with_works kept number s.action) (number + 1) known told start now
    tells_on none =
        tells_as tells program known start _ _ told now
        (ap (windows_of (entries_of kept.pending)) (steps_next kept.stale number program.order s next)
        ∙ none_ends (entries_of kept.pending) (entries_of (with_works kept number s.action).pending) (step_of kept.stale number s.action)
        (steps_of (stale_after kept.stale s.action) (number + 1) (drop (number + 1) program.order)) (entries_added laws kept number s.action) none)
        upto

    -- one ends: the pending works are the next window
    pub tells_end : is_end (step_of kept.stale number s.action) (entries_of (with_works kept number s.action).pending) ≡ true
        → TellsTo tells program (window_with (entries_of (with_works kept number s.action).pending) ++ windows_of [] (steps_of (stale_after kept.stale s.action) (number + 1) (drop (number + 1) program.order)))
        known told start now
    tells_end ends =
        tells_as tells program known start _ _ told now
        (ap (windows_of (entries_of kept.pending)) (steps_next kept.stale number program.order s next)
        ∙ one_ends (entries_of kept.pending) (entries_of (with_works kept number s.action).pending) (step_of kept.stale number s.action)
        (steps_of (stale_after kept.stale s.action) (number + 1) (drop (number + 1) program.order)) (entries_added laws kept number s.action) ends)
        upto

  -- behind the last statement too
  pub tells_last : (kept : Kept) (number : ℕ) (told : Option (List Window)) (now : S) → drop number program.order ≡ [] → TellsUpTo tells program kept number known told start now
      → TellsTo tells program (window_with (entries_of kept.pending) ++ []) known told start now
  tells_last kept number told now last upto =
      tells_as tells program known start _ _ told now
      (ap (λ (rest : List Statement). windows_of (entries_of kept.pending) (steps_of kept.stale number rest)) last
      ∙ sym (append-nil (window_with (entries_of kept.pending))))
      upto

  -- want of memory in the next window, or behind it
  pub told_first_short : (stops : List Pieced → S → S → Type 0) (pending : List Pieced) (later : List (List Entry)) (told end : Option (List Window)) (mid new : S)
      → TellsTo tells program (window_with (entries_of pending) ++ later) known told start mid → IsCutShort tells stops pending told end mid new
      → HasToldFirst tells stops program known end start new
  told_first_short stops pending later told end mid new to (inl (same, inl stays)) =
      subst (λ (ws : Option (List Window)). HasToldFirst tells stops program known ws start new) (sym same)
      (subst (λ (s : S). HasToldFirst tells stops program known told start s) (sym stays)
      (told_first tells program known start stops (window_with (entries_of pending) ++ later) told mid to))
  told_first_short stops pending later told end mid new to (inl (same, inr stopped)) =
      told_first_stopped tells program known start pending later told mid to stops end new same stopped
  told_first_short stops pending later told end mid new to (inr told_it) =
      told_first_with tells program known start pending later told mid to stops end new told_it

-- The statements from a number on fault at none before it.
from_here : (declared : Declared) (number : ℕ) (rest : List Statement) (world : World) (k : ℕ) → first_to_fault declared number rest world ≡ Some k → number ≤ k
from_here declared number [] world k is = absurd (cc is)
from_here declared number (s ∷ rest) world k is = by (effect_of declared s.action world) is (λ new. from_here declared (suc number) rest new k)
  where
    by : (effect : Effect) → fault_or_later effect number (first_to_fault declared (suc number) rest) ≡ Some k
        → ((new : World) → first_to_fault declared (suc number) rest new ≡ Some k → suc number ≤ k) → number ≤ k
    by (Faults fault) e further = let same : number ≡ k = cc in omega arith
    by (Becomes new) e further = let later : suc number ≤ k = further new e in omega arith

-- where nothing is pending, no statement before this one faults
pub none_before : (program : Programmed) (kept : Kept) (number : ℕ) → IsUnderway program kept number → kept.pending ≡ [] → (k : ℕ) → fault_of_run program ≡ Some k → number ≤ k
none_before program kept number underway none k is =
    let stands : StandsBy program kept number (drop number program.order) None =
    subst (StandsBy program kept number (drop number program.order)) (ap (λ (works : List Pieced). fault_among works (left kept)) none) underway.stands in
    from_here program.declared number (drop number program.order) stands.0 k (sym stands.1.first ∙ is)

-- so the works of statements before it are of statements before the first that faults
pub are_before : (program : Programmed) (kept : Kept) (number : ℕ) (pending : List Pieced) → IsUnderway program kept number → kept.pending ≡ [] → ArePending program.declared number pending → AreBeforeFault program pending
are_before program kept number pending underway none are =
    λ i piece within k is.
    let lt : _ < number = are.before i piece within in
    let le : number ≤ k = none_before program kept number underway none k is in
    omega arith

has_behind : (n : ℕ) (works more : List Pieced) → has_statement n (entries_of more) ≡ true → has_statement n (entries_of (works ++ more)) ≡ true
has_behind n [] more has = has
has_behind n (piece ∷ works) more has = or_right (piece.statement == n) (has_statement n (entries_of (works ++ more))) (has_behind n works more has)

-- pieces of a statement have its number
has_pieces : (declared : Declared) (scalars : List ℤ) (number : ℕ) (does : Action) → 0 < length (pieces_of declared scalars number does)
    → has_statement number (entries_of (pieces_of declared scalars number does)) ≡ true
has_pieces declared scalars number (action.Assign target value mask) some =
    of_parts (parts_of declared (target ∷ views_of (bound scalars (whole_value target value mask))) (positions_of target.slots)) some
  where
    of_parts : (parts : List (List Interval)) → 0 < length (map (piece_of declared number (task.Assign target) (bound scalars (whole_value target value mask))) parts)
        → has_statement number (entries_of (map (piece_of declared number (task.Assign target) (bound scalars (whole_value target value mask))) parts)) ≡ true
    of_parts [] there = absurd (omega arith)
    of_parts (part ∷ parts) there = rw (same_number number) refl
has_pieces declared scalars number (action.Reduce scalar reduction positions value) some =
    of_parts (parts_of declared (views_of (bound scalars value)) positions) some
  where
    of_parts : (parts : List (List Interval)) → 0 < length (map (piece_of declared number (task.Reduce reduction) (bound scalars value)) parts)
        → has_statement number (entries_of (map (piece_of declared number (task.Reduce reduction) (bound scalars value)) parts)) ≡ true
    of_parts [] there = absurd (omega arith)
    of_parts (part ∷ parts) there = rw (same_number number) refl
has_pieces declared scalars number (action.PrintView view) some = absurd (omega arith)
has_pieces declared scalars number (action.PrintScalar scalar) some = absurd (omega arith)
has_pieces declared scalars number action.Block some = absurd (omega arith)

-- where pieces of its own answered, the pending works have some of it
pub has_its_own : HasLaws → (kept : Kept) (number : ℕ) (does : Action) → 0 < length (drop (begins kept number does) (left (with_works kept number does)).outcomes)
    → has_statement number (entries_of (with_works kept number does).pending) ≡ true
has_its_own laws kept number does some =
    has_behind number kept.pending (works_of kept.stale kept.scalars number does)
    (has_behind number (fills_before kept.stale.layouts kept.stale number does) (pieces_of (declared_of kept.stale) kept.scalars number does)
    (has_pieces (declared_of kept.stale) kept.scalars number does there))
  where
    there : 0 < length (pieces_of (declared_of kept.stale) kept.scalars number does)
    there =
        let answered : length (left (with_works kept number does)).outcomes ≡ length (with_works kept number does).pending = laws.works.count (with_works kept number does).pending kept.store.objects in
        let dropped : length (drop (begins kept number does) (left (with_works kept number does)).outcomes) ≡ length (left (with_works kept number does)).outcomes - begins kept number does =
        length-drop (begins kept number does) (left (with_works kept number does)).outcomes in
        let all : length (with_works kept number does).pending ≡ length kept.pending + length (works_of kept.stale kept.scalars number does) = length-append kept.pending (works_of kept.stale kept.scalars number does) in
        let own : length (works_of kept.stale kept.scalars number does) ≡ length (fills_before kept.stale.layouts kept.stale number does) + length (pieces_of (declared_of kept.stale) kept.scalars number does) =
        length-append (fills_before kept.stale.layouts kept.stale number does) (pieces_of (declared_of kept.stale) kept.scalars number does) in
        omega arith

-- The fault of the pending works, as the code finds it.
pub found_among : (inside kept : Kept) (statements : List ℕ) (outcomes : List Outcome) (found : Option Faulted) → inside ≡ kept
    → statements ≡ map (λ (piece : Pieced). piece.statement) inside.pending → outcomes ≡ (left inside).outcomes → found ≡ plan_fault statements outcomes
    → fault_among kept.pending (left kept) ≡ found
found_among inside kept statements outcomes found same are answered is =
    ap (λ (k : Kept). fault_among k.pending (left k)) (sym same)
    ∙ (ap (λ (os : List Outcome). plan_fault (map (λ (piece : Pieced). piece.statement) inside.pending) os) (sym answered)
    ∙ (ap (λ (ns : List ℕ). plan_fault ns outcomes) (sym are) ∙ sym is))

statement_there : (order : List Statement) (n : ℕ) → n < length order → (s : Statement) × (slice_get order n ≡ Some s)
statement_there [] n within = absurd (omega arith)
statement_there (s ∷ order) zero within = (s, refl)
statement_there (s ∷ order) (suc n) within = statement_there order n (omega arith)

-- its text was written
pub writes_it : (program : Programmed) (kept : Kept) (fault : Faulted) (line : ℕ) (bytes : List ℕ) → fault_among kept.pending (left kept) ≡ Some fault
    → fault.statement < length program.order → IfSome (slice_get program.order fault.statement) (λ (s : Statement). line ≡ s.line)
    → bytes ≡ kept.bytes ++ fault_text line (as_fault fault) → WritesFault program kept bytes
writes_it program kept fault line bytes is within on written =
    let there = statement_there program.order fault.statement within in
    record {
      fault = fault;
      is = is;
      statement = there.0;
      at = there.1;
      written = written ∙ ap (λ (n : ℕ). kept.bytes ++ fault_text n (as_fault fault)) (rw there.1 at on);
    }

-- what is kept once the pending works were completed, by its parts
pub completed_is : (inside kept : Kept) (store : Stored) (pending : List Pieced) → inside ≡ kept → store ≡ record inside.store { objects = (left inside).objects } → pending ≡ []
    → record { stale = inside.stale; store = store; scalars = inside.scalars; pending = pending; bytes = inside.bytes } ≡ completed kept
completed_is inside kept store pending same is none =
    ap (λ (s : Stored). record { stale = inside.stale; store = s; scalars = inside.scalars; pending = pending; bytes = inside.bytes }) is
    ∙ (ap (λ (works : List Pieced). record { stale = inside.stale; store = record inside.store { objects = (left inside).objects }; scalars = inside.scalars; pending = works; bytes = inside.bytes }) none
    ∙ ap completed same)
