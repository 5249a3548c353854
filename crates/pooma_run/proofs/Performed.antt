-- A statement as it is performed: where the run stands, and what is told.
use Rattle.std.proofs.Common.{◌≡◌, ◌∙◌, sym, ap, subst, ℕ, suc, ◌+◌, ◌-◌, ◌<◌, ◌≤◌, Bool, true, false, Option, None, Some, List, [], ◌∷◌, ◌++◌, drop, length, length-append, length-drop, take, arith}
use Rattle.std.specs.Bool.{OnFalse, OnTrue}
use Rattle.std.specs.Prelude.{◌⊎◌, IfOk, IsTrue, OnOk, Result, Ok, Err}
use Rattle.std.proofs.lemmas.List.{take_rest}
use Rattle.pooma_fill.specs.Marks.{declared_of, fills_before}
use Rattle.pooma_machine.specs.declared.journal.Entry.{Entry}
use Rattle.pooma_machine.specs.Told.{Window}
use Rattle.pooma_model.specs.declared.statement.Statement.{Statement}
use Rattle.pooma_model.specs.Declarations.{Declared}
use Rattle.pooma_model.specs.Fit.{IsFit}
use Rattle.pooma_model.specs.Order.{Programmed}
use Rattle.pooma_model.specs.Texts.{fault_text}
use Rattle.pooma_model.specs.Serial.{serial_of}
use Rattle.pooma_piece.specs.declared.outcome.Outcome.{Outcome}
use Rattle.pooma_piece.specs.Pieces.{Pieced}
use Rattle.pooma_split.specs.Splits.{pieces_of}
use Rattle.pooma_split.specs.Statements.{as_fault, fault_among}
use Rattle.pooma_run.specs.Gathered.{HasLaws}
use Rattle.pooma_split.specs.Words.{literals_fit_in}
use Rattle.pooma_run.specs.Plan.{ends_window, fault_of_run, steps_of, works_of}
use Rattle.pooma_run.specs.Steps.{has_statement, window_with, windows_of}
use Rattle.pooma_run.specs.Told.{HasTold, HasToldFirst, IsCutShort, TellsTo, TellsUpTo, ToldAs, entries_of}
use Rattle.pooma_run.specs.Underway.{ArePending, EndsBy, IsAdded, IsConcluding, IsUnderway, Kept, WritesFault, begins, completed, left, with_works}
use Rattle.pooma_run.proofs.Concluding.{concluding, ended_by, went_on}
use Rattle.pooma_run.proofs.Faulting.{has_fault}
use Rattle.pooma_run.proofs.Performing.{are_before, ends_here, goes_on, has_its_own, tells_end, tells_on, told_first_short}
use Rattle.pooma_run.proofs.Stepping.{added}
use Rattle.pooma_run.proofs.Telling.{tells_next, told_first_with, told_with_fault}

pub fewer_pending : (declared : Declared) (n m : ℕ) (pending : List Pieced) → n ≤ m → ArePending declared n pending → ArePending declared m pending
fewer_pending declared n m pending le are =
    record { there = are.there; fits = are.fits; before = λ i piece within. let lt : _ < n = are.before i piece within in omega arith }

pub below_all : (order : List Statement) (number : ℕ) (s : Statement) (rest : List Statement) → drop number order ≡ s ∷ rest → number + 1 ≤ length order
below_all order number s rest next =
    let left_over : length (drop number order) ≡ length order - number = length-drop number order in
    let some : length (drop number order) ≡ suc (length rest) = ap length next in
    omega arith

-- the same fault, and so the same line
pub ends_so : (program : Programmed) (kept : Kept) (bytes : List ℕ) (writes : WritesFault program kept bytes) → EndsBy program kept writes.fault
    → serial_of program ≡ record { bytes = bytes; faulted = true }
ends_so program kept bytes writes by =
    let same : by.statement ≡ writes.statement = let is = by.is in let at = writes.at in cc in
    by.run ∙ ap (λ (bs : List ℕ). record { bytes = bs; faulted = true }) (ap (λ (s : Statement). kept.bytes ++ fault_text s.line (as_fault writes.fault)) same ∙ sym writes.written)

-- A statement is performed: before it the run stood so, and now its works are pending too.
pub record Performs (program : Programmed) (kept : Kept) (number : ℕ) (s : Statement) (now : Kept) : Type 0 where
  pub laws : HasLaws
  pub underway : IsUnderway program kept number
  pub next : drop number program.order ≡ s ∷ drop (number + 1) program.order
  pub fit : IsFit program.declared s.action
  pub literals : IsTrue (literals_fit_in s.action)
  pub is : now ≡ with_works kept number s.action

module _ {program : Programmed} {kept : Kept} {number : ℕ} {s : Statement} {now : Kept} (performs : Performs program kept number s now) where
  pub added_now : IsAdded program now number s (drop (begins kept number s.action) (left now).outcomes)
  added_now =
      subst (λ (k : Kept). IsAdded program k number s (drop (begins kept number s.action) (left k).outcomes)) (sym performs.is)
      (added performs.laws program kept number s performs.underway performs.next performs.fit performs.literals)

  pub all_pending : ArePending program.declared (length program.order) now.pending
  all_pending =
      fewer_pending program.declared (number + 1) (length program.order) now.pending (below_all program.order number s (drop (number + 1) program.order) performs.next) added_now.pending

  pub underway_now : ends_window s.action ≡ false → IsUnderway program now (number + 1)
  underway_now none = went_on performs.laws program now number s (drop (begins kept number s.action) (left now).outcomes) added_now none

  -- the statement's own outcomes are some of all
  pub begins_within : (items : List Outcome) (begin : ℕ) → items ≡ (left now).outcomes → begin ≡ begins kept number s.action → begin ≤ length items
  begins_within items begin are from =
      let answered : length (left now).outcomes ≡ length now.pending = performs.laws.works.count now.pending now.store.objects in
      let pending : length now.pending ≡ length (kept.pending ++ works_of kept.stale kept.scalars number s.action) = ap (λ (k : Kept). length k.pending) performs.is in
      let all : length (kept.pending ++ works_of kept.stale kept.scalars number s.action) ≡ length kept.pending + length (works_of kept.stale kept.scalars number s.action) =
      length-append kept.pending (works_of kept.stale kept.scalars number s.action) in
      let own : length (works_of kept.stale kept.scalars number s.action)
      ≡ length (fills_before kept.stale.layouts kept.stale number s.action) + length (pieces_of (declared_of kept.stale) kept.scalars number s.action) =
      length-append (fills_before kept.stale.layouts kept.stale number s.action) (pieces_of (declared_of kept.stale) kept.scalars number s.action) in
      let same : length items ≡ length (left now).outcomes = ap length are in
      omega arith

  -- a fault among the pending works ends the run
  pub ended_now : (bytes : List ℕ) → WritesFault program now bytes → serial_of program ≡ record { bytes = bytes; faulted = true }
  ended_now bytes writes = ends_so program now bytes writes (ended_by program now number s (drop (begins kept number s.action) (left now).outcomes) writes.fault added_now writes.is)

  -- where there is none, the statement can be concluded
  pub concluding_now : (then : Kept) (items : List Outcome) (begin : ℕ) → fault_among now.pending (left now) ≡ None → then ≡ completed now
      → items ≡ (left now).outcomes → begin ≡ begins kept number s.action → IsConcluding program then number s (take (length items - begin) (drop begin items))
  concluding_now then items begin none after are from =
      subst (λ (k : Kept). IsConcluding program k number s (take (length items - begin) (drop begin items))) (sym after)
      (subst (λ (os : List Outcome). IsConcluding program (completed now) number s os)
      (sym (take_rest items begin ∙ (ap (λ (os : List Outcome). drop begin os) are ∙ ap (λ (n : ℕ). drop n (left now).outcomes) from)))
      (concluding program now number s (drop (begins kept number s.action) (left now).outcomes) added_now none))

  module _ {S : Type 0} (tells : List Pieced → Window → S → S → Type 0) (known : Option (List Window)) (start : S) (told : Option (List Window)) (state : S)
      (upto : TellsUpTo tells program kept number known told start state) where
    pub tells_now : ends_window s.action ≡ false → length now.pending < 4096 → TellsUpTo tells program now (number + 1) known told start state
    tells_now none few =
        subst (λ (k : Kept). TellsUpTo tells program k (number + 1) known told start state) (sym performs.is)
        (tells_on tells program known start performs.laws kept number s performs.next told state upto
        (goes_on kept number s.action none (subst (λ (k : Kept). length k.pending < 4096) performs.is few)))

    module _ (ends : (ends_window s.action ≡ true) ⊎ (4096 ≤ length now.pending)) (end : Option (List Window)) (new : S) where
      -- all windows behind the pending one
      others : List (List Entry)
      others = windows_of [] (steps_of now.stale (number + 1) (drop (number + 1) program.order))

      at_end : TellsTo tells program (window_with (entries_of now.pending) ++ others) known told start state
      unfolding others
      at_end =
          subst (λ (k : Kept). TellsTo tells program (window_with (entries_of k.pending) ++ windows_of [] (steps_of k.stale (number + 1) (drop (number + 1) program.order))) known told start state) (sym performs.is)
          (tells_end tells program known start performs.laws kept number s performs.next told state upto
          (ends_here kept number s.action (subst (λ (k : Kept). (ends_window s.action ≡ true) ⊎ (4096 ≤ length k.pending)) performs.is ends)))

      -- memory ended in the window
      pub short_now : (stops : List Pieced → S → S → Type 0) → IsCutShort tells stops now.pending told end state new → HasToldFirst tells stops program known end start new
      short_now stops short = told_first_short tells program known start stops now.pending others told end state new at_end short

      module _ (one : ToldAs tells (window_with now.pending) told end state new) where
        -- and behind it
        pub first_now : (stops : List Pieced → S → S → Type 0) → HasToldFirst tells stops program known end start new
        first_now stops = told_first_with tells program known start now.pending others told state at_end stops end new one

        -- the window has a fault
        pub told_by_fault : (bytes : List ℕ) → WritesFault program now bytes → HasTold tells program known end start new
        told_by_fault bytes writes =
            told_with_fault tells program known start now.pending others told state at_end end new one writes.fault.statement
            (ended_by program now number s (drop (begins kept number s.action) (left now).outcomes) writes.fault added_now writes.is).first
            (has_fault now.pending (left now).outcomes writes.fault writes.is)

        -- the sum has one
        pub told_by_sum : (items : List Outcome) (begin : ℕ) → items ≡ (left now).outcomes → begin ≡ begins kept number s.action
            → 0 < length (take (length items - begin) (drop begin items)) → fault_of_run program ≡ Some number → HasTold tells program known end start new
        told_by_sum items begin are from some first =
            told_with_fault tells program known start now.pending others told state at_end end new one number first
            (subst (λ (k : Kept). has_statement number (entries_of k.pending) ≡ true) (sym performs.is)
            (has_its_own performs.laws kept number s.action
            (subst (λ (os : List Outcome). 0 < length os)
            (take_rest items begin ∙ (ap (λ (os : List Outcome). drop begin os) are ∙ (ap (λ (n : ℕ). drop n (left now).outcomes) from
            ∙ ap (λ (k : Kept). drop (begins kept number s.action) (left k).outcomes) performs.is)))
            some)))

        -- it has none, and the run goes on
        pub tells_after : (then : Kept) → then.stale ≡ now.stale → then.pending ≡ [] → IsUnderway program then (number + 1)
            → TellsUpTo tells program then (number + 1) known end start new
        unfolding others
        tells_after then stale none further =
            subst (λ (ws : List (List Entry)). TellsTo tells program ws known end start new)
            (sym (ap (λ (works : List Pieced). windows_of (entries_of works) (steps_of then.stale (number + 1) (drop (number + 1) program.order))) none
            ∙ ap (λ stale. windows_of [] (steps_of stale (number + 1) (drop (number + 1) program.order))) stale))
            (tells_next tells program known start now.pending others told state at_end end new one
            (are_before program then (number + 1) now.pending further none added_now.pending))

-- What follows from what a call promises of its answer, where that is one of the two.
pub where_false : {E A B P Q : Type 0} (r : Result Bool E) → (A → B → P → Q) → OnOk r A → OnOk r B → IfOk r (λ answer. OnFalse answer P) → IfOk r (λ answer. OnFalse answer Q)
where_false (Ok true) so a b holds = tt
where_false (Ok false) so a b holds = so a b holds
where_false (Err e) so a b holds = tt

pub where_true : {E P R Q : Type 0} (r : Result Bool E) → (P → R → Q) → IfOk r (λ answer. OnTrue answer P) → IfOk r (λ answer. OnTrue answer R) → IfOk r (λ answer. OnTrue answer Q)
where_true (Ok true) so one two = so one two
where_true (Ok false) so one two = tt
where_true (Err e) so one two = tt

pub if_true : {E P : Type 0} (r : Result Bool E) → P → IfOk r (λ answer. OnTrue answer P)
if_true (Ok true) holds = holds
if_true (Ok false) holds = tt
if_true (Err e) holds = tt
