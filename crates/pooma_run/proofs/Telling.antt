-- Windows as they are told, one after another.
use Rattle.std.proofs.Common.{◌≡◌, ◌∙◌, refl, sym, ap, subst, ℕ, Bool, true, false, Option, None, Some, List, [], ◌∷◌, ◌++◌, ◌<◌, length, map, append_assoc, append-nil, inl, inr, arith, rules}
use Rattle.std.specs.Prelude.{◌==◌, All, if◌then◌else◌}
use Rattle.std.proofs.lemmas.List.{map-append}
use Rattle.std.proofs.lemmas.List.Elements.{All-append, All-cons, All-head, All-nil, All-tail}
use Rattle.pooma_machine.specs.declared.journal.Entry.{Entry}
use Rattle.pooma_machine.specs.Journal.{Tells, entry_of}
use Rattle.pooma_machine.specs.Told.{Window}
use Rattle.pooma_fill.specs.Marks.{Staled}
use Rattle.pooma_model.specs.Order.{Programmed}
use Rattle.pooma_piece.specs.Meaning.{pieces}
use Rattle.pooma_piece.specs.Pieces.{Pieced}
use Rattle.pooma_run.specs.Plan.{IsOpening, fault_of_run, steps_of}
use Rattle.pooma_window.specs.Questions.{Question}
use Rattle.pooma_run.specs.Steps.{Step, has_statement, is_end, window_with, windows_of, windows_run, windows_up_to}
use Rattle.pooma_run.specs.Told.{AreBeforeFault, HasAsked, HasTold, HasToldFirst, TellsTo, ToldAs, entries_of}
use Rattle.pooma_run.specs.Turns.{AreTold, told_behind}
use Rattle.pooma_window.specs.Windows.{IsPickedFrom}

-- behind a step at which no window ends its entries are pending too
pub none_ends : (pending added : List Entry) (step : Step) (steps : List Step) → added ≡ pending ++ step.entries → is_end step added ≡ false
    → windows_of pending (step ∷ steps) ≡ windows_of added steps
none_ends pending added step steps e ends =
    ap (λ (es : List Entry). if is_end step es then window_with es ++ windows_of [] steps else windows_of es steps) (sym e)
    ∙ ap (λ (b : Bool). if b then window_with added ++ windows_of [] steps else windows_of added steps) ends

-- and where one ends, it has them all
pub one_ends : (pending added : List Entry) (step : Step) (steps : List Step) → added ≡ pending ++ step.entries → is_end step added ≡ true
    → windows_of pending (step ∷ steps) ≡ window_with added ++ windows_of [] steps
one_ends pending added step steps e ends =
    ap (λ (es : List Entry). if is_end step es then window_with es ++ windows_of [] steps else windows_of es steps) (sym e)
    ∙ ap (λ (b : Bool). if b then window_with added ++ windows_of [] steps else windows_of added steps) ends

-- the window of works that are told each as an entry
pub window_told : {A B : Type 0} (f : A → B) (works : List A) → map (map f) (window_with works) ≡ window_with (map f works)
window_told f [] = refl
window_told f (work ∷ works) = refl

-- no window has an entry of this statement
abbrev pub NoneHas : ℕ → List (List Entry) → Type 0
NoneHas number [] = Unit {0}
NoneHas number (window ∷ windows) = (has_statement number window ≡ false) × NoneHas number windows

-- such windows are run, and then of the others as many as if they were all
pub up_to_behind : (number : ℕ) (before later : List (List Entry)) → NoneHas number before → windows_up_to number (before ++ later) ≡ before ++ windows_up_to number later
up_to_behind number [] later none = refl
up_to_behind number (first ∷ before) later none =
    ap (λ (b : Bool). if b then first ∷ [] else first ∷ windows_up_to number (before ++ later)) none.0
    ∙ ap (λ (ws : List (List Entry)). first ∷ ws) (up_to_behind number before later none.1)

-- the first window that has an entry of the statement is the last that is run
has_some : (number : ℕ) (window : List Entry) (later : List (List Entry)) → has_statement number window ≡ true
    → windows_up_to number (window_with window ++ later) ≡ window_with window
has_some number [] later has = cc
has_some number (entry ∷ window) later has =
    ap (λ (b : Bool). if b then (entry ∷ window) ∷ [] else (entry ∷ window) ∷ windows_up_to number later) has

pub up_to_first : (number : ℕ) (before : List (List Entry)) (window : List Entry) (later : List (List Entry)) → NoneHas number before → has_statement number window ≡ true
    → windows_up_to number (before ++ (window_with window ++ later)) ≡ before ++ window_with window
up_to_first number before window later none has =
    up_to_behind number before (window_with window ++ later) none ∙ ap (λ (ws : List (List Entry)). before ++ ws) (has_some number window later has)

-- the first window is run, whatever faults
pub first_is_run : (fault : Option ℕ) (window : List Entry) (later : List (List Entry))
    → (rest : List (List Entry)) × (windows_run fault (window_with window ++ later) ≡ window_with window ++ rest)
first_is_run None window later = (later, refl)
first_is_run (Some number) [] later = (windows_up_to number later, refl)
first_is_run (Some number) (entry ∷ window) later = by (has_statement number (entry ∷ window)) refl
  where
    by : (b : Bool) → has_statement number (entry ∷ window) ≡ b
        → (rest : List (List Entry)) × (windows_up_to number ((entry ∷ window) ∷ later) ≡ (entry ∷ window) ∷ rest)
    by true e = ([], ap (λ (b : Bool). if b then (entry ∷ window) ∷ [] else (entry ∷ window) ∷ windows_up_to number later) e)
    by false e = (windows_up_to number later, ap (λ (b : Bool). if b then (entry ∷ window) ∷ [] else (entry ∷ window) ∷ windows_up_to number later) e)

-- windows told one after another, and then others
pub told_on : {W S : Type 0} (tells : List W → Window → S → S → Type 0) (works more : List (List W)) (windows others : List Window) (old mid new : S)
    → AreTold tells works windows old mid → AreTold tells more others mid new → AreTold tells (works ++ more) (windows ++ others) old new
told_on tells [] more [] others old mid new one two = subst (λ s. AreTold tells more others s new) (sym one) two
told_on tells [] more (window ∷ windows) others old mid new one two = absurd one
told_on tells (work ∷ works) more [] others old mid new one two = absurd one
told_on tells (work ∷ works) more (window ∷ windows) others old mid new one two =
    (one.0, one.1, told_on tells works more windows others one.0 mid new one.2 two)

pub behind_on : (known : Option (List Window)) (windows others : List Window) → told_behind (told_behind known windows) others ≡ told_behind known (windows ++ others)
behind_on None windows others = refl
behind_on (Some before) windows others = ap (λ (ws : List Window). Some ws) (append_assoc before windows others)

pub behind_none : (known : Option (List Window)) → told_behind known [] ≡ known
behind_none None = refl
behind_none (Some before) = ap (λ (ws : List Window). Some ws) (append-nil before)

-- one window that was told stands behind those that are known
pub one_told : (known new : Option (List Window)) (window : Window) → Tells known new window → new ≡ told_behind known (window ∷ [])
one_told None new window e = e
one_told (Some before) new window e = e

-- works of which none is pending are told by no window
pub none_told : {W S : Type 0} (tells : List W → Window → S → S → Type 0) (works : List W) (known : Option (List Window)) (now : S) → length works ≡ 0
    → (windows : List Window) × AreTold tells (window_with works) windows now now × (known ≡ told_behind known windows)
none_told tells [] known now e = ([], refl, sym (behind_none known))
none_told tells (work ∷ works) known now e = absurd (omega arith)

-- and others by the one that was told of them
pub some_told : {W S : Type 0} (tells : List W → Window → S → S → Type 0) (works : List W) (window : Window) (known told : Option (List Window)) (old new : S) → 0 < length works
    → tells works window old new → Tells known told window → (windows : List Window) × AreTold tells (window_with works) windows old new × (told ≡ told_behind known windows)
some_told tells [] window known told old new some is one = absurd (omega arith)
some_told tells (work ∷ works) window known told old new some is one = (window ∷ [], (new, is, refl), one_told known told window one)

-- what is told of the windows in another way
pub told_so : {W S T : Type 0} (tells : List W → Window → S → S → Type 0) (says : List W → Window → T → T → Type 0) (f : S → T)
    → ((works : List W) (window : Window) (old new : S) → tells works window old new → says works window (f old) (f new))
    → (works : List (List W)) (windows : List Window) (old new : S) → AreTold tells works windows old new → AreTold says works windows (f old) (f new)
told_so tells says f also [] [] old new told = ap f told
told_so tells says f also [] (window ∷ windows) old new told = absurd told
told_so tells says f also (work ∷ works) [] old new told = absurd told
told_so tells says f also (work ∷ works) (window ∷ windows) old new told =
    (f told.0, also work window old told.0 told.1, told_so tells says f also works windows told.0 new told.2)

-- A run as it tells its windows: what is told so far, and how it goes on.
none_of : (number : ℕ) (works : List Pieced) → All (λ (piece : Pieced). piece.statement < number) works → has_statement number (entries_of works) ≡ false
none_of number [] before = refl
none_of number (piece ∷ works) before =
    let lt : piece.statement < number = All-head (λ (piece : Pieced). piece.statement < number) piece works before in
    let other : (piece.statement == number) ≡ false = search (rules, lt) in
    rw other (none_of number works (All-tail (λ (piece : Pieced). piece.statement < number) piece works before))

nones_of : (program : Programmed) (k : ℕ) → fault_of_run program ≡ Some k → (works : List (List Pieced)) → All (AreBeforeFault program) works → NoneHas k (map entries_of works)
nones_of program k is [] before = tt
nones_of program k is (window ∷ works) before = (
  none_of k window (λ i d within. All-head (AreBeforeFault program) window works before i d within k is),
  nones_of program k is works (All-tail (AreBeforeFault program) window works before),
)

run_behind : (program : Programmed) (works : List (List Pieced)) (rest : List (List Entry)) → All (AreBeforeFault program) works
    → windows_run (fault_of_run program) (map entries_of works ++ rest) ≡ map entries_of works ++ windows_run (fault_of_run program) rest
run_behind program works rest before = by (fault_of_run program) refl
  where
    by : (fault : Option ℕ) → fault_of_run program ≡ fault → windows_run fault (map entries_of works ++ rest) ≡ map entries_of works ++ windows_run fault rest
    by None e = refl
    by (Some k) e = up_to_behind k (map entries_of works) rest (nones_of program k e works before)

-- the works of one window more
one_more : (works : List (List Pieced)) (pending : List Pieced) (later : List (List Entry))
    → map entries_of (works ++ window_with pending) ++ later ≡ map entries_of works ++ (window_with (entries_of pending) ++ later)
one_more works pending later =
    ap (λ (ws : List (List Entry)). ws ++ later) (map-append entries_of works (window_with pending) ∙ ap (λ (ws : List (List Entry)). map entries_of works ++ ws) (window_told (entry_of pieces) pending))
    ∙ append_assoc (map entries_of works) (window_with (entries_of pending)) later

module _ {S : Type 0} (tells : List Pieced → Window → S → S → Type 0) (program : Programmed) (known : Option (List Window)) (start : S) where
  -- windows that were told, and then others
  both_told : (works more : List (List Pieced)) (told now : Option (List Window)) (mid new : S)
      → ToldAs tells works known told start mid → ToldAs tells more told now mid new → ToldAs tells (works ++ more) known now start new
  both_told works more told now mid new one two = record {
    windows = one.windows ++ two.windows;
    each = told_on tells works more one.windows two.windows start mid new one.each two.each;
    behind = two.behind ∙ (ap (λ before. told_behind before two.windows) one.behind ∙ behind_on known one.windows two.windows);
  }

  -- what is still to be told, in other words
  pub tells_as : (rest same : List (List Entry)) (told : Option (List Window)) (now : S) → rest ≡ same
      → TellsTo tells program rest known told start now → TellsTo tells program same known told start now
  tells_as rest same told now e to = subst (λ (ws : List (List Entry)). TellsTo tells program ws known told start now) e to

  -- before the first window
  pub tells_at_first : (first : Staled) (told : Option (List Window)) → IsOpening program first → told ≡ known
      → TellsTo tells program (windows_of [] (steps_of first 0 program.order)) known told start start
  tells_at_first first told opening e = record {
    first = first;
    opening = opening;
    works = [];
    plan = refl;
    told_as = record { windows = []; each = refl; behind = e ∙ sym (behind_none known) };
    before = All-nil (AreBeforeFault program);
  }

  module _ (pending : List Pieced) (later : List (List Entry)) (told : Option (List Window)) (mid : S)
      (to : TellsTo tells program (window_with (entries_of pending) ++ later) known told start mid) where
    -- the next window was told, and has no statement that faults
    pub tells_next : (now : Option (List Window)) (new : S) → ToldAs tells (window_with pending) told now mid new → AreBeforeFault program pending
        → TellsTo tells program later known now start new
    tells_next now new one before = record {
      first = to.first;
      opening = to.opening;
      works = to.works ++ window_with pending;
      plan = to.plan ∙ sym (one_more to.works pending later);
      told_as = both_told to.works (window_with pending) told now mid new to.told_as one;
      before = All-append (AreBeforeFault program) to.works (window_with pending) to.before (in_window pending before);
    }
      where
        in_window : (works : List Pieced) → AreBeforeFault program works → All (AreBeforeFault program) (window_with works)
        in_window [] each = All-nil (AreBeforeFault program)
        in_window (piece ∷ works) each = All-cons (AreBeforeFault program) (piece ∷ works) [] each (All-nil (AreBeforeFault program))

    -- it was told, and has the statement that faults first
    pub told_with_fault : (now : Option (List Window)) (new : S) → ToldAs tells (window_with pending) told now mid new
        → (k : ℕ) → fault_of_run program ≡ Some k → has_statement k (entries_of pending) ≡ true → HasTold tells program known now start new
    told_with_fault now new one k is has = record {
      works = to.works ++ window_with pending;
      plan = (to.first, to.opening, sym whole);
      told_as = both_told to.works (window_with pending) told now mid new to.told_as one;
    }
      where
        whole : windows_run (fault_of_run program) (windows_of [] (steps_of to.first 0 program.order)) ≡ map entries_of (to.works ++ window_with pending)
        whole =
            ap (λ fault. windows_run fault (windows_of [] (steps_of to.first 0 program.order))) is
            ∙ ap (windows_up_to k) to.plan
            ∙ up_to_first k (map entries_of to.works) (entries_of pending) later (nones_of program k is to.works to.before) has
            ∙ (sym (append-nil (map entries_of to.works ++ window_with (entries_of pending)))
            ∙ append_assoc (map entries_of to.works) (window_with (entries_of pending)) []
            ∙ sym (one_more to.works pending []) ∙ append-nil (map entries_of (to.works ++ window_with pending)))

    -- the windows that are run begin with it, and then others
    run_with : (rest : List (List Entry)) × (map entries_of to.works ++ (window_with (entries_of pending) ++ rest) ≡ windows_run (fault_of_run program) (windows_of [] (steps_of to.first 0 program.order)))
    run_with =
        let found = first_is_run (fault_of_run program) (entries_of pending) later in (
          found.0,
          ap (λ (ws : List (List Entry)). map entries_of to.works ++ ws) (sym found.1)
              ∙ sym (run_behind program to.works (window_with (entries_of pending) ++ later) to.before) ∙ ap (windows_run (fault_of_run program)) (sym to.plan),
        )

    module _ (stops : List Pieced → S → S → Type 0) where
      -- it was told, and memory ended behind it
      pub told_first_with : (now : Option (List Window)) (new : S) → ToldAs tells (window_with pending) told now mid new → HasToldFirst tells stops program known now start new
      told_first_with now new one = record {
        works = to.works ++ window_with pending;
        later = run_with.0;
        mid = new;
        plan = (to.first, to.opening, one_more to.works pending run_with.0 ∙ run_with.1);
        told_as = both_told to.works (window_with pending) told now mid new to.told_as one;
        then = inl refl;
      }

      -- the completer stopped in it
      pub told_first_stopped : (now : Option (List Window)) (new : S) → now ≡ told → stops pending mid new → HasToldFirst tells stops program known now start new
      told_first_stopped now new same stopped = record {
        works = to.works;
        later = window_with (entries_of pending) ++ run_with.0;
        mid = mid;
        plan = (to.first, to.opening, run_with.1);
        told_as = record { windows = to.told_as.windows; each = to.told_as.each; behind = same ∙ to.told_as.behind };
        then = inr (record { works = pending; later = run_with.0; next = refl; stopped = stopped });
      }

  -- memory ended between two windows
  pub told_first : (stops : List Pieced → S → S → Type 0) (rest : List (List Entry)) (told : Option (List Window)) (now : S)
      → TellsTo tells program rest known told start now → HasToldFirst tells stops program known told start now
  told_first stops rest told now to = record {
    works = to.works;
    later = windows_run (fault_of_run program) rest;
    mid = now;
    plan = (to.first, to.opening, sym (run_behind program to.works rest to.before) ∙ ap (windows_run (fault_of_run program)) (sym to.plan));
    told_as = to.told_as;
    then = inl refl;
  }

  -- the last window was told, and no statement faults
  pub told_as_all : (pending : List Pieced) (told : Option (List Window)) (mid : S) → TellsTo tells program (window_with (entries_of pending) ++ []) known told start mid
      → (now : Option (List Window)) (new : S) → ToldAs tells (window_with pending) told now mid new → fault_of_run program ≡ None → HasTold tells program known now start new
  told_as_all pending told mid to now new one none = record {
    works = to.works ++ window_with pending;
    plan = (
      to.first,
      to.opening,
      sym (ap (λ fault. windows_run fault (windows_of [] (steps_of to.first 0 program.order))) none
          ∙ (to.plan ∙ (sym (one_more to.works pending []) ∙ append-nil (map entries_of (to.works ++ window_with pending))))),
    );
    told_as = both_told to.works (window_with pending) told now mid new to.told_as one;
  }

-- Windows told in another way, and so what all or the first of them are.
module _ {S T : Type 0} (tells : List Pieced → Window → S → S → Type 0) (says : List Pieced → Window → T → T → Type 0) (f : S → T)
    (also : (works : List Pieced) (window : Window) (old new : S) → tells works window old new → says works window (f old) (f new))
    (program : Programmed) (known told : Option (List Window)) (old new : S) where
  as_so : (works : List (List Pieced)) (mid : S) → ToldAs tells works known told old mid → ToldAs says works known told (f old) (f mid)
  as_so works mid one = record { windows = one.windows; each = told_so tells says f also works one.windows old mid one.each; behind = one.behind }

  pub has_told_so : HasTold tells program known told old new → HasTold says program known told (f old) (f new)
  has_told_so has = record { works = has.works; plan = has.plan; told_as = as_so has.works new has.told_as }

  pub told_first_so : (stops : List Pieced → S → S → Type 0) (halts : List Pieced → T → T → Type 0) → ((works : List Pieced) (old new : S) → stops works old new → halts works (f old) (f new))
      → HasToldFirst tells stops program known told old new → HasToldFirst says halts program known told (f old) (f new)
  told_first_so stops halts stop has = record {
    works = has.works;
    later = has.later;
    mid = f has.mid;
    plan = has.plan;
    told_as = as_so has.works has.mid has.told_as;
    then = elim has.then [
      | inl same ↦ inl (ap f same)
      | inr stopped ↦ inr (record { works = stopped.works; later = stopped.later; next = stopped.next; stopped = stop stopped.works has.mid new stopped.stopped })
    ];
  }

-- what is told of the windows tells the questions
pub asked_of : (program : Programmed) {known told : Option (List Window)} {old new : Option (List Question)} → HasTold (IsPickedFrom pieces) program known told old new → HasAsked program old new
asked_of program has = record { works = has.works; plan = has.plan; windows = has.told_as.windows; each = has.told_as.each }
