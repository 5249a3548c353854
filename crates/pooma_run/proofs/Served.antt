-- The first windows of a program hold whole statements, in order, and serve each position of these.
use Rattle.std.proofs.Common.{◌≡◌, ◌∙◌, refl, sym, ap, subst, inl, inr, ⊎_elim, ℕ, zero, suc, ◌+◌, ◌<◌, ◌≤◌, Bool, true, false, Option, None, Some, List, [], ◌∷◌, ◌++◌, flat_map, length, append_assoc, append-nil, arith}
use Rattle.std.specs.Prelude.{◌⊎◌, ℤ, All, AllPairs, Contains, slice_get, if◌then◌else◌}
use Rattle.std.proofs.lemmas.Grind.{flat_map-append}
use Rattle.std.proofs.lemmas.List.Elements.{All-head, All-tail}
use Rattle.std.proofs.lemmas.List.Kept.{AllPairs-cons}
use Rattle.std.proofs.lemmas.Option.{same_Some}
use Rattle.pooma_logic.proofs.Members.{Member, all_members, contains_of, member_cases, member_image, member_left, member_map, member_of, member_right, of_all}
use Rattle.pooma_logic.proofs.Pairs.{pairs_in_front, pairs_none, pairs_of_both}
use Rattle.pooma_domain.specs.Cells.{IsIn}
use Rattle.pooma_field.specs.Worlds.{opening_world}
use Rattle.pooma_fill.specs.Marks.{Staled, declared_of, fills_before}
use Rattle.pooma_machine.specs.declared.journal.Entry.{Entry}
use Rattle.pooma_machine.specs.Journal.{entry_of}
use Rattle.pooma_machine.specs.Steps.{IsRequestList}
use Rattle.pooma_model.specs.declared.statement.Action.{Action}
use Rattle.pooma_model.specs.declared.statement.Statement.{Statement}
use Rattle.pooma_model.specs.Declarations.{Declared}
use Rattle.pooma_model.specs.Fit.{AreFit, IsFit}
use Rattle.pooma_model.specs.Order.{Programmed}
use Rattle.pooma_piece.specs.Meaning.{pieces}
use Rattle.pooma_piece.specs.Pieces.{Pieced, requests_of}
use Rattle.pooma_piece.specs.Requests.{requests_for}
use Rattle.pooma_split.specs.Serving.{IsPositionOf, Serve}
use Rattle.pooma_split.specs.Splits.{pieces_of}
use Rattle.pooma_store.specs.Stored.{AreArrays}
use Rattle.pooma_run.specs.Gathered.{HasLaws}
use Rattle.pooma_run.specs.Plan.{first_to_fault, stale_after, step_of, steps_of, works_of}
use Rattle.pooma_run.specs.Served.{AreFirst, IsSound, entries_in}
use Rattle.pooma_run.specs.Steps.{Step, has_statement, is_end, window_with, windows_of, windows_run, windows_up_to}
use Rattle.pooma_run.proofs.Stepping.{statements_are}

all_equal : (number : ℕ) (entries : List Entry) → ((entry : Entry) → Member entries entry → entry.statement ≡ number) → AllPairs (λ (one other : Entry). one.statement ≤ other.statement) entries
all_equal number [] same = pairs_none (λ one other. one.statement ≤ other.statement)
all_equal number (e ∷ entries) same =
    AllPairs-cons (λ (one other : Entry). one.statement ≤ other.statement) e entries
    (all_members (λ (other : Entry). e.statement ≤ other.statement) entries
    (λ other m. let here : e.statement ≡ number = same e (inl refl) in let later : other.statement ≡ number = same other (inr m) in omega arith))
    (all_equal number entries (λ other m. same other (inr m)))

-- ---- windows end behind whole steps

abbrev added : List Step → List Entry
added steps = flat_map (λ (step : Step). step.entries) steps

-- the entries that are pending and those of the first steps are these windows'
record HoldWhole (steps : List Step) (pending : List Entry) (windows : List (List Entry)) : Type 0 where
  before : List Step
  after : List Step
  split : steps ≡ before ++ after
  entries : entries_in windows ≡ pending ++ added before

abbrev AreNoneOrWhole : List Step → List Entry → List (List Entry) → Type 0
AreNoneOrWhole steps pending windows = (windows ≡ []) ⊎ HoldWhole steps pending windows

one_step : (step : Step) (steps : List Step) (pending : List Entry) (windows : List (List Entry)) → HoldWhole steps (pending ++ step.entries) windows → HoldWhole (step ∷ steps) pending windows
one_step step steps pending windows whole = record {
  before = step ∷ whole.before;
  after = whole.after;
  split = ap (λ later. step ∷ later) whole.split;
  entries = whole.entries ∙ append_assoc pending step.entries (added whole.before);
}

-- with a window that ends behind these entries
one_window : (steps : List Step) (entries : List Entry) (windows : List (List Entry)) → AreNoneOrWhole steps [] windows → HoldWhole steps entries (entries ∷ windows)
one_window steps entries windows later =
    ⊎_elim
    (λ none. record { before = []; after = steps; split = refl; entries = ap (λ (ws : List (List Entry)). entries ++ entries_in ws) none })
    (λ whole. record { before = whole.before; after = whole.after; split = whole.split; entries = ap (λ (es : List Entry). entries ++ es) whole.entries })
    later

ended : (steps : List Step) (entries : List Entry) (windows more : List (List Entry)) → window_with entries ++ windows_of [] steps ≡ windows ++ more
    → ((front : List (List Entry)) → windows_of [] steps ≡ front ++ more → AreNoneOrWhole steps [] front) → AreNoneOrWhole steps entries windows
ended steps [] windows more is rest = rest windows is
ended steps (entry ∷ entries) [] more is rest = inl refl
ended steps (entry ∷ entries) (window ∷ windows) more is rest =
    let same : entry ∷ entries ≡ window = cc in
    let later : windows_of [] steps ≡ windows ++ more = cc in
    inr (subst (λ w. HoldWhole steps (entry ∷ entries) (w ∷ windows)) same (one_window steps (entry ∷ entries) windows (rest windows later)))

none_left : (windows more : List (List Entry)) → [] ≡ windows ++ more → AreNoneOrWhole [] [] windows
none_left [] more is = inl refl
none_left (window ∷ windows) more is = absurd (cc)

one_left : (entry : Entry) (pending : List Entry) (windows more : List (List Entry)) → (entry ∷ pending) ∷ [] ≡ windows ++ more → AreNoneOrWhole [] (entry ∷ pending) windows
one_left entry pending [] more is = inl refl
one_left entry pending (window ∷ windows) more is =
    let same : entry ∷ pending ≡ window = cc in
    let later : [] ≡ windows ++ more = cc in
    inr (subst (λ w. HoldWhole [] (entry ∷ pending) (w ∷ windows)) same (one_window [] (entry ∷ pending) windows (none_left windows more later)))

whole_steps : (steps : List Step) (pending : List Entry) (windows more : List (List Entry)) → windows_of pending steps ≡ windows ++ more → AreNoneOrWhole steps pending windows
whole_steps [] [] windows more is = none_left windows more is
whole_steps [] (entry ∷ pending) windows more is = one_left entry pending windows more is
whole_steps (step ∷ steps) pending windows more is =
    ⊎_elim (λ none. inl none) (λ whole. inr (one_step step steps pending windows whole))
    (by (is_end step (pending ++ step.entries)) is (λ entries front e. whole_steps steps entries front more e))
  where
    by : (b : Bool) → (if b then window_with (pending ++ step.entries) ++ windows_of [] steps else windows_of (pending ++ step.entries) steps) ≡ windows ++ more
        → ((entries : List Entry) (front : List (List Entry)) → windows_of entries steps ≡ front ++ more → AreNoneOrWhole steps entries front)
        → AreNoneOrWhole steps (pending ++ step.entries) windows
    by true e rest = ended steps (pending ++ step.entries) windows more e (rest [])
    by false e rest = rest (pending ++ step.entries) windows e

-- the windows that are run are the first
up_to_are_first : (number : ℕ) (windows : List (List Entry)) → (rest : List (List Entry)) × (windows ≡ windows_up_to number windows ++ rest)
up_to_are_first number [] = ([], refl)
up_to_are_first number (window ∷ windows) = by (has_statement number window) (up_to_are_first number windows)
  where
    by : (b : Bool) → (rest : List (List Entry)) × (windows ≡ windows_up_to number windows ++ rest)
        → (rest : List (List Entry)) × (window ∷ windows ≡ (if b then window ∷ [] else window ∷ windows_up_to number windows) ++ rest)
    by true later = (windows, refl)
    by false (rest, is) = (rest, ap (λ ws. window ∷ ws) is)

run_are_first : (fault : Option ℕ) (windows : List (List Entry)) → (rest : List (List Entry)) × (windows ≡ windows_run fault windows ++ rest)
run_are_first None windows = ([], sym (append-nil windows))
run_are_first (Some number) windows = up_to_are_first number windows

-- ---- statements of a program, from one on

-- what an entry of a statement is
record IsEntryOf (number : ℕ) (entry : Entry) : Type 0 where
  statement : entry.statement ≡ number
  requests : IsRequestList entry.requests

-- what pieces ask for
pub record Asks : Type 0 where
  pub form : (write : Option ℕ) (reads : List ℕ) → IsRequestList (requests_for write reads)
  pub serves : (declared : Declared) (scalars : List ℤ) (number : ℕ) (does : Action) (p : List ℤ) → AreArrays declared.shapes declared.layouts → IsFit declared does → IsPositionOf does p
      → (piece : Pieced) × Contains (pieces_of declared scalars number does) piece × IsIn piece.positions p × Serve declared does p (requests_of piece)

-- an entry among these serves the statement at the position
abbrev AreServed : Declared → List Entry → ℕ → Action → List ℤ → Type 0
AreServed declared entries number does p = (entry : Entry) × Member entries entry × (entry.statement ≡ number) × Serve declared does p entry.requests

served_in_front : (declared : Declared) (front entries : List Entry) (number : ℕ) (does : Action) (p : List ℤ) → AreServed declared front number does p → AreServed declared (front ++ entries) number does p
served_in_front declared front entries number does p (entry, there, of, serves) = (entry, member_left front entries entry there, of, serves)

served_behind : (declared : Declared) (front entries : List Entry) (number : ℕ) (does : Action) (p : List ℤ) → AreServed declared entries number does p → AreServed declared (front ++ entries) number does p
served_behind declared front entries number does p (entry, there, of, serves) = (entry, member_right front entries entry there, of, serves)

module _ (laws : HasLaws) (asks : Asks) where
  entry_is : (stale : Staled) (number : ℕ) (does : Action) → AreArrays (declared_of stale).shapes stale.layouts → IsFit (declared_of stale) does → (entry : Entry)
      → Member (step_of stale number does).entries entry → IsEntryOf number entry
  entry_is stale number does arrays fit entry m =
      let from = member_image (entry_of pieces) (works_of stale [] number does) entry m in
      subst (IsEntryOf number) from.2 (record {
        statement = of_all (λ (piece : Pieced). piece.statement ≡ number) (works_of stale [] number does) from.0 (statements_are laws stale [] number does arrays fit) from.1;
        requests = asks.form from.0.write from.0.reads;
      })

  step_serves : (stale : Staled) (number : ℕ) (does : Action) (p : List ℤ) → AreArrays (declared_of stale).shapes stale.layouts → IsFit (declared_of stale) does → IsPositionOf does p
      → AreServed (declared_of stale) (step_of stale number does).entries number does p
  step_serves stale number does p arrays fit at =
      let found = asks.serves (declared_of stale) [] number does p arrays fit at in
      let fills = fills_before stale.layouts stale number does in
      let made = pieces_of (declared_of stale) [] number does in
      let here = member_map (entry_of pieces) (works_of stale [] number does) found.0 (member_right fills made found.0 (member_of made found.0 found.1)) in
      (entry_of pieces found.0, here, (entry_is stale number does arrays fit (entry_of pieces found.0) here).statement, found.3)

  -- where entries of a statement stand
  record StandsAmong (first count : ℕ) (entry : Entry) : Type 0 where
    place : ℕ
    within : place < count
    is : IsEntryOf (first + place) entry

  stands_among : (statements : List Statement) (stale : Staled) (first : ℕ) → AreArrays (declared_of stale).shapes stale.layouts → AreFit (declared_of stale) statements → (entry : Entry)
      → Member (added (steps_of stale first statements)) entry → StandsAmong first (length statements) entry
  stands_among [] stale first arrays fit entry m = absurd m
  stands_among (s ∷ statements) stale first arrays fit entry m =
      ⊎_elim
      (λ now. record {
        place = 0;
        within = omega arith;
        is = let same : first ≡ first + 0 = omega arith in
            subst (λ n. IsEntryOf n entry) same (entry_is stale first s.action arrays (All-head (λ (t : Statement). IsFit (declared_of stale) t.action) s statements fit) entry now);
      })
      (λ later. further (stands_among statements (stale_after stale s.action) (suc first) arrays (All-tail (λ (t : Statement). IsFit (declared_of stale) t.action) s statements fit) entry later))
      (member_cases (step_of stale first s.action).entries (added (steps_of (stale_after stale s.action) (suc first) statements)) entry m)
    where
      further : StandsAmong (suc first) (length statements) entry → StandsAmong first (suc (length statements)) entry
      further among = record {
        place = suc among.place;
        within = let within : among.place < length statements = among.within in omega arith;
        is = let same : suc first + among.place ≡ first + suc among.place = omega arith in subst (λ n. IsEntryOf n entry) same among.is;
      }

  -- their numbers never fall
  never_fall : (statements : List Statement) (stale : Staled) (first : ℕ) → AreArrays (declared_of stale).shapes stale.layouts → AreFit (declared_of stale) statements
      → AllPairs (λ (one other : Entry). one.statement ≤ other.statement) (added (steps_of stale first statements))
  never_fall [] stale first arrays fit = pairs_none (λ one other. one.statement ≤ other.statement)
  never_fall (s ∷ statements) stale first arrays fit =
      pairs_of_both (λ (one : Entry) (other : Entry). one.statement ≤ other.statement) (step_of stale first s.action).entries (added (steps_of (stale_after stale s.action) (suc first) statements))
      (all_equal first (step_of stale first s.action).entries (λ entry m. (now entry m).statement))
      (never_fall statements (stale_after stale s.action) (suc first) arrays rest)
      (λ one other m n.
      let first_is : one.statement ≡ first = (now one m).statement in
      let among = stands_among statements (stale_after stale s.action) (suc first) arrays rest other n in
      let later_is : other.statement ≡ suc first + among.place = among.is.statement in
      omega arith)
    where
      rest : AreFit (declared_of stale) statements
      rest = All-tail (λ (t : Statement). IsFit (declared_of stale) t.action) s statements fit

      now : (entry : Entry) → Member (step_of stale first s.action).entries entry → IsEntryOf first entry
      now entry m = entry_is stale first s.action arrays (All-head (λ (t : Statement). IsFit (declared_of stale) t.action) s statements fit) entry m

  -- and each position is served, up to the statement of an entry that is there
  serve_up_to : (statements : List Statement) (stale : Staled) (first : ℕ) (before after : List Step) → AreArrays (declared_of stale).shapes stale.layouts → AreFit (declared_of stale) statements
      → steps_of stale first statements ≡ before ++ after → (last : Entry) → Member (added before) last → (k : ℕ) (s : Statement) → first + k ≤ last.statement → slice_get statements k ≡ Some s
      → (p : List ℤ) → IsPositionOf s.action p → AreServed (declared_of stale) (added before) (first + k) s.action p
  serve_up_to [] stale first before after arrays fit is last there k s far at p here = absurd (cc)
  serve_up_to (t ∷ statements) stale first [] after arrays fit is last there k s far at p here = absurd there
  serve_up_to (t ∷ statements) stale first (b ∷ before) after arrays fit is last there zero s far at p here =
      let step : step_of stale first t.action ≡ b = cc in
      let same : t ≡ s = same_Some t s at in
      let serves : AreServed (declared_of stale) (step_of stale first t.action).entries first t.action p =
      step_serves stale first t.action p arrays (All-head (λ (u : Statement). IsFit (declared_of stale) u.action) t statements fit) (subst (λ (u : Statement). IsPositionOf u.action p) (sym same) here) in
      let number : first ≡ first + 0 = omega arith in
      subst (λ n. AreServed (declared_of stale) (b.entries ++ added before) n s.action p) number
      (served_in_front (declared_of stale) b.entries (added before) first s.action p
      (subst (λ (u : Statement). AreServed (declared_of stale) b.entries first u.action p) same
      (subst (λ (c : Step). AreServed (declared_of stale) c.entries first t.action p) step serves)))
  serve_up_to (t ∷ statements) stale first (b ∷ before) after arrays fit is last there (suc k) s far at p here =
      let step : step_of stale first t.action ≡ b = cc in
      let later : steps_of (stale_after stale t.action) (suc first) statements ≡ before ++ after = cc in
      let ahead : Member (added before) last =
      ⊎_elim
      (λ now.
      let number : last.statement ≡ first =
      (entry_is stale first t.action arrays (All-head (λ (u : Statement). IsFit (declared_of stale) u.action) t statements fit) last (subst (λ (c : Step). Member c.entries last) (sym step) now)).statement in
      absurd (omega arith))
      (λ behind. behind)
      (member_cases b.entries (added before) last there) in
      let up_to : suc first + k ≤ last.statement = omega arith in
      let number : suc first + k ≡ first + suc k = omega arith in
      subst (λ n. AreServed (declared_of stale) (b.entries ++ added before) n s.action p) number
      (served_behind (declared_of stale) b.entries (added before) (suc first + k) s.action p
      (serve_up_to statements (stale_after stale t.action) (suc first) before after arrays (All-tail (λ (u : Statement). IsFit (declared_of stale) u.action) t statements fit) later last ahead k s up_to at p here))

-- ---- the first windows of a program

module _ (laws : HasLaws) (asks : Asks) (program : Programmed) (sound : IsSound program) (windows : List (List Entry)) (first : AreFirst program windows) where
  abbrev stale : Staled
  stale = first.1.0

  abbrev steps : List Step
  steps = steps_of first.1.0 0 program.order

  declared_is : declared_of stale ≡ program.declared
  declared_is = first.1.1.declared

  arrays : AreArrays (declared_of stale).shapes stale.layouts
  arrays = subst (λ (d : Declared). AreArrays d.shapes d.layouts) (sym declared_is) sound.arrays

  fit : AreFit (declared_of stale) program.order
  fit = subst (λ (d : Declared). AreFit d program.order) (sym declared_is) sound.fit

  whole : HoldWhole steps [] windows
  whole =
      let run = run_are_first (first_to_fault program.declared 0 program.order (opening_world program.declared.shapes program.declared.scalars)) (windows_of [] steps) in
      ⊎_elim
      (λ none. record { before = []; after = steps; split = refl; entries = ap (λ (ws : List (List Entry)). entries_in ws) none })
      (λ some. some)
      (whole_steps steps [] windows (first.0 ++ run.0) (run.1 ∙ ap (λ (ws : List (List Entry)). ws ++ run.0) (sym first.1.2) ∙ append_assoc windows first.0 run.0))

  all_added : added steps ≡ added whole.before ++ added whole.after
  all_added = ap added whole.split ∙ flat_map-append (λ (step : Step). step.entries) whole.before whole.after

  among : (entry : Entry) → Member (entries_in windows) entry → StandsAmong laws asks 0 (length program.order) entry
  among entry m =
      stands_among laws asks program.order stale 0 arrays fit entry
      (subst (λ es. Member es entry) (sym all_added) (member_left (added whole.before) (added whole.after) entry (subst (λ es. Member es entry) whole.entries m)))

  pub are_executed : All (λ (entry : Entry). entry.statement < length program.order) (entries_in windows)
  are_executed = all_members (λ (entry : Entry). entry.statement < length program.order) (entries_in windows)
      (λ entry m. let found = among entry m in let statement : entry.statement ≡ 0 + found.place = found.is.statement in let within : found.place < length program.order = found.within in omega arith)

  pub ask_in_order : All (λ (entry : Entry). IsRequestList entry.requests) (entries_in windows)
  ask_in_order = all_members (λ (entry : Entry). IsRequestList entry.requests) (entries_in windows) (λ entry m. (among entry m).is.requests)

  pub rise : AllPairs (λ (one other : Entry). one.statement ≤ other.statement) (entries_in windows)
  rise =
      subst (AllPairs (λ (one other : Entry). one.statement ≤ other.statement)) (sym whole.entries)
      (pairs_in_front (λ (one other : Entry). one.statement ≤ other.statement) (added whole.before) (added whole.after)
      (subst (AllPairs (λ (one other : Entry). one.statement ≤ other.statement)) all_added (never_fall laws asks program.order stale 0 arrays fit)))

  pub all_served : (last : Entry) (number : ℕ) (s : Statement) (p : List ℤ) → Contains (entries_in windows) last → number ≤ last.statement → slice_get program.order number ≡ Some s → IsPositionOf s.action p
      → (entry : Entry) × Contains (entries_in windows) entry × (entry.statement ≡ number) × Serve program.declared s.action p entry.requests
  all_served last number s p there far at here =
      let found = serve_up_to laws asks program.order stale 0 whole.before whole.after arrays fit whole.split last
      (subst (λ es. Member es last) whole.entries (member_of (entries_in windows) last there)) number s (omega arith) at p here in
      let same : 0 + number ≡ number = omega arith in (
        found.0,
        contains_of (entries_in windows) found.0 (subst (λ es. Member es found.0) (sym whole.entries) found.1),
        found.2 ∙ same,
        subst (λ (d : Declared). Serve d s.action p found.0.requests) declared_is found.3,
      )
