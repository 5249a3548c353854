-- What an event that may come makes of the statuses, and what holds of them after each legal history.
use Rattle.std.proofs.Common.{◌≡◌, ◌≢◌, ◌+◌, ◌<◌, ◌≤◌, ℕ, zero, suc, true, false, List, [], ◌∷◌, ◌++◌, length, take, Option, Some, None, is_some, slice_get, refl, sym, ◌∙◌, ap, subst, arith, inl, inr, ◌⊎◌, ◌==◌}
use Rattle.std.proofs.lemmas.Bool.Decides.{eqb_tells}
use Rattle.std.proofs.Math.Seq.{take-length}
use Rattle.std.proofs.lemmas.List.Sums.{fold-append, sum_by-append}
use Rattle.pooma_machine.specs.declared.step.Request.{Request}
use Rattle.pooma_machine.specs.declared.step.Event.{Event}
use Rattle.pooma_machine.specs.declared.step.EventKind.{EventKind}
use Rattle.pooma_machine.specs.declared.step.EventKind.TheVariants as kind
use Rattle.pooma_machine.specs.declared.step.Status.{Status}
use Rattle.pooma_machine.specs.declared.step.Status.TheVariants as status
use Rattle.pooma_machine.specs.Steps.{next, status_after, status_of, issued, is_out, is_released, seat_of, event_of, NothingBlocks, MayCome, IsLegal}
use Rattle.pooma_law.specs.Histories.{WasDispatched}
use Rattle.pooma_law.proofs.Places.{take_further, take_past}

pub same_number : (j : ℕ) → (j == j) ≡ true
same_number j = elim (eqb_tells j j) [ inl t ↦ t.0 | inr n ↦ absurd (n.1 refl) ]

pub other_number : (i j : ℕ) → i ≢ j → (i == j) ≡ false
other_number i j ne = elim (eqb_tells i j) [ inl t ↦ absurd (ne t.1) | inr n ↦ n.0 ]

-- a further event changes the status of its own entry alone
pub status_own : (history : List Event) (kind : EventKind) (j seat : ℕ) → status_of (history ++ event_of kind j seat ∷ []) j ≡ next kind seat (status_of history j)
status_own history kind j seat = fold-append (status_after j) None history (event_of kind j seat ∷ []) ∙ rw (same_number j) refl

pub status_other : (history : List Event) (kind : EventKind) (i seat j : ℕ) → i ≢ j → status_of (history ++ event_of kind i seat ∷ []) j ≡ status_of history j
status_other history kind i seat j ne = fold-append (status_after j) None history (event_of kind i seat ∷ []) ∙ rw (other_number i j ne) refl

-- where an entry stands before an event of its own
abbrev pub StandsBefore : EventKind → Option Status → Type 0
StandsBefore kind.Request old = old ≡ None
StandsBefore kind.Dispatch old = old ≡ Some status.Waiting
StandsBefore kind.Release old = is_out old ≡ true

-- the entry has the seat of a dispatch
abbrev pub HasSeat : List Event → ℕ → Type 0
HasSeat history j = is_some (seat_of (status_of history j)) ≡ true

-- so it is where it is out or was released, and nowhere else
pub out_has_seat : (now : Option Status) → is_out now ≡ true → is_some (seat_of now) ≡ true
out_has_seat None out = absurd (cc out)
out_has_seat (Some status.Waiting) out = absurd (cc out)
out_has_seat (Some (status.Out seat)) out = refl
out_has_seat (Some (status.Released seat)) out = absurd (cc out)

pub released_has_seat : (now : Option Status) → is_released now ≡ true → is_some (seat_of now) ≡ true
released_has_seat None released = absurd (cc released)
released_has_seat (Some status.Waiting) released = absurd (cc released)
released_has_seat (Some (status.Out seat)) released = absurd (cc released)
released_has_seat (Some (status.Released seat)) released = refl

pub dispatched_has_seat : (history : List Event) (j : ℕ) → WasDispatched history j → HasSeat history j
dispatched_has_seat history j (inl out) = out_has_seat (status_of history j) out
dispatched_has_seat history j (inr released) = released_has_seat (status_of history j) released

pub seat_of_dispatched : (history : List Event) (j : ℕ) → WasDispatched history j → (seat : ℕ) × (seat_of (status_of history j) ≡ Some seat)
seat_of_dispatched history j dispatched = by (seat_of (status_of history j)) refl (dispatched_has_seat history j dispatched)
  where
    by : (seat : Option ℕ) → seat_of (status_of history j) ≡ seat → is_some (seat_of (status_of history j)) ≡ true → (seat : ℕ) × (seat_of (status_of history j) ≡ Some seat)
    by None e some = absurd (cc (sym (ap is_some e) ∙ some))
    by (Some seat) e some = (seat, e)

pub dispatched_of_seat : (now : Option Status) (seat : ℕ) → seat_of now ≡ Some seat → (is_out now ≡ true) ⊎ (is_released now ≡ true)
dispatched_of_seat None seat e = absurd (cc e)
dispatched_of_seat (Some status.Waiting) seat e = absurd (cc e)
dispatched_of_seat (Some (status.Out at)) seat e = inl refl
dispatched_of_seat (Some (status.Released at)) seat e = inr refl

-- what the statuses alone tell of which event may come
pub record IsSteady (plan : List (List Request)) (history : List Event) : Type 0 where
  -- entries from the number issued on have no status, and no entry past the plan was issued
  pub fresh : (j : ℕ) → issued history ≤ j → status_of history j ≡ None
  pub within : issued history ≤ length plan
  -- nothing blocks an entry that was dispatched
  pub passed : (j : ℕ) → HasSeat history j → NothingBlocks plan history j

pub stands_before : (plan : List (List Request)) (history : List Event) (kind : EventKind) (j seat : ℕ) → IsSteady plan history → MayCome plan history (event_of kind j seat) → StandsBefore kind (status_of history j)
stands_before plan history kind.Request j seat steady may = steady.fresh j (let e : j ≡ issued history = may.1 in omega arith)
stands_before plan history kind.Dispatch j seat steady may = may.1.0
stands_before plan history kind.Release j seat steady may = may.1

-- an entry that is out was not released before its release, and is after it
pub out_is_released : (seat : ℕ) (old : Option Status) → is_out old ≡ true → (is_released (next kind.Release seat old) ≡ true) × (is_released old ≡ false)
out_is_released seat None out = absurd (cc out)
out_is_released seat (Some status.Waiting) out = absurd (cc out)
out_is_released seat (Some (status.Out at)) out = (refl, refl)
out_is_released seat (Some (status.Released at)) out = absurd (cc out)

-- an entry that was released has no further event, and one that was dispatched keeps its seat
pub released_is_last : (kind : EventKind) (old : Option Status) → StandsBefore kind old → is_released old ≡ true → ⊥
released_is_last kind.Request old stands released = absurd (cc (sym (ap is_released stands) ∙ released))
released_is_last kind.Dispatch old stands released = absurd (cc (sym (ap is_released stands) ∙ released))
released_is_last kind.Release old stands released = absurd (cc (sym released ∙ (out_is_released 0 old stands).1))

seat_stays_next : (kind : EventKind) (seat : ℕ) (old : Option Status) → StandsBefore kind old → (at : ℕ) → seat_of old ≡ Some at → seat_of (next kind seat old) ≡ Some at
seat_stays_next kind.Request seat old stands at e = absurd (cc (sym (ap seat_of stands) ∙ e))
seat_stays_next kind.Dispatch seat old stands at e = absurd (cc (sym (ap seat_of stands) ∙ e))
seat_stays_next kind.Release seat None stands at e = absurd (cc stands)
seat_stays_next kind.Release seat (Some status.Waiting) stands at e = absurd (cc stands)
seat_stays_next kind.Release seat (Some (status.Out s)) stands at e = e
seat_stays_next kind.Release seat (Some (status.Released s)) stands at e = absurd (cc stands)

module _ (plan : List (List Request)) (history : List Event) (kind : EventKind) (j seat : ℕ) (steady : IsSteady plan history) (may : MayCome plan history (event_of kind j seat)) where
  -- what was released stays so
  pub released_stays : (i : ℕ) → is_released (status_of history i) ≡ true → is_released (status_of (history ++ event_of kind j seat ∷ []) i) ≡ true
  released_stays i released =
      elim (eqb_tells j i) [
        | inl t ↦ absurd (released_is_last kind (status_of history j) (stands_before plan history kind j seat steady may) (ap (λ k. is_released (status_of history k)) t.1 ∙ released))
        | inr n ↦ ap is_released (status_other history kind j seat i n.1) ∙ released
      ]

  -- an entry keeps the seat of its dispatch
  pub seat_stays : (i at : ℕ) → seat_of (status_of history i) ≡ Some at → seat_of (status_of (history ++ event_of kind j seat ∷ []) i) ≡ Some at
  seat_stays i at dispatched =
      elim (eqb_tells j i) [
        | inl t ↦
            subst (λ k. seat_of (status_of (history ++ event_of kind j seat ∷ []) k) ≡ Some at) t.1
            (ap seat_of (status_own history kind j seat)
            ∙ seat_stays_next kind seat (status_of history j) (stands_before plan history kind j seat steady may) at (ap (λ k. seat_of (status_of history k)) t.1 ∙ dispatched))
        | inr n ↦ ap seat_of (status_other history kind j seat i n.1) ∙ dispatched
      ]

  unblocked_stays : (i : ℕ) → NothingBlocks plan history i → NothingBlocks plan (history ++ event_of kind j seat ∷ []) i
  unblocked_stays i unblocked h earlier conflict = released_stays h (unblocked h earlier conflict)

-- before the first event
pub steady_none : (plan : List (List Request)) → IsSteady plan []
steady_none plan = record { fresh = λ j h. refl; within = omega arith; passed = λ j never. absurd (cc never) }

module _ (plan : List (List Request)) (history : List Event) (act : EventKind) (j seat : ℕ) (steady : IsSteady plan history) (may : MayCome plan history (event_of act j seat)) where
  others_fresh : (i : ℕ) → j ≢ i → issued history ≤ i → status_of (history ++ event_of act j seat ∷ []) i ≡ None
  others_fresh i ne late = status_other history act j seat i ne ∙ steady.fresh i late

  others_passed : (i : ℕ) → j ≢ i → HasSeat (history ++ event_of act j seat ∷ []) i → NothingBlocks plan (history ++ event_of act j seat ∷ []) i
  others_passed i ne dispatched =
      unblocked_stays plan history act j seat steady may i (steady.passed i (ap (λ s. is_some (seat_of s)) (sym (status_other history act j seat i ne)) ∙ dispatched))

  own_passed : NothingBlocks plan history j → (i : ℕ) → HasSeat (history ++ event_of act j seat ∷ []) i → NothingBlocks plan (history ++ event_of act j seat ∷ []) i
  own_passed unblocked i dispatched =
      elim (eqb_tells j i) [
        | inl t ↦ subst (NothingBlocks plan (history ++ event_of act j seat ∷ [])) t.1 (unblocked_stays plan history act j seat steady may j unblocked)
        | inr n ↦ others_passed i n.1 dispatched
      ]

  -- an event of an entry that has a status already issues nothing
  known_steady : issued (event_of act j seat ∷ []) ≡ 0 → (status_of history j ≡ None → ⊥) → NothingBlocks plan history j → IsSteady plan (history ++ event_of act j seat ∷ [])
  known_steady none known unblocked =
      let more : issued (history ++ event_of act j seat ∷ []) ≡ issued history + issued (event_of act j seat ∷ []) = sum_by-append _ history (event_of act j seat ∷ []) in
      let within = steady.within in
      record {
        fresh = λ i late.
            let early : issued history ≤ i = omega arith in
            others_fresh i (λ e. known (steady.fresh j (rw e early))) early;
        within = omega arith;
        passed = own_passed unblocked;
      }

-- after one event more
pub steady_more : (plan : List (List Request)) (history : List Event) (act : EventKind) (j seat : ℕ) → IsSteady plan history → MayCome plan history (event_of act j seat)
    → IsSteady plan (history ++ event_of act j seat ∷ [])
steady_more plan history kind.Request j seat steady may =
    let more : issued (history ++ event_of kind.Request j seat ∷ []) ≡ issued history + 1 = sum_by-append _ history (event_of kind.Request j seat ∷ []) in
    let next : j ≡ issued history = may.1 in
    let within : j < length plan = may.0 in
    record {
      fresh = λ i late.
          let ne : j ≢ i = omega arith in
          others_fresh plan history kind.Request j seat steady may i ne (omega arith);
      within = omega arith;
      passed = λ i dispatched.
          elim (eqb_tells j i) [
            | inl t ↦ absurd (cc (sym (ap (λ s. is_some (seat_of s)) (status_own history kind.Request j seat)) ∙ subst (HasSeat (history ++ event_of kind.Request j seat ∷ [])) (sym t.1) dispatched))
            | inr n ↦ others_passed plan history kind.Request j seat steady may i n.1 dispatched
          ];
    }
steady_more plan history kind.Dispatch j seat steady may =
    known_steady plan history kind.Dispatch j seat steady may refl (λ none. absurd (cc (sym none ∙ may.1.0))) may.1.1
steady_more plan history kind.Release j seat steady may =
    known_steady plan history kind.Release j seat steady may refl (λ none. absurd (cc (sym (ap is_out none) ∙ may.1))) (steady.passed j (out_has_seat (status_of history j) may.1))

-- what holds before the first event, and after each event that may come, holds after each legal history
pub along : (plan : List (List Request)) (P : List Event → Type 0) → P [] → ((history : List Event) (event : Event) → P history → MayCome plan history event → P (history ++ event ∷ []))
    → (history : List Event) → IsLegal plan history → P history
along plan P first step history legal = subst P (take-length history) (at (length history))
  where
    by : (k : ℕ) → P (take k history) → (event : Option Event) → slice_get history k ≡ event → P (take (suc k) history)
    by k before None there = subst P (sym (take_past history k there)) before
    by k before (Some event) there = subst P (sym (take_further history k event there)) (step (take k history) event before (legal k event there))

    at : (k : ℕ) → P (take k history)
    at zero = first
    at (suc k) = by k (at k) (slice_get history k) refl

pub steady_of : (plan : List (List Request)) (history : List Event) → IsLegal plan history → IsSteady plan history
steady_of plan history legal =
    along plan (IsSteady plan) (steady_none plan) (λ before event steady may. steady_more plan before event.kind event.entry event.seat steady may) history legal
