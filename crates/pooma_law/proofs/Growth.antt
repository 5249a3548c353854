-- Legal histories of a plan, as the history or the plan grows.
use Rattle.std.proofs.Common.{◌≡◌, ◌+◌, ◌<◌, ◌≤◌, ℕ, suc, true, List, [], ◌∷◌, ◌++◌, length, take, drop, Some, None, slice_get, get_or-take, sym, ◌∙◌, ap, subst, arith, inl, inr, length-append, take-append-drop, append_assoc, append-nil}
use Rattle.std.proofs.lemmas.Bool.Decides.{leb_tells}
use Rattle.std.proofs.lemmas.List.{get_or_append_left, take-append-le, length-take-le}
use Rattle.std.proofs.lemmas.List.Sums.{sum_by-append}
use Rattle.std.proofs.lemmas.Option.{slice_get_within}
use Rattle.std.proofs.Math.Seq.{take-append_seam}
use Rattle.pooma_machine.specs.declared.step.Request.{Request}
use Rattle.pooma_machine.specs.declared.step.Event.{Event}
use Rattle.pooma_machine.specs.declared.step.EventKind.{EventKind}
use Rattle.pooma_machine.specs.declared.step.EventKind.TheVariants as kind
use Rattle.pooma_machine.specs.Steps.{requests_of, Conflict, status_of, issued, is_out, is_released, seat_of, event_of, Comes, MayCome, IsLegal}
use Rattle.pooma_law.proofs.Places.{get_left, get_middle, take_further}
use Rattle.pooma_law.proofs.Statuses.{IsSteady, steady_of, seat_stays, released_stays}

-- a front of a legal history is legal, and the event behind it may come
pub legal_front : (plan : List (List Request)) (history later : List Event) → IsLegal plan (history ++ later) → IsLegal plan history
legal_front plan history later legal k event at =
    let within : k < length history = slice_get_within history k event at in
    let front : take k (history ++ later) ≡ take k history = take-append-le k history later (omega arith) in
    subst (λ h. MayCome plan h event) front (legal k event (get_left history later k within ∙ at))

pub legal_comes : (plan : List (List Request)) (history : List Event) (event : Event) (later : List Event) → IsLegal plan (history ++ event ∷ later) → MayCome plan history event
legal_comes plan history event later legal =
    subst (λ h. MayCome plan h event) (take-append_seam history (event ∷ later)) (legal (length history) event (get_middle history event later))

-- a legal history and an event that may come after it
pub legal_next : (plan : List (List Request)) (history : List Event) (event : Event) → IsLegal plan history → MayCome plan history event → IsLegal plan (history ++ event ∷ [])
legal_next plan history event legal may k found at =
    elim (leb_tells (length history) k) [
      | inl t ↦
          let within : k < length (history ++ event ∷ []) = slice_get_within (history ++ event ∷ []) k found at in
          let here : length history ≡ k = omega (arith, t.1, length-append history (event ∷ [])) in
          let both : Some event ≡ Some found = sym (get_middle history event []) ∙ (ap (slice_get (history ++ event ∷ [])) here ∙ at) in
          let same : event ≡ found = cc in
          subst (λ i. MayCome plan (take i (history ++ event ∷ [])) found) here
          (subst (λ h. MayCome plan h found) (sym (take-append_seam history (event ∷ []))) (subst (MayCome plan history) same may))
      | inr f ↦
          let old : slice_get history k ≡ Some found = sym (get_left history (event ∷ []) k f.1) ∙ at in
          subst (λ h. MayCome plan h found) (sym (take-append-le k history (event ∷ []) (omega (arith, f.1)))) (legal k found old)
    ]

-- a history whose entries ask for the same in another plan is legal for that one too
module _ (one other : List (List Request)) (n : ℕ) (within : n ≤ length other) (alike : (i : ℕ) → i < n → requests_of other i ≡ requests_of one i) where
  conflict_alike : (i j : ℕ) → i < n → j < n → Conflict other i j → Conflict one i j
  conflict_alike i j hi hj (object, over) = (
    object,
    record {
      one = over.one;
      other = over.other;
      asks_one = rw (alike i hi) at over.asks_one;
      asks_other = rw (alike j hj) at over.asks_other;
      conflicting = over.conflicting;
    },
  )

  comes_alike : (history : List Event) (act : EventKind) (j : ℕ) → j < n → Comes one history act j → Comes other history act j
  comes_alike history kind.Request j h comes = comes
  comes_alike history kind.Dispatch j h comes = (comes.0, λ i earlier conflict. comes.1 i earlier (conflict_alike i j (omega arith) h conflict))
  comes_alike history kind.Release j h comes = comes

  legal_alike : (history : List Event) → ((k : ℕ) (event : Event) → slice_get history k ≡ Some event → event.entry < n) → IsLegal one history → IsLegal other history
  legal_alike history entries legal k event at =
      let entry : event.entry < n = entries k event at in
      (omega arith, comes_alike (take k history) event.kind event.entry entry (legal k event at).1)

pub legal_longer : (plan more : List (List Request)) (history : List Event) → IsLegal plan history → IsLegal (plan ++ more) history
legal_longer plan more history legal =
    legal_alike plan (plan ++ more) (length plan) (omega (arith, length-append plan more)) (λ i h. get_or_append_left plan more [] i h) history (λ k event at. (legal k event at).0) legal

-- an entry with an event was issued by then
known_issued : (plan : List (List Request)) (history : List Event) (j : ℕ) → IsSteady plan history → (status_of history j ≡ None → ⊥) → j < issued history
known_issued plan history j steady known =
    elim (leb_tells (issued history) j) [
      | inl t ↦ absurd (known (steady.fresh j t.1))
      | inr f ↦ f.1
    ]

issued_now : (plan : List (List Request)) (history : List Event) (act : EventKind) (j seat : ℕ) → IsSteady plan history → MayCome plan history (event_of act j seat) → j < issued (history ++ event_of act j seat ∷ [])
issued_now plan history kind.Request j seat steady may =
    let more : issued (history ++ event_of kind.Request j seat ∷ []) ≡ issued history + 1 = sum_by-append _ history (event_of kind.Request j seat ∷ []) in
    let next : j ≡ issued history = may.1 in
    omega arith
issued_now plan history kind.Dispatch j seat steady may =
    let more : issued (history ++ event_of kind.Dispatch j seat ∷ []) ≡ issued history + 0 = sum_by-append _ history (event_of kind.Dispatch j seat ∷ []) in
    let before : j < issued history = known_issued plan history j steady (λ none. absurd (cc (sym none ∙ may.1.0))) in
    omega arith
issued_now plan history kind.Release j seat steady may =
    let more : issued (history ++ event_of kind.Release j seat ∷ []) ≡ issued history + 0 = sum_by-append _ history (event_of kind.Release j seat ∷ []) in
    let before : j < issued history = known_issued plan history j steady (λ none. absurd (cc (sym (ap is_out none) ∙ may.1))) in
    omega arith

pub entries_issued : (plan : List (List Request)) (history : List Event) → IsLegal plan history → (k : ℕ) (event : Event) → slice_get history k ≡ Some event → event.entry < issued history
entries_issued plan history legal k event at =
    let front = take k history in
    let here : take (suc k) history ≡ front ++ event ∷ [] = take_further history k event at in
    let whole : history ≡ (front ++ event ∷ []) ++ drop (suc k) history = sym (take-append-drop (suc k) history) ∙ ap (λ h. h ++ drop (suc k) history) here in
    let split : issued ((front ++ event ∷ []) ++ drop (suc k) history) ≡ issued (front ++ event ∷ []) + issued (drop (suc k) history) = sum_by-append _ (front ++ event ∷ []) (drop (suc k) history) in
    let steady : IsSteady plan front = steady_of plan front (legal_front plan front (drop k history) (subst (IsLegal plan) (sym (take-append-drop k history)) legal)) in
    let now : event.entry < issued (front ++ event ∷ []) = issued_now plan front event.kind event.entry event.seat steady (legal k event at) in
    omega (arith, ap issued whole)

-- a history is legal for the entries that it issued alone
pub legal_issued : (plan : List (List Request)) (history : List Event) → IsLegal plan history → IsLegal (take (issued history) plan) history
legal_issued plan history legal =
    let within = (steady_of plan history legal).within in
    legal_alike plan (take (issued history) plan) (issued history) (omega (arith, length-take-le (issued history) plan within)) (λ i h. get_or-take (issued history) plan i [] h) history (entries_issued plan history legal) legal

-- an entry keeps its seat, and stays released, whatever comes later
module _ (plan : List (List Request)) (P : List Event → Type 0) (step : (history : List Event) (event : Event) → IsSteady plan history → MayCome plan history event → P history → P (history ++ event ∷ [])) where
  pub stays : (history later : List Event) → IsLegal plan (history ++ later) → P history → P (history ++ later)
  stays history [] legal now = subst P (sym (append-nil history)) now
  stays history (event ∷ later) legal now =
      let whole : (history ++ event ∷ []) ++ later ≡ history ++ event ∷ later = append_assoc history (event ∷ []) later in
      let steady = steady_of plan history (legal_front plan history (event ∷ later) legal) in
      subst P whole (stays (history ++ event ∷ []) later (subst (IsLegal plan) (sym whole) legal) (step history event steady (legal_comes plan history event later legal) now))

pub seat_kept : (plan : List (List Request)) (history later : List Event) (j seat : ℕ) → IsLegal plan (history ++ later) → seat_of (status_of history j) ≡ Some seat → seat_of (status_of (history ++ later) j) ≡ Some seat
seat_kept plan history later j seat legal =
    stays plan (λ h. seat_of (status_of h j) ≡ Some seat) (λ before event steady may now. seat_stays plan before event.kind event.entry event.seat steady may j seat now) history later legal

pub released_kept : (plan : List (List Request)) (history later : List Event) (j : ℕ) → IsLegal plan (history ++ later) → is_released (status_of history j) ≡ true → is_released (status_of (history ++ later) j) ≡ true
released_kept plan history later j legal =
    stays plan (λ h. is_released (status_of h j) ≡ true) (λ before event steady may now. released_stays plan before event.kind event.entry event.seat steady may j now) history later legal
