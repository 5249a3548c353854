-- A legal history tells each status by the events that stand in it, each of them once.
use Rattle.std.proofs.Common.{◌≡◌, ◌≢◌, ◌↔◌, ◌+◌, ◌<◌, ℕ, true, List, [], ◌∷◌, ◌++◌, length, take, drop, Option, Some, None, is_some, slice_get, Contains, refl, sym, ◌∙◌, ap, subst, arith, inl, inr, take-append-drop}
use Rattle.std.proofs.lemmas.Bool.Decides.{eqb_tells, leb_tells}
use Rattle.std.proofs.lemmas.List.{length-take-le}
use Rattle.std.proofs.lemmas.List.Elements.{Contains-push, Contains-push_cases, Contains-append_left}
use Rattle.std.proofs.lemmas.List.Sums.{sum_by-append}
use Rattle.std.proofs.lemmas.Option.{slice_get_within, slice_get-get_or, get_or_from_slice_get}
use Rattle.pooma_machine.specs.declared.step.Request.{Request}
use Rattle.pooma_machine.specs.declared.step.Event.{Event}
use Rattle.pooma_machine.specs.declared.step.EventKind.{EventKind}
use Rattle.pooma_machine.specs.declared.step.EventKind.TheVariants as kind
use Rattle.pooma_machine.specs.declared.step.Status.{Status}
use Rattle.pooma_machine.specs.declared.step.Status.TheVariants as status
use Rattle.pooma_machine.specs.Steps.{next, status_of, issued, is_out, is_released, seat_of, event_of, MayCome, IsLegal}
use Rattle.pooma_law.proofs.Places.{get_left}
use Rattle.pooma_law.proofs.Growth.{legal_front, entries_issued}
use Rattle.pooma_law.proofs.Statuses.{dispatched_of_seat, out_is_released, released_is_last, StandsBefore, stands_before, IsSteady, steady_of, steady_none, steady_more, along, status_own, status_other, seat_stays, released_stays}

-- the same, with what is known of the statuses before each event
pub along_steady : (plan : List (List Request)) (P : List Event → Type 0) → P [] → ((history : List Event) (event : Event) → IsSteady plan history → MayCome plan history event → P history → P (history ++ event ∷ []))
    → (history : List Event) → IsLegal plan history → P history
along_steady plan P first step history legal =
    (along plan (λ h. IsSteady plan h × P h) (steady_none plan, first)
    (λ before event now may. (steady_more plan before event.kind event.entry event.seat now.0 may, step before event now.0 may now.1)) history legal).1

-- an entry has a status exactly where it was issued
own_known : (act : EventKind) (seat : ℕ) (old : Option Status) → StandsBefore act old → is_some (next act seat old) ≡ true
own_known kind.Request seat old stands = refl
own_known kind.Dispatch seat old stands = refl
own_known kind.Release seat None stands = absurd (cc stands)
own_known kind.Release seat (Some status.Waiting) stands = refl
own_known kind.Release seat (Some (status.Out at)) stands = refl
own_known kind.Release seat (Some (status.Released at)) stands = refl

others_issued : (plan : List (List Request)) (history : List Event) (act : EventKind) (i seat j : ℕ) → MayCome plan history (event_of act i seat) → i ≢ j → j < issued (history ++ event_of act i seat ∷ []) → j < issued history
others_issued plan history kind.Request i seat j may ne h =
    let more : issued (history ++ event_of kind.Request i seat ∷ []) ≡ issued history + 1 = sum_by-append _ history (event_of kind.Request i seat ∷ []) in
    let now : i ≡ issued history = may.1 in
    omega arith
others_issued plan history kind.Dispatch i seat j may ne h =
    let more : issued (history ++ event_of kind.Dispatch i seat ∷ []) ≡ issued history + 0 = sum_by-append _ history (event_of kind.Dispatch i seat ∷ []) in
    omega arith
others_issued plan history kind.Release i seat j may ne h =
    let more : issued (history ++ event_of kind.Release i seat ∷ []) ≡ issued history + 0 = sum_by-append _ history (event_of kind.Release i seat ∷ []) in
    omega arith

issued_known : (plan : List (List Request)) (history : List Event) → IsLegal plan history → (j : ℕ) → j < issued history → is_some (status_of history j) ≡ true
issued_known plan = along_steady plan (λ h. (j : ℕ) → j < issued h → is_some (status_of h j) ≡ true) (λ j h. absurd (omega arith)) step
  where
    step : (history : List Event) (event : Event) → IsSteady plan history → MayCome plan history event → ((j : ℕ) → j < issued history → is_some (status_of history j) ≡ true) → (j : ℕ) → j < issued (history ++ event ∷ [])
        → is_some (status_of (history ++ event ∷ []) j) ≡ true
    step history event steady may old j h =
        elim (eqb_tells event.entry j) [
          | inl t ↦
              subst (λ k. is_some (status_of (history ++ event ∷ []) k) ≡ true) t.1
              (ap is_some (status_own history event.kind event.entry event.seat)
              ∙ own_known event.kind event.seat (status_of history event.entry) (stands_before plan history event.kind event.entry event.seat steady may))
          | inr n ↦
              ap is_some (status_other history event.kind event.entry event.seat j n.1)
              ∙ old j (others_issued plan history event.kind event.entry event.seat j may n.1 h)
        ]

pub issued_is_known : (plan : List (List Request)) (history : List Event) → IsLegal plan history → (j : ℕ) → (is_some (status_of history j) ≡ true) ↔ (j < issued history)
issued_is_known plan history legal j = (known, issued_known plan history legal j)
  where
    known : is_some (status_of history j) ≡ true → j < issued history
    known some =
        elim (leb_tells (issued history) j) [
          | inl t ↦ absurd (cc (sym (ap is_some ((steady_of plan history legal).fresh j t.1)) ∙ some))
          | inr f ↦ f.1
        ]

-- an entry is out or was released exactly where its dispatch stands in the history
seat_told : (plan : List (List Request)) (j seat : ℕ) (history : List Event) → IsLegal plan history → seat_of (status_of history j) ≡ Some seat → Contains history (event_of kind.Dispatch j seat)
seat_told plan j seat = along_steady plan (λ h. seat_of (status_of h j) ≡ Some seat → Contains h (event_of kind.Dispatch j seat)) (λ none. absurd (cc none)) step
  where
    own : (history : List Event) (act : EventKind) (at : ℕ) (old : Option Status) → (seat_of old ≡ Some seat → Contains history (event_of kind.Dispatch j seat)) → seat_of (next act at old) ≡ Some seat
        → Contains (history ++ event_of act j at ∷ []) (event_of kind.Dispatch j seat)
    own history kind.Request at old before e = absurd (cc e)
    own history kind.Dispatch at old before e =
        let same : at ≡ seat = cc in
        subst (λ s. Contains (history ++ event_of kind.Dispatch j s ∷ []) (event_of kind.Dispatch j seat)) (sym same) (Contains-push history (event_of kind.Dispatch j seat))
    own history kind.Release at None before e = absurd (cc e)
    own history kind.Release at (Some status.Waiting) before e = absurd (cc e)
    own history kind.Release at (Some (status.Out s)) before e = Contains-append_left history (event_of kind.Release j at ∷ []) (event_of kind.Dispatch j seat) (before e)
    own history kind.Release at (Some (status.Released s)) before e = Contains-append_left history (event_of kind.Release j at ∷ []) (event_of kind.Dispatch j seat) (before e)

    step : (history : List Event) (event : Event) → IsSteady plan history → MayCome plan history event → (seat_of (status_of history j) ≡ Some seat → Contains history (event_of kind.Dispatch j seat))
        → seat_of (status_of (history ++ event ∷ []) j) ≡ Some seat → Contains (history ++ event ∷ []) (event_of kind.Dispatch j seat)
    step history event steady may before e =
        elim (eqb_tells event.entry j) [
          | inl t ↦
              subst (λ i. Contains (history ++ event_of event.kind i event.seat ∷ []) (event_of kind.Dispatch j seat)) (sym t.1)
              (own history event.kind event.seat (status_of history j) before (sym (ap seat_of (status_own history event.kind j event.seat)) ∙ subst (λ i. seat_of (status_of (history ++ event_of event.kind i event.seat ∷ []) j) ≡ Some seat) t.1 e))
          | inr n ↦ Contains-append_left history (event ∷ []) (event_of kind.Dispatch j seat) (before (sym (ap seat_of (status_other history event.kind event.entry event.seat j n.1)) ∙ e))
        ]

told_seat : (plan : List (List Request)) (j seat : ℕ) (history : List Event) → IsLegal plan history → Contains history (event_of kind.Dispatch j seat) → seat_of (status_of history j) ≡ Some seat
told_seat plan j seat = along_steady plan (λ h. Contains h (event_of kind.Dispatch j seat) → seat_of (status_of h j) ≡ Some seat) (λ none. let never = none.1 in absurd (omega arith)) step
  where
    step : (history : List Event) (event : Event) → IsSteady plan history → MayCome plan history event → (Contains history (event_of kind.Dispatch j seat) → seat_of (status_of history j) ≡ Some seat)
        → Contains (history ++ event ∷ []) (event_of kind.Dispatch j seat) → seat_of (status_of (history ++ event ∷ []) j) ≡ Some seat
    step history event steady may before told =
        elim (Contains-push_cases history event (event_of kind.Dispatch j seat) told) [
          | inl old ↦ seat_stays plan history event.kind event.entry event.seat steady may j seat (before old)
          | inr now ↦ subst (λ e. seat_of (status_of (history ++ e ∷ []) j) ≡ Some seat) (sym now) (ap seat_of (status_own history kind.Dispatch j seat))
        ]

pub dispatched_is_told : (plan : List (List Request)) (history : List Event) → IsLegal plan history → (j seat : ℕ) → (seat_of (status_of history j) ≡ Some seat) ↔ Contains history (event_of kind.Dispatch j seat)
dispatched_is_told plan history legal j seat = (seat_told plan j seat history legal, told_seat plan j seat history legal)

-- an entry was released exactly where its release stands in the history
release_told : (plan : List (List Request)) (j : ℕ) (history : List Event) → IsLegal plan history → is_released (status_of history j) ≡ true → (seat : ℕ) × Contains history (event_of kind.Release j seat)
release_told plan j = along_steady plan (λ h. is_released (status_of h j) ≡ true → (seat : ℕ) × Contains h (event_of kind.Release j seat)) (λ none. absurd (cc none)) step
  where
    own : (history : List Event) (act : EventKind) (at : ℕ) (old : Option Status) → is_released (next act at old) ≡ true → (seat : ℕ) × Contains (history ++ event_of act j at ∷ []) (event_of kind.Release j seat)
    own history kind.Request at old e = absurd (cc e)
    own history kind.Dispatch at old e = absurd (cc e)
    own history kind.Release at old e = (at, Contains-push history (event_of kind.Release j at))

    step : (history : List Event) (event : Event) → IsSteady plan history → MayCome plan history event → (is_released (status_of history j) ≡ true → (seat : ℕ) × Contains history (event_of kind.Release j seat))
        → is_released (status_of (history ++ event ∷ []) j) ≡ true → (seat : ℕ) × Contains (history ++ event ∷ []) (event_of kind.Release j seat)
    step history event steady may before e =
        elim (eqb_tells event.entry j) [
          | inl t ↦
              subst (λ i. (seat : ℕ) × Contains (history ++ event_of event.kind i event.seat ∷ []) (event_of kind.Release j seat)) (sym t.1)
              (own history event.kind event.seat (status_of history j) (sym (ap is_released (status_own history event.kind j event.seat)) ∙ subst (λ i. is_released (status_of (history ++ event_of event.kind i event.seat ∷ []) j) ≡ true) t.1 e))
          | inr n ↦
              let old = before (sym (ap is_released (status_other history event.kind event.entry event.seat j n.1)) ∙ e) in
              (old.0, Contains-append_left history (event ∷ []) (event_of kind.Release j old.0) old.1)
        ]

told_release : (plan : List (List Request)) (j seat : ℕ) (history : List Event) → IsLegal plan history → Contains history (event_of kind.Release j seat) → is_released (status_of history j) ≡ true
told_release plan j seat = along_steady plan (λ h. Contains h (event_of kind.Release j seat) → is_released (status_of h j) ≡ true) (λ none. let never = none.1 in absurd (omega arith)) step
  where
    step : (history : List Event) (event : Event) → IsSteady plan history → MayCome plan history event → (Contains history (event_of kind.Release j seat) → is_released (status_of history j) ≡ true)
        → Contains (history ++ event ∷ []) (event_of kind.Release j seat) → is_released (status_of (history ++ event ∷ []) j) ≡ true
    step history event steady may before told =
        elim (Contains-push_cases history event (event_of kind.Release j seat) told) [
          | inl old ↦ released_stays plan history event.kind event.entry event.seat steady may j (before old)
          | inr now ↦
              subst (λ e. is_released (status_of (history ++ e ∷ []) j) ≡ true) (sym now)
              (ap is_released (status_own history kind.Release j seat) ∙ (out_is_released seat (status_of history j) (subst (MayCome plan history) now may).1).0)
        ]

pub released_is_told : (plan : List (List Request)) (history : List Event) → IsLegal plan history → (j : ℕ) → (is_released (status_of history j) ≡ true) ↔ ((seat : ℕ) × Contains history (event_of kind.Release j seat))
released_is_told plan history legal j = (release_told plan j history legal, λ told. told_release plan j told.0 history legal told.1)

-- an entry whose dispatch stands in the history and no release is out
pub dispatched_is_out : (plan : List (List Request)) (history : List Event) → IsLegal plan history → (j seat : ℕ) → Contains history (event_of kind.Dispatch j seat)
    → ((at : ℕ) → Contains history (event_of kind.Release j at) → ⊥) → is_out (status_of history j) ≡ true
dispatched_is_out plan history legal j seat told never =
    elim (dispatched_of_seat (status_of history j) seat (told_seat plan j seat history legal told)) [
      | inl out ↦ out
      | inr released ↦ let last = release_told plan j history legal released in absurd (never last.0 last.1)
    ]

-- an event does not come again, at whatever seat
not_again : (plan : List (List Request)) (history : List Event) → IsLegal plan history → (act : EventKind) (j at seat : ℕ) → Contains history (event_of act j at) → MayCome plan history (event_of act j seat) → ⊥
not_again plan history legal kind.Request j at seat (k, within, is) may =
    let there : slice_get history k ≡ Some (event_of kind.Request j at) = slice_get-get_or history k (event_of kind.Request j at) within ∙ ap (λ e. Some e) is in
    let before : j < issued history = entries_issued plan history legal k (event_of kind.Request j at) there in
    let next : j ≡ issued history = may.1 in
    absurd (omega arith)
not_again plan history legal kind.Dispatch j at seat told may = absurd (cc (sym (told_seat plan j at history legal told) ∙ ap seat_of may.1.0))
not_again plan history legal kind.Release j at seat told may = released_is_last kind.Release (status_of history j) may.1 (told_release plan j at history legal told)

comes_once : (plan : List (List Request)) (history : List Event) → IsLegal plan history → (k l : ℕ) (one other : Event) → slice_get history k ≡ Some one → slice_get history l ≡ Some other → one.kind ≡ other.kind → one.entry ≡ other.entry → k < l → ⊥
comes_once plan history legal k l one other at later kind entry before =
    not_again plan front legal_there other.kind other.entry one.seat other.seat (subst (Contains front) alike there) (legal l other later)
  where
    front : List Event
    front = take l history

    behind : k < l
    behind = before

    long : length front ≡ l
    long = let within = slice_get_within history l other later in length-take-le l history (omega arith)

    there : Contains front one
    there =
        let whole : slice_get (front ++ drop l history) k ≡ Some one = ap (λ h. slice_get h k) (take-append-drop l history) ∙ at in
        let early : k < length front = omega (arith, long, behind) in
        (k, early, get_or_from_slice_get front k one one (sym (get_left front (drop l history) k early) ∙ whole))

    alike : one ≡ event_of other.kind other.entry one.seat
    alike = λ i. record { kind = kind i; entry = entry i; seat = one.seat }

    legal_there : IsLegal plan front
    legal_there = legal_front plan front (drop l history) (subst (IsLegal plan) (sym (take-append-drop l history)) legal)

-- no two events are of one kind and one entry
pub each_once : (plan : List (List Request)) (history : List Event) → IsLegal plan history → (k l : ℕ) (one other : Event) → slice_get history k ≡ Some one → slice_get history l ≡ Some other → one.kind ≡ other.kind → one.entry ≡ other.entry → k ≡ l
each_once plan history legal k l one other at later kind entry =
    elim (leb_tells k l) [
      | inl t ↦
          elim (eqb_tells k l) [
            | inl s ↦ s.1
            | inr n ↦ let ne : k ≢ l = n.1 in absurd (comes_once plan history legal k l one other at later kind entry (omega (arith, t.1)))
          ]
      | inr f ↦ absurd (comes_once plan history legal l k other one later at (sym kind) (sym entry) f.1)
    ]
