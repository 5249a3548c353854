-- What each event does to the values that a history gives, and how a machine's values follow it.
use Rattle.std.proofs.Common.{◌≡◌, ◌≢◌, ◌<◌, ℕ, zero, suc, true, false, List, [], ◌∷◌, ◌++◌, map, length, set, Option, Some, None, is_some, option_map, option_and_then, slice_get, fold, refl, sym, ◌∙◌, ap, subst, arith, inl, inr, ◌⊎◌, IsTrue, length-append, length-set, All}
use Rattle.std.proofs.lemmas.Bool.Decides.{eqb_tells, leb_tells}
use Rattle.std.proofs.lemmas.List.{map-append, length-map}
use Rattle.std.proofs.lemmas.List.Sums.{fold-append}
use Rattle.std.proofs.lemmas.Option.{slice_get-map, slice_get_within, get_or_from_slice_get}
use Rattle.pooma_machine.specs.declared.step.Event.{Event}
use Rattle.pooma_machine.specs.declared.step.EventKind.TheVariants as kind
use Rattle.pooma_machine.specs.declared.step.Status.{Status}
use Rattle.pooma_machine.specs.declared.step.Status.TheVariants as status
use Rattle.pooma_machine.specs.Steps.{IsRequestList, next, requests_of, status_of, is_out, is_released, event_of, IsWaiting, IsReady, IsLegal}
use Rattle.pooma_machine.specs.Values.{Meaning, Lent, Values, values, values_after, values_next, opened, lend, give_back, new_value_of, outcome_of, lent_by, written_object, put_back, with_at, asks_of}
use Rattle.pooma_machine.specs.Kept.{IsSound}
use Rattle.pooma_machine.specs.Machine.{Matches, FitsShapes}
use Rattle.pooma_machine.proofs.Listed.{same_test, other_test, slice_get_before, slice_get_last, slice_get_written, slice_get_kept}
use Rattle.pooma_machine.proofs.Plans.{status_own, status_other, requests_of_old, requests_of_new}
use Rattle.pooma_machine.proofs.Lending.{written_holds}
use Rattle.pooma_machine.proofs.Keeps.{slice_get_pushed, sound_request, sound_dispatch, sound_release}

pub not_none : {X : Type 0} (xs : List X) (k : ℕ) → k < length xs → slice_get xs k ≡ None → ⊥
not_none [] k h e = absurd (omega arith)
not_none (x ∷ xs) zero h e = absurd (cc e)
not_none (x ∷ xs) (suc k) h e = not_none xs k (omega arith) e

pub none_from : {X : Type 0} (o : Option X) → is_some o ≡ false → o ≡ None
none_from None e = refl
none_from (Some x) e = absurd (cc e)

-- a further event is the last to change the values
pub values_more : {W V O S : Type 0} (m : Meaning W V O S) (plan : List W) (opening : List V) (history : List Event) (event : Event)
    → values m plan opening (history ++ event ∷ []) ≡ values_after m plan (values m plan opening history) event
values_more m plan opening history event = fold-append (values_after m plan) (opened opening) history (event ∷ [])

-- a further work changes nothing before its own events
pub values_from_longer : {W V O S : Type 0} (m : Meaning W V O S) (plan : List W) (work : W) (now : Values V O) (history : List Event)
    → ((k : ℕ) (event : Event) → slice_get history k ≡ Some event → event.entry < length plan)
    → fold (values_after m (plan ++ work ∷ [])) now history ≡ fold (values_after m plan) now history
values_from_longer m plan work now [] within = refl
values_from_longer m plan work now (event ∷ rest) within =
    let first : slice_get (plan ++ work ∷ []) event.entry ≡ slice_get plan event.entry = slice_get_before plan (work ∷ []) event.entry (within 0 event refl) in
    ap (λ w. fold (values_after m (plan ++ work ∷ [])) (values_next m event.kind event.entry w now) rest) first
    ∙ values_from_longer m plan work (values_after m plan now event) rest (λ k e at. within (suc k) e at)

pub values_longer : {W V O S : Type 0} (m : Meaning W V O S) (plan : List W) (work : W) (opening : List V) (history : List Event) → IsLegal (asks_of m plan) history
    → values m (plan ++ work ∷ []) opening history ≡ values m plan opening history
values_longer m plan work opening history legal =
    values_from_longer m plan work (opened opening) history (λ k event at. let may = (legal k event at).0 in omega (arith, length-map plan m.requests))

-- the values after a request, a dispatch and a release
pub values_requested : {W V O S : Type 0} (m : Meaning W V O S) (plan : List W) (work : W) (opening : List V) (history : List Event) (j seat : ℕ) → IsLegal (asks_of m plan) history
    → values m (plan ++ work ∷ []) opening (history ++ event_of kind.Request j seat ∷ []) ≡ values m plan opening history
values_requested m plan work opening history j seat legal =
    values_more m (plan ++ work ∷ []) opening history (event_of kind.Request j seat) ∙ values_longer m plan work opening history legal

pub values_dispatched : {W V O S : Type 0} (m : Meaning W V O S) (plan : List W) (opening : List V) (history : List Event) (j seat : ℕ) (work : W) → slice_get plan j ≡ Some work
    → values m plan opening (history ++ event_of kind.Dispatch j seat ∷ []) ≡ lend m j work (values m plan opening history)
values_dispatched m plan opening history j seat work at =
    values_more m plan opening history (event_of kind.Dispatch j seat) ∙ ap (λ w. values_next m kind.Dispatch j w (values m plan opening history)) at

pub values_released : {W V O S : Type 0} (m : Meaning W V O S) (plan : List W) (opening : List V) (history : List Event) (j seat : ℕ) (work : W) → slice_get plan j ≡ Some work
    → values m plan opening (history ++ event_of kind.Release j seat ∷ []) ≡ give_back m j work (values m plan opening history)
values_released m plan opening history j seat work at =
    values_more m plan opening history (event_of kind.Release j seat) ∙ ap (λ w. values_next m kind.Release j w (values m plan opening history)) at

-- what the entries of a plan ask for
pub asks_longer : {W V O S : Type 0} (m : Meaning W V O S) (plan : List W) (work : W) → asks_of m (plan ++ work ∷ []) ≡ asks_of m plan ++ m.requests work ∷ []
asks_longer m plan work = map-append m.requests plan (work ∷ [])

pub asks_old : {W V O S : Type 0} (m : Meaning W V O S) (plan : List W) (work : W) (i : ℕ) → i < length plan → requests_of (asks_of m (plan ++ work ∷ [])) i ≡ requests_of (asks_of m plan) i
asks_old m plan work i h = ap (λ p. requests_of p i) (asks_longer m plan work) ∙ requests_of_old (asks_of m plan) (m.requests work) i (omega (arith, length-map plan m.requests))

pub asks_new : {W V O S : Type 0} (m : Meaning W V O S) (plan : List W) (work : W) → requests_of (asks_of m (plan ++ work ∷ [])) (length plan) ≡ m.requests work
asks_new m plan work =
    ap (λ p. requests_of p (length plan)) (asks_longer m plan work)
    ∙ subst (λ n. requests_of (asks_of m plan ++ m.requests work ∷ []) n ≡ m.requests work) (length-map plan m.requests) (requests_of_new (asks_of m plan) (m.requests work))

-- an entry of the plan is one of those that are seen by what they ask for
pub entry_there : {W V O S : Type 0} (m : Meaning W V O S) (plan : List W) (j : ℕ) (work : W) → slice_get plan j ≡ Some work → j < length (asks_of m plan)
entry_there m plan j work at = let within = slice_get_within plan j work at in omega (arith, length-map plan m.requests)

-- an entry that is out or was released is one of the plan
pub out_in_plan : {W V O S : Type 0} (m : Meaning W V O S) (plan : List W) (history : List Event) (i : ℕ) → IsSound (asks_of m plan) history → IsTrue (is_out (status_of history i)) → i < length plan
out_in_plan m plan history i sound out =
    elim (leb_tells (length plan) i) [
      | inl t ↦ absurd (cc (sym (ap is_out (sound.ended i (rw length-map t.1))) ∙ out))
      | inr f ↦ f.1
    ]

pub matches_request : {W V O S : Type 0} (m : Meaning W V O S) (plan : List W) (opening : List V) (history : List Event) (homes : List (Option V)) (outcomes : List (Option O)) (work : W) (seat : ℕ)
    → Matches m plan opening history homes outcomes
    → IsRequestList (m.requests work)
    → FitsShapes m (map m.shape opening) work → All (λ r. r.object < length opening) (m.requests work)
    → Matches m (plan ++ work ∷ []) opening (history ++ event_of kind.Request (length plan) seat ∷ []) homes (outcomes ++ None ∷ [])
matches_request m plan opening history homes outcomes work seat old form fits ranges =
    record {
      sound = sound;
      count = old.count;
      shapes = rw same old.shapes;
      fitting = λ j w at. elim (eqb_tells (length plan) j) [
        | inl t ↦ let e : Some work ≡ Some w = sym (slice_get_last plan work) ∙ (ap (slice_get (plan ++ work ∷ [])) t.1 ∙ at) in let w_is : work ≡ w = cc in subst (FitsShapes m (map m.shape opening)) w_is fits
        | inr n ↦ old.fitting j w (sym (slice_get_pushed plan work j n.1) ∙ at)
      ];
      home = λ o value at. rw same (old.home o value at);
      away = λ o gone.
          let was = old.away o gone in
          let within = out_in_plan m plan history was.0 old.sound was.1 in
          let ne : length plan ≢ was.0 = omega arith in
          (was.0, ap is_out (status_other history kind.Request (length plan) seat was.0 ne) ∙ was.1, ap written_object (asks_old m plan work was.0 within) ∙ was.2);
      lent = λ i o out asks.
          elim (eqb_tells (length plan) i) [
            | inl t ↦ absurd (cc (sym (ap is_out (status_own history kind.Request (length plan) seat)) ∙ (ap (λ k. is_out (status_of (history ++ event_of kind.Request (length plan) seat ∷ []) k)) t.1 ∙ out)))
            | inr n ↦
                let was = sym (ap is_out (status_other history kind.Request (length plan) seat i n.1)) ∙ out in
                let within = out_in_plan m plan history i old.sound was in
                rw same (old.lent i o was (sym (ap written_object (asks_old m plan work i within)) ∙ asks))
          ];
      ranges = ranges_after;
      outcomes_count = let was = old.outcomes_count in omega (arith, length-append outcomes (None ∷ []), length-append plan (work ∷ []));
      kept = λ j h. rw same (kept_after j h);
      answered = λ j. rw same (answered_after j);
    }
  where
    sound : IsSound (asks_of m (plan ++ work ∷ [])) (history ++ event_of kind.Request (length plan) seat ∷ [])
    sound = subst (λ n. IsSound (asks_of m (plan ++ work ∷ [])) (history ++ event_of kind.Request n seat ∷ [])) (length-map plan m.requests)
        (rw (asks_longer m plan work) (sound_request (asks_of m plan) history (m.requests work) seat old.sound form))

    same : values m (plan ++ work ∷ []) opening (history ++ event_of kind.Request (length plan) seat ∷ []) ≡ values m plan opening history
    same = values_requested m plan work opening history (length plan) seat old.sound.legal

    ranges_after : (j : ℕ) → j < length (plan ++ work ∷ []) → All (λ r. r.object < length homes) (requests_of (asks_of m (plan ++ work ∷ [])) j)
    ranges_after j h =
        elim (eqb_tells (length plan) j) [
          | inl t ↦ subst (λ k. All (λ r. r.object < length homes) (requests_of (asks_of m (plan ++ work ∷ [])) k)) t.1 (rw (asks_new m plan work, old.count) ranges)
          | inr n ↦
              let ne : length plan ≢ j = n.1 in
              let before : j < length plan = omega (arith, length-append plan (work ∷ [])) in
              rw (asks_old m plan work j before) (old.ranges j before)
        ]

    kept_after : (j : ℕ) → j < length (plan ++ work ∷ []) → slice_get (outcomes ++ None ∷ []) j ≡ Some ((values m plan opening history).outcome j)
    kept_after j h =
        elim (eqb_tells (length plan) j) [
          | inl t ↦
              let none = none_from ((values m plan opening history).outcome (length plan)) (old.answered (length plan) ∙ ap is_released (old.sound.ended (length plan) (omega (arith, length-map plan m.requests)))) in
              subst (λ k. slice_get (outcomes ++ None ∷ []) k ≡ Some ((values m plan opening history).outcome k)) t.1
              (subst (λ k. slice_get (outcomes ++ None ∷ []) k ≡ Some None) old.outcomes_count (slice_get_last outcomes None) ∙ ap Some (sym none))
          | inr n ↦
              let ne : length plan ≢ j = n.1 in
              let before : j < length plan = omega (arith, length-append plan (work ∷ [])) in
              let count = old.outcomes_count in
              slice_get_before outcomes (None ∷ []) j (omega arith) ∙ old.kept j before
        ]

    answered_after : (j : ℕ) → is_some ((values m plan opening history).outcome j) ≡ is_released (status_of (history ++ event_of kind.Request (length plan) seat ∷ []) j)
    answered_after j =
        elim (eqb_tells (length plan) j) [
          | inl t ↦
              subst (λ k. is_some ((values m plan opening history).outcome k) ≡ is_released (status_of (history ++ event_of kind.Request (length plan) seat ∷ []) k)) t.1
              (old.answered (length plan) ∙ (ap is_released (old.sound.ended (length plan) (omega (arith, length-map plan m.requests))) ∙ sym (ap is_released (status_own history kind.Request (length plan) seat))))
          | inr n ↦ old.answered j ∙ sym (ap is_released (status_other history kind.Request (length plan) seat j n.1))
        ]

-- what an entry of the plan asks for
pub asks_at : {W V O S : Type 0} (m : Meaning W V O S) (plan : List W) (j : ℕ) (work : W) → slice_get plan j ≡ Some work → requests_of (asks_of m plan) j ≡ m.requests work
asks_at m plan j work at = get_or_from_slice_get (map m.requests plan) j (m.requests work) [] (slice_get-map m.requests plan j ∙ ap (option_map m.requests) at)

-- the value of a function at its changed place, and elsewhere
pub with_at_own : {X : Type 0} (f : ℕ → X) (j : ℕ) (x : X) → with_at f j x j ≡ x
with_at_own f j x = rw (same_test j) refl

pub with_at_other : {X : Type 0} (f : ℕ → X) (j i : ℕ) (x : X) → j ≢ i → with_at f j x i ≡ f i
with_at_other f j i x ne = rw (other_test i j (λ e. ne (sym e))) refl

-- what a dispatch takes away of the objects
pub set_read : {X : Type 0} (xs : List X) (p o : ℕ) (x y : X) → slice_get (set xs p x) o ≡ Some y → ((p ≡ o) × (x ≡ y)) ⊎ ((p ≢ o) × (slice_get xs o ≡ Some y))
set_read xs p o x y at =
    elim (eqb_tells p o) [
      | inl t ↦
          let within = slice_get_within (set xs p x) o y at in
          let own = slice_get_written xs p x (omega (arith, length-set xs p x, t.1)) in
          let both : Some x ≡ Some y = sym own ∙ (ap (slice_get (set xs p x)) t.1 ∙ at) in
          inl (t.1, let same : x ≡ y = cc in same)
      | inr n ↦ inr (n.1, sym (slice_get_kept xs p o x (λ e. n.1 (sym e))) ∙ at)
    ]

pub sent_home : {X : Type 0} (homes : List (Option X)) (object : Option ℕ) (o : ℕ) (x : X) → slice_get (put_back homes object (Some None)) o ≡ Some (Some x) → slice_get homes o ≡ Some (Some x)
sent_home homes None o x at = at
sent_home homes (Some p) o x at = elim (set_read homes p o None (Some x) at) [ inl own ↦ absurd (cc own.1) | inr other ↦ other.1 ]

pub sent_away : {X : Type 0} (homes : List (Option X)) (object : Option ℕ) (o : ℕ) → slice_get (put_back homes object (Some None)) o ≡ Some None → (slice_get homes o ≡ Some None) ⊎ (object ≡ Some o)
sent_away homes None o at = inl at
sent_away homes (Some p) o at = elim (set_read homes p o None None at) [ inl own ↦ inr (ap Some own.0) | inr other ↦ inl other.1 ]

-- a list of which an element may be put back is as long as before
pub length_put : {X : Type 0} (xs : List X) (object : Option ℕ) (new : Option X) → length (put_back xs object new) ≡ length xs
length_put xs None new = refl
length_put xs (Some p) None = refl
length_put xs (Some p) (Some x) = length-set xs p x

pub matches_dispatch : {W V O S : Type 0} (m : Meaning W V O S) (plan : List W) (opening : List V) (history : List Event) (homes : List (Option V)) (outcomes : List (Option O)) (work : W) (j seat : ℕ)
    → Matches m plan opening history homes outcomes → slice_get plan j ≡ Some work → IsReady (asks_of m plan) history j
    → Matches m plan opening (history ++ event_of kind.Dispatch j seat ∷ []) (put_back homes (written_object (m.requests work)) (Some None)) outcomes
matches_dispatch {V = X} {O = O} {S = S} m plan opening history homes outcomes work j seat old at ready =
    record {
      sound = sound_dispatch (asks_of m plan) history j seat old.sound (entry_there m plan j work at) ready;
      count = count ∙ old.count;
      shapes = rw same old.shapes;
      fitting = old.fitting;
      home = λ o value h. rw same (old.home o value (sent_home homes (written_object (m.requests work)) o value h));
      away = away;
      lent = lent;
      ranges = λ i h. rw count (old.ranges i h);
      outcomes_count = old.outcomes_count;
      kept = λ i h. rw same (old.kept i h);
      answered = λ i. rw same (answered i);
    }
  where
    waits : IsWaiting history j
    waits = ready.0

    count : length (put_back homes (written_object (m.requests work)) (Some None)) ≡ length homes
    count = length_put homes (written_object (m.requests work)) (Some None)

    same : values m plan opening (history ++ event_of kind.Dispatch j seat ∷ []) ≡ lend m j work (values m plan opening history)
    same = values_dispatched m plan opening history j seat work at

    own : (o : ℕ) → written_object (m.requests work) ≡ Some o → option_map m.shape ((values m plan opening (history ++ event_of kind.Dispatch j seat ∷ [])).lent j).written ≡ slice_get (map m.shape opening) o
    own o mine =
        ap (λ (v : Values X O). option_map m.shape (v.lent j).written) (values_dispatched m plan opening history j seat work at)
        ∙ (ap (λ (l : Lent X). option_map m.shape l.written) (with_at_own (values m plan opening history).lent j (lent_by (values m plan opening history).objects (m.requests work)))
        ∙ (ap (λ (w : Option ℕ). option_map m.shape (option_and_then (slice_get (values m plan opening history).objects) w)) mine
        ∙ (sym (slice_get-map m.shape (values m plan opening history).objects o)
        ∙ ap (λ (shapes : List S). slice_get shapes o) old.shapes)))

    away : (o : ℕ) → slice_get (put_back homes (written_object (m.requests work)) (Some None)) o ≡ Some None → (i : ℕ) × IsTrue (is_out (status_of (history ++ event_of kind.Dispatch j seat ∷ []) i)) × (written_object (requests_of (asks_of m plan) i) ≡ Some o)
    away o none =
        elim (sent_away homes (written_object (m.requests work)) o none) [
          | inl before ↦
              let was = old.away o before in
              (was.0, ap is_out (status_other history kind.Dispatch j seat was.0 (λ e. absurd (cc (sym (ap is_out waits) ∙ (ap (λ k. is_out (status_of history k)) e ∙ was.1))))) ∙ was.1, was.2)
          | inr mine ↦ (j, ap is_out (status_own history kind.Dispatch j seat), ap written_object (asks_at m plan j work at) ∙ mine)
        ]

    lent : (i o : ℕ) → IsTrue (is_out (status_of (history ++ event_of kind.Dispatch j seat ∷ []) i)) → written_object (requests_of (asks_of m plan) i) ≡ Some o
        → option_map m.shape ((values m plan opening (history ++ event_of kind.Dispatch j seat ∷ [])).lent i).written ≡ slice_get (map m.shape opening) o
    lent i o out asks =
        elim (eqb_tells j i) [
          | inl t ↦ subst (λ k. option_map m.shape ((values m plan opening (history ++ event_of kind.Dispatch j seat ∷ [])).lent k).written ≡ slice_get (map m.shape opening) o) t.1 (own o (sym (ap written_object (asks_at m plan j work at)) ∙ (ap (λ k. written_object (requests_of (asks_of m plan) k)) t.1 ∙ asks)))
          | inr n ↦
              ap (λ (v : Values X O). option_map m.shape (v.lent i).written) same
              ∙ (ap (λ (l : Lent X). option_map m.shape l.written) (with_at_other (values m plan opening history).lent j i (lent_by (values m plan opening history).objects (m.requests work)) n.1)
              ∙ old.lent i o (sym (ap is_out (status_other history kind.Dispatch j seat i n.1)) ∙ out) asks)
        ]

    answered : (i : ℕ) → is_some ((values m plan opening history).outcome i) ≡ is_released (status_of (history ++ event_of kind.Dispatch j seat ∷ []) i)
    answered i =
        elim (eqb_tells j i) [
          | inl t ↦
              subst (λ k. is_some ((values m plan opening history).outcome k) ≡ is_released (status_of (history ++ event_of kind.Dispatch j seat ∷ []) k)) t.1
              (old.answered j ∙ (ap is_released waits ∙ sym (ap is_released (status_own history kind.Dispatch j seat))))
          | inr n ↦ old.answered i ∙ sym (ap is_released (status_other history kind.Dispatch j seat i n.1))
        ]

-- a write of a value of the same shape changes no shape
pub map_set_same : {X Y : Type 0} (f : X → Y) (xs : List X) (p : ℕ) (w : X) → slice_get (map f xs) p ≡ Some (f w) → map f (set xs p w) ≡ map f xs
map_set_same f [] p w e = refl
map_set_same f (x ∷ xs) zero w e = let same : f x ≡ f w = cc in ap (λ y. y ∷ map f xs) (sym same)
map_set_same f (x ∷ xs) (suc p) w e = ap (λ ys. f x ∷ ys) (map_set_same f xs p w e)

-- an entry that is out is released next
pub released_next : (seat : ℕ) (now : Option Status) → is_out now ≡ true → (is_released (next kind.Release seat now) ≡ true) × (is_out (next kind.Release seat now) ≡ false)
released_next seat None out = absurd (cc out)
released_next seat (Some status.Waiting) out = absurd (cc out)
released_next seat (Some (status.Released at)) out = absurd (cc out)
released_next seat (Some (status.Out at)) out = (refl, refl)

-- what an entry of the plan asks for is there
pub asked_there : {W V O S : Type 0} (m : Meaning W V O S) (plan : List W) (opening : List V) (history : List Event) (homes : List (Option V)) (outcomes : List (Option O)) (work : W) (j : ℕ)
    → Matches m plan opening history homes outcomes → slice_get plan j ≡ Some work → All (λ r. r.object < length homes) (m.requests work)
asked_there m plan opening history homes outcomes work j old at = rw (asks_at m plan j work at) at (old.ranges j (slice_get_within plan j work at))

-- an entry that was lent a value to write gives one back
pub value_given_back : {W V O S : Type 0} (m : Meaning W V O S) (plan : List W) (opening : List V) (history : List Event) (homes : List (Option V)) (outcomes : List (Option O)) (work : W) (j p : ℕ) (new : Option V)
    → Matches m plan opening history homes outcomes → slice_get plan j ≡ Some work → IsTrue (is_out (status_of history j))
    → option_map m.shape new ≡ option_map m.shape ((values m plan opening history).lent j).written
    → written_object (m.requests work) ≡ Some p → new ≡ None → ⊥
value_given_back m plan opening history homes outcomes work j p new old at out shape e none =
    let there : p < length homes = written_holds (λ o. o < length homes) (m.requests work) p (asked_there m plan opening history homes outcomes work j old at) e in
    let count = old.count in
    let of_shape = old.lent j p out (ap written_object (asks_at m plan j work at) ∙ e) in
    not_none (map m.shape opening) p (omega (arith, there, length-map opening m.shape)) (sym of_shape ∙ (sym shape ∙ ap (option_map m.shape) none))

-- the objects that are there, after a value was put back to one
pub put_home : {X : Type 0} (homes : List (Option X)) (objects : List X) (object : Option ℕ) (new : Option X) → length homes ≡ length objects
    → ((o : ℕ) (x : X) → slice_get homes o ≡ Some (Some x) → slice_get objects o ≡ Some x)
    → (o : ℕ) (x : X) → slice_get (put_back homes object (option_map (λ y. Some y) new)) o ≡ Some (Some x) → slice_get (put_back objects object new) o ≡ Some x
put_home homes objects None new count old o x at = old o x at
put_home homes objects (Some p) None count old o x at = old o x at
put_home homes objects (Some p) (Some w) count old o x at =
    elim (set_read homes p o (Some w) (Some x) at) [
      | inl own ↦
          let within = slice_get_within (set homes p (Some w)) o (Some x) at in
          let both : Some w ≡ Some x = own.1 in
          subst (λ k. slice_get (set objects p w) k ≡ Some x) own.0 (slice_get_written objects p w (omega (arith, count, length-set homes p (Some w), own.0)) ∙ both)
      | inr other ↦ slice_get_kept objects p o w (λ e. other.0 (sym e)) ∙ old o x other.1
    ]

pub put_away : {X : Type 0} (homes : List (Option X)) (object : Option ℕ) (new : Option X) (o : ℕ) → slice_get (put_back homes object (option_map (λ y. Some y) new)) o ≡ Some None
    → (slice_get homes o ≡ Some None) × (object ≡ Some o → new ≡ None)
put_away homes None new o at = (at, λ e. absurd (cc e))
put_away homes (Some p) None o at = (at, λ e. refl)
put_away homes (Some p) (Some w) o at =
    elim (set_read homes p o (Some w) None at) [
      | inl own ↦ absurd (cc own.1)
      | inr other ↦ (other.1, λ e. let same : p ≡ o = cc in absurd (other.0 same))
    ]

pub put_shapes : {X Y : Type 0} (f : X → Y) (objects : List X) (object : Option ℕ) (new : Option X)
    → ((p : ℕ) (w : X) → object ≡ Some p → new ≡ Some w → slice_get (map f objects) p ≡ Some (f w))
    → map f (put_back objects object new) ≡ map f objects
put_shapes f objects None new fits = refl
put_shapes f objects (Some p) None fits = refl
put_shapes f objects (Some p) (Some w) fits = map_set_same f objects p w (fits p w refl refl)

pub matches_release : {W V O S : Type 0} (m : Meaning W V O S) (plan : List W) (opening : List V) (history : List Event) (homes : List (Option V)) (outcomes : List (Option O)) (work : W) (j seat : ℕ) (new : Option V) (answer : O)
    → Matches m plan opening history homes outcomes → slice_get plan j ≡ Some work → IsTrue (is_out (status_of history j))
    → new ≡ new_value_of m work ((values m plan opening history).lent j)
    → option_map m.shape new ≡ option_map m.shape ((values m plan opening history).lent j).written
    → answer ≡ outcome_of m work ((values m plan opening history).lent j)
    → Matches m plan opening (history ++ event_of kind.Release j seat ∷ []) (put_back homes (written_object (m.requests work)) (option_map (λ w. Some w) new)) (set outcomes j (Some answer))
matches_release {V = X} {O = O} {S = S} m plan opening history homes outcomes work j seat new answer old at out new_is shape answer_is =
    record {
      sound = sound_release (asks_of m plan) history j seat old.sound (entry_there m plan j work at) out;
      count = count ∙ old.count;
      shapes = ap (λ (v : Values X O). map m.shape v.objects) same ∙ (put_shapes m.shape before.objects object new fitting ∙ old.shapes);
      fitting = old.fitting;
      home = λ o value h. ap (λ (v : Values X O). slice_get v.objects o) same ∙ put_home homes before.objects object new long old.home o value h;
      away = λ o none.
          let gone = put_away homes object new o none in
          let was = old.away o gone.0 in
          let ne : j ≢ was.0 = λ k.
          let mine : object ≡ Some o = sym (ap written_object (asks_at m plan j work at)) ∙ (ap (λ i. written_object (requests_of (asks_of m plan) i)) k ∙ was.2) in
          absurd (value_given_back m plan opening history homes outcomes work j o new old at out shape mine (gone.1 mine)) in
          (was.0, ap is_out (status_other history kind.Release j seat was.0 ne) ∙ was.1, was.2);
      lent = λ i o still asks.
          let ne : j ≢ i = λ e. absurd (cc (sym (ap is_out (status_own history kind.Release j seat) ∙ (released_next seat (status_of history j) out).1) ∙ (ap (λ k. is_out (status_of (history ++ event_of kind.Release j seat ∷ []) k)) e ∙ still))) in
          ap (λ (v : Values X O). option_map m.shape (v.lent i).written) same ∙ old.lent i o (sym (ap is_out (status_other history kind.Release j seat i ne)) ∙ still) asks;
      ranges = λ i h. rw count (old.ranges i h);
      outcomes_count = length-set outcomes j (Some answer) ∙ old.outcomes_count;
      kept = kept;
      answered = answered;
    }
  where
    object : Option ℕ
    object = written_object (m.requests work)

    before : Values X O
    before = values m plan opening history

    same : values m plan opening (history ++ event_of kind.Release j seat ∷ []) ≡ record { objects = put_back before.objects object new; lent = before.lent; outcome = with_at before.outcome j (Some answer) }
    same = rw (new_is, answer_is) (values_released m plan opening history j seat work at)

    count : length (put_back homes object (option_map (λ w. Some w) new)) ≡ length homes
    count = length_put homes object (option_map (λ w. Some w) new)

    long : length homes ≡ length before.objects
    long = let shapes = ap length old.shapes in let c = old.count in omega (arith, length-map before.objects m.shape, length-map opening m.shape)

    fitting : (p : ℕ) (w : X) → object ≡ Some p → new ≡ Some w → slice_get (map m.shape before.objects) p ≡ Some (m.shape w)
    fitting p w e is =
        let of_shape = old.lent j p out (ap written_object (asks_at m plan j work at) ∙ e) in
        ap (λ (shapes : List S). slice_get shapes p) old.shapes ∙ (sym of_shape ∙ (sym shape ∙ ap (option_map m.shape) is))

    own : (values m plan opening (history ++ event_of kind.Release j seat ∷ [])).outcome j ≡ Some answer
    own = ap (λ (v : Values X O). v.outcome j) same ∙ with_at_own before.outcome j (Some answer)

    others : (i : ℕ) → j ≢ i → (values m plan opening (history ++ event_of kind.Release j seat ∷ [])).outcome i ≡ before.outcome i
    others i ne = ap (λ (v : Values X O). v.outcome i) same ∙ with_at_other before.outcome j i (Some answer) ne

    kept : (i : ℕ) → i < length plan → slice_get (set outcomes j (Some answer)) i ≡ Some ((values m plan opening (history ++ event_of kind.Release j seat ∷ [])).outcome i)
    kept i h =
        let long = old.outcomes_count in
        elim (eqb_tells j i) [
          | inl t ↦ subst (λ k. slice_get (set outcomes j (Some answer)) k ≡ Some ((values m plan opening (history ++ event_of kind.Release j seat ∷ [])).outcome k)) t.1
              (slice_get_written outcomes j (Some answer) (let within = slice_get_within plan j work at in omega arith) ∙ ap Some (sym own))
          | inr n ↦ slice_get_kept outcomes j i (Some answer) (λ e. n.1 (sym e)) ∙ (old.kept i h ∙ ap Some (sym (others i n.1)))
        ]

    answered : (i : ℕ) → is_some ((values m plan opening (history ++ event_of kind.Release j seat ∷ [])).outcome i) ≡ is_released (status_of (history ++ event_of kind.Release j seat ∷ []) i)
    answered i =
        elim (eqb_tells j i) [
          | inl t ↦ subst (λ k. is_some ((values m plan opening (history ++ event_of kind.Release j seat ∷ [])).outcome k) ≡ is_released (status_of (history ++ event_of kind.Release j seat ∷ []) k)) t.1
              (ap is_some own ∙ sym (ap is_released (status_own history kind.Release j seat) ∙ (released_next seat (status_of history j) out).0))
          | inr n ↦ ap is_some (others i n.1) ∙ (old.answered i ∙ sym (ap is_released (status_other history kind.Release j seat i n.1)))
        ]

-- what a dispatch lends to its own entry
pub lent_own : {W V O S : Type 0} (m : Meaning W V O S) (plan : List W) (opening : List V) (history : List Event) (j seat : ℕ) (work : W) → slice_get plan j ≡ Some work
    → lent_by (values m plan opening history).objects (m.requests work) ≡ (values m plan opening (history ++ event_of kind.Dispatch j seat ∷ [])).lent j
lent_own {V = X} {O = O} m plan opening history j seat work at =
    let before = values m plan opening history in
    sym (ap (λ (v : Values X O). v.lent j) (values_dispatched m plan opening history j seat work at) ∙ with_at_own before.lent j (lent_by before.objects (m.requests work)))
