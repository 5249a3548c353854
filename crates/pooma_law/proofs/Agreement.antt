-- What a legal history gives is what doing its entries one after another gives: who wrote each object last, what each entry
-- was lent, and what it answered.
use Rattle.std.proofs.Common.{◌≡◌, ◌≢◌, ◌<◌, ◌≤◌, ℕ, suc, Bool, true, false, List, [], ◌∷◌, ◌++◌, take, Option, Some, None, is_some, slice_get, ltb, lt-ltb, le-ltb, ltb-true, Contains, refl, sym, ◌∙◌, ap, subst, arith, inl, inr, ◌⊎◌, ◌==◌}
use Rattle.std.proofs.lemmas.Bool.Decides.{eqb_tells, leb_tells}
use Rattle.std.proofs.lemmas.List.{length-map}
use Rattle.std.proofs.lemmas.List.Sums.{fold-append}
use Rattle.pooma_queue.specs.declared.queue.Mode.TheVariants.{Write}
use Rattle.pooma_machine.specs.declared.step.Request.{Request}
use Rattle.pooma_machine.specs.declared.step.Event.{Event}
use Rattle.pooma_machine.specs.declared.step.EventKind.{EventKind}
use Rattle.pooma_machine.specs.declared.step.EventKind.TheVariants as kind
use Rattle.pooma_machine.specs.declared.step.Status.{Status}
use Rattle.pooma_machine.specs.Steps.{next, requests_of, status_of, is_released, seat_of, event_of, NothingBlocks, MayCome, IsLegal}
use Rattle.pooma_machine.specs.Values.{Meaning, Lent, Values, values, values_after, values_next, opened, lend, give_back, new_value_of, outcome_of, lent_by, written_object, put_back, with_at, asks_of}
use Rattle.pooma_law.specs.Ser.{Results, ser}
use Rattle.pooma_law.specs.Writers.{asks_to_write}
use Rattle.pooma_law.proofs.Places.{there, with_at_own, with_at_other}
use Rattle.pooma_law.proofs.OneByOne.{put_back_other, put_back_same, written_asks, asks_at, ser_further, outcome_at, unwritten}
use Rattle.pooma_law.proofs.Lending.{asks_contains, write_conflicts, lent_same}
use Rattle.pooma_law.proofs.Statuses.{status_own, status_other, HasSeat, out_has_seat, released_has_seat, out_is_released, StandsBefore, stands_before, IsSteady, steady_none, steady_more, along}

-- of the entries that ask to write the object, those below k were released and no others
abbrev pub AreReleasedBelow : List (List Request) → List Event → ℕ → ℕ → Type 0
AreReleasedBelow plan history o k = (i : ℕ) → asks_to_write (requests_of plan i) o ≡ true → is_released (status_of history i) ≡ ltb i k

pub not_true : (b : Bool) → (b ≡ true → ⊥) → b ≡ false
not_true true never = absurd (never refl)
not_true false never = refl

-- where nothing blocks an entry that was not released, the released writers of what it asks for are those before it
pub writers_before : (plan : List (List Request)) (history : List Event) (j : ℕ) → IsSteady plan history → is_released (status_of history j) ≡ false → NothingBlocks plan history j
    → (r : Request) → Contains (requests_of plan j) r → AreReleasedBelow plan history r.object j
writers_before plan history j steady open_still unblocked r asked i writes =
    elim (leb_tells j i) [
      | inl t ↦ not_true (is_released (status_of history i)) (λ released. later (eqb_tells j i) t.1 released) ∙ sym (le-ltb i j t.1)
      | inr f ↦
          unblocked i f.1 (r.object, record { one = Write; other = r.mode; asks_one = asks_contains (requests_of plan i) r.object writes; asks_other = asked; conflicting = (write_conflicts r.mode).0 })
          ∙ sym (lt-ltb i j f.1)
    ]
  where
    later : (((j == i) ≡ true) × (j ≡ i)) ⊎ (((j == i) ≡ false) × (j ≢ i)) → j ≤ i → is_released (status_of history i) ≡ true → ⊥
    later (inl same) le released = absurd (cc (sym open_still ∙ (ap (λ k. is_released (status_of history k)) same.1 ∙ released)))
    later (inr other) le released =
        let ne : j ≢ i = other.1 in
        let before : j < i = omega arith in
        absurd (cc (sym open_still
        ∙ steady.passed i (released_has_seat (status_of history i) released) j before
        (r.object, record { one = r.mode; other = Write; asks_one = asked; asks_other = asks_contains (requests_of plan i) r.object writes; conflicting = (write_conflicts r.mode).1 })))

-- an event that is no release releases nothing
released_unless : (act : EventKind) (seat : ℕ) (old : Option Status) → (act ≡ kind.Release → ⊥) → StandsBefore act old → is_released (next act seat old) ≡ is_released old
released_unless kind.Request seat old none stands = sym (ap is_released stands)
released_unless kind.Dispatch seat old none stands = sym (ap is_released stands)
released_unless kind.Release seat old none stands = absurd (none refl)

module _ (plan : List (List Request)) (history : List Event) (act : EventKind) (j seat : ℕ) (steady : IsSteady plan history) (may : MayCome plan history (event_of act j seat)) where
  same_released : (act ≡ kind.Release → ⊥) → (i : ℕ) → is_released (status_of (history ++ event_of act j seat ∷ []) i) ≡ is_released (status_of history i)
  same_released none i =
      elim (eqb_tells j i) [
        | inl t ↦
            subst (λ k. is_released (status_of (history ++ event_of act j seat ∷ []) k) ≡ is_released (status_of history k)) t.1
            (ap is_released (status_own history act j seat) ∙ released_unless act seat (status_of history j) none (stands_before plan history act j seat steady may))
        | inr n ↦ ap is_released (status_other history act j seat i n.1)
      ]

  same_dispatched : (i : ℕ) → j ≢ i → HasSeat (history ++ event_of act j seat ∷ []) i → HasSeat history i
  same_dispatched i ne dispatched = ap (λ s. is_some (seat_of s)) (sym (status_other history act j seat i ne)) ∙ dispatched

-- what the values of a history have to do with doing the entries of the plan one after another
pub record Agrees {W X O S : Type 0} (m : Meaning W X O S) (plan : List W) (opening : List X) (history : List Event) : Type 0 where
  pub steady : IsSteady (asks_of m plan) history
  -- an object has what the entries up to the last of its released writers leave
  pub objects : (o k : ℕ) → AreReleasedBelow (asks_of m plan) history o k → slice_get (values m plan opening history).objects o ≡ slice_get (ser m (take k plan) opening).objects o
  -- an entry was lent what the entries before it leave
  pub lent : (j : ℕ) → HasSeat history j → (values m plan opening history).lent j ≡ lent_by (ser m (take j plan) opening).objects (requests_of (asks_of m plan) j)
  -- an entry answered what it does when it comes in its turn
  pub outcomes : (j : ℕ) → is_released (status_of history j) ≡ true → (values m plan opening history).outcome j ≡ slice_get (ser m plan opening).outcomes j
  pub unanswered : (j : ℕ) → is_released (status_of history j) ≡ false → (values m plan opening history).outcome j ≡ None

module _ {W X O S : Type 0} (m : Meaning W X O S) (plan : List W) (opening : List X) where
  pub values_more : (history : List Event) (event : Event) → values m plan opening (history ++ event ∷ []) ≡ values_after m plan (values m plan opening history) event
  values_more history event = fold-append (values_after m plan) (opened opening) history (event ∷ [])

  agrees_none : Agrees m plan opening []
  agrees_none =
      record {
        steady = steady_none (asks_of m plan);
        objects = λ o k below.
            sym (unwritten m plan opening o 0 k (omega arith) (λ i from before writes. absurd (cc (below i writes ∙ lt-ltb i k before))));
        lent = λ j never. absurd (cc never);
        outcomes = λ j never. absurd (cc never);
        unanswered = λ j none. refl;
      }

  agrees_requested : (history : List Event) (j seat : ℕ) → Agrees m plan opening history → MayCome (asks_of m plan) history (event_of kind.Request j seat) → Agrees m plan opening (history ++ event_of kind.Request j seat ∷ [])
  agrees_requested history j seat old may =
      let asks = asks_of m plan in
      let now = history ++ event_of kind.Request j seat ∷ [] in
      let same : values m plan opening now ≡ values m plan opening history = values_more history (event_of kind.Request j seat) in
      let released : (i : ℕ) → is_released (status_of now i) ≡ is_released (status_of history i) = same_released asks history kind.Request j seat old.steady may (λ e. absurd (cc e)) in
      record {
        steady = steady_more asks history kind.Request j seat old.steady may;
        objects = λ o k below. ap (λ (v : Values X O). slice_get v.objects o) same ∙ old.objects o k (λ i writes. sym (released i) ∙ below i writes);
        lent = λ i dispatched.
            ap (λ (v : Values X O). v.lent i) same
            ∙ old.lent i (elim (eqb_tells j i) [
              | inl t ↦ absurd (cc (sym (ap (λ s. is_some (seat_of s)) (status_own history kind.Request j seat)) ∙ subst (HasSeat now) (sym t.1) dispatched))
              | inr n ↦ same_dispatched asks history kind.Request j seat old.steady may i n.1 dispatched
            ]);
        outcomes = λ i done. ap (λ (v : Values X O). v.outcome i) same ∙ old.outcomes i (sym (released i) ∙ done);
        unanswered = λ i undone. ap (λ (v : Values X O). v.outcome i) same ∙ old.unanswered i (sym (released i) ∙ undone);
      }

  agrees_dispatched : (history : List Event) (j seat : ℕ) (work : W) → slice_get plan j ≡ Some work → Agrees m plan opening history → MayCome (asks_of m plan) history (event_of kind.Dispatch j seat)
      → Agrees m plan opening (history ++ event_of kind.Dispatch j seat ∷ [])
  agrees_dispatched history j seat work at old may =
      let asks = asks_of m plan in
      let now = history ++ event_of kind.Dispatch j seat ∷ [] in
      let was = values m plan opening history in
      let same : values m plan opening now ≡ lend m j work was = values_more history (event_of kind.Dispatch j seat) ∙ ap (λ w. values_next m kind.Dispatch j w was) at in
      let released : (i : ℕ) → is_released (status_of now i) ≡ is_released (status_of history i) = same_released asks history kind.Dispatch j seat old.steady may (λ e. absurd (cc e)) in
      record {
        steady = steady_more asks history kind.Dispatch j seat old.steady may;
        objects = λ o k below. ap (λ (v : Values X O). slice_get v.objects o) same ∙ old.objects o k (λ i writes. sym (released i) ∙ below i writes);
        lent = λ i dispatched.
            ap (λ (v : Values X O). v.lent i) same
            ∙ elim (eqb_tells j i) [
              | inl t ↦ subst (λ k. with_at was.lent j (lent_by was.objects (m.requests work)) k ≡ lent_by (ser m (take k plan) opening).objects (requests_of asks k)) t.1 (with_at_own was.lent j (lent_by was.objects (m.requests work)) ∙ own)
              | inr n ↦ with_at_other was.lent j i (lent_by was.objects (m.requests work)) n.1 ∙ old.lent i (same_dispatched asks history kind.Dispatch j seat old.steady may i n.1 dispatched)
            ];
        outcomes = λ i done. ap (λ (v : Values X O). v.outcome i) same ∙ old.outcomes i (sym (released i) ∙ done);
        unanswered = λ i undone. ap (λ (v : Values X O). v.outcome i) same ∙ old.unanswered i (sym (released i) ∙ undone);
      }
    where
      own : lent_by (values m plan opening history).objects (m.requests work) ≡ lent_by (ser m (take j plan) opening).objects (requests_of (asks_of m plan) j)
      own =
          lent_same (values m plan opening history).objects (ser m (take j plan) opening).objects (m.requests work)
          (λ r asked. old.objects r.object j (writers_before (asks_of m plan) history j old.steady (ap is_released may.1.0) may.1.1 r (rw (asks_at m plan j work at) asked)))
          ∙ ap (lent_by (ser m (take j plan) opening).objects) (sym (asks_at m plan j work at))

  module _ (history : List Event) (j seat : ℕ) (work : W) (at : slice_get plan j ≡ Some work) (old : Agrees m plan opening history) (may : MayCome (asks_of m plan) history (event_of kind.Release j seat)) where
    lent_there : (values m plan opening history).lent j ≡ lent_by (ser m (take j plan) opening).objects (m.requests work)
    lent_there =
        old.lent j (out_has_seat (status_of history j) may.1)
        ∙ ap (lent_by (ser m (take j plan) opening).objects) (asks_at m plan j work at)

    gives : values m plan opening (history ++ event_of kind.Release j seat ∷ []) ≡ give_back m j work (values m plan opening history)
    gives = values_more history (event_of kind.Release j seat) ∙ ap (λ w. values_next m kind.Release j w (values m plan opening history)) at

    own_released : is_released (status_of (history ++ event_of kind.Release j seat ∷ []) j) ≡ true
    own_released = ap is_released (status_own history kind.Release j seat) ∙ (out_is_released seat (status_of history j) may.1).0

    other_released : (i : ℕ) → j ≢ i → is_released (status_of (history ++ event_of kind.Release j seat ∷ []) i) ≡ is_released (status_of history i)
    other_released i ne = ap is_released (status_other history kind.Release j seat i ne)

    -- the object that the entry writes, and the others
    object_released : (o k : ℕ) → AreReleasedBelow (asks_of m plan) (history ++ event_of kind.Release j seat ∷ []) o k → (b : Bool) → asks_to_write (requests_of (asks_of m plan) j) o ≡ b
        → slice_get (give_back m j work (values m plan opening history)).objects o ≡ slice_get (ser m (take k plan) opening).objects o
    object_released o k below true writes =
        let was = values m plan opening history in
        let before = ser m (take j plan) opening in
        let object = written_object (m.requests work) in
        let front : AreReleasedBelow (asks_of m plan) history o j =
        writers_before (asks_of m plan) history j old.steady (out_is_released seat (status_of history j) may.1).1 (old.steady.passed j (out_has_seat (status_of history j) may.1))
        (record { object = o; mode = Write }) (asks_contains (requests_of (asks_of m plan) j) o writes) in
        let further : j < k = ltb-true j k (sym (below j writes) ∙ own_released) in
        put_back_same was.objects before.objects object (new_value_of m work (was.lent j)) o (old.objects o j front)
        ∙ (ap (λ lent. slice_get (put_back before.objects object (new_value_of m work lent)) o) lent_there
        ∙ (ap (λ (r : Results X O). slice_get r.objects o) (sym (ser_further m plan opening j work at))
        ∙ sym (unwritten m plan opening o (suc j) k (omega arith) (λ i from before_k more.
        let ne : j ≢ i = omega arith in
        let is : ltb i k ≡ ltb i j = sym (below i more) ∙ (other_released i ne ∙ front i more) in
        absurd (cc (sym (lt-ltb i k before_k) ∙ (is ∙ le-ltb i j (omega arith))))))))
    object_released o k below false writes =
        let was = values m plan opening history in
        put_back_other was.objects (written_object (m.requests work)) (new_value_of m work (was.lent j)) o
        (λ e.
        let asks : asks_to_write (requests_of (asks_of m plan) j) o ≡ true = rw (asks_at m plan j work at) (written_asks (m.requests work) o e) in
        absurd (cc (sym writes ∙ asks)))
        ∙ old.objects o k (λ i more. elim (eqb_tells j i) [
          | inl t ↦ absurd (cc (sym writes ∙ (ap (λ n. asks_to_write (requests_of (asks_of m plan) n) o) t.1 ∙ more)))
          | inr n ↦ sym (other_released i n.1) ∙ below i more
        ])

    outcome_released : (i : ℕ) → is_released (status_of (history ++ event_of kind.Release j seat ∷ []) i) ≡ true
        → (give_back m j work (values m plan opening history)).outcome i ≡ slice_get (ser m plan opening).outcomes i
    outcome_released i done =
        let was = values m plan opening history in
        let answer = λ (lent : Lent X). Some (outcome_of m work lent) in
        elim (eqb_tells j i) [
          | inl t ↦
              subst (λ k. with_at was.outcome j (answer (was.lent j)) k ≡ slice_get (ser m plan opening).outcomes k) t.1
              (with_at_own was.outcome j (answer (was.lent j)) ∙ (ap answer lent_there ∙ sym (outcome_at m plan opening j work at)))
          | inr n ↦ with_at_other was.outcome j i (answer (was.lent j)) n.1 ∙ old.outcomes i (sym (other_released i n.1) ∙ done)
        ]

    unanswered_still : (i : ℕ) → is_released (status_of (history ++ event_of kind.Release j seat ∷ []) i) ≡ false → (give_back m j work (values m plan opening history)).outcome i ≡ None
    unanswered_still i undone =
        let was = values m plan opening history in
        elim (eqb_tells j i) [
          | inl t ↦ absurd (cc (sym own_released ∙ (ap (λ k. is_released (status_of (history ++ event_of kind.Release j seat ∷ []) k)) t.1 ∙ undone)))
          | inr n ↦ with_at_other was.outcome j i _ n.1 ∙ old.unanswered i (sym (other_released i n.1) ∙ undone)
        ]

    lent_still : (i : ℕ) → HasSeat (history ++ event_of kind.Release j seat ∷ []) i → (values m plan opening history).lent i ≡ lent_by (ser m (take i plan) opening).objects (requests_of (asks_of m plan) i)
    lent_still i dispatched =
        old.lent i (elim (eqb_tells j i) [
          | inl t ↦ subst (HasSeat history) t.1 (out_has_seat (status_of history j) may.1)
          | inr n ↦ same_dispatched (asks_of m plan) history kind.Release j seat old.steady may i n.1 dispatched
        ])

    agrees_released : Agrees m plan opening (history ++ event_of kind.Release j seat ∷ [])
    agrees_released =
        record {
          steady = steady_more (asks_of m plan) history kind.Release j seat old.steady may;
          objects = λ o k below. ap (λ (v : Values X O). slice_get v.objects o) gives ∙ object_released o k below (asks_to_write (requests_of (asks_of m plan) j) o) refl;
          lent = λ i dispatched. ap (λ (v : Values X O). v.lent i) gives ∙ lent_still i dispatched;
          outcomes = λ i done. ap (λ (v : Values X O). v.outcome i) gives ∙ outcome_released i done;
          unanswered = λ i undone. ap (λ (v : Values X O). v.outcome i) gives ∙ unanswered_still i undone;
        }

  agrees_more : (history : List Event) (act : EventKind) (j seat : ℕ) → Agrees m plan opening history → MayCome (asks_of m plan) history (event_of act j seat) → Agrees m plan opening (history ++ event_of act j seat ∷ [])
  agrees_more history kind.Request j seat old may = agrees_requested history j seat old may
  agrees_more history kind.Dispatch j seat old may =
      let work = there plan j (omega (arith, may.0, length-map plan m.requests)) in
      agrees_dispatched history j seat work.0 work.1 old may
  agrees_more history kind.Release j seat old may =
      let work = there plan j (omega (arith, may.0, length-map plan m.requests)) in
      agrees_released history j seat work.0 work.1 old may

  pub agrees : (history : List Event) → IsLegal (asks_of m plan) history → Agrees m plan opening history
  agrees history legal = along (asks_of m plan) (Agrees m plan opening) agrees_none (λ before event old may. agrees_more before event.kind event.entry event.seat old may) history legal
