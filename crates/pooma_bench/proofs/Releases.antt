-- What holds while the entries of a window are released, one after another.
use Rattle.std.proofs.Common.{◌≡◌, ◌≢◌, ◌+◌, ◌<◌, ◌≤◌, ◌^◌, ℕ, suc, true, IsTrue, List, [], ◌∷◌, ◌++◌, length, get_or, Some, None, All, sum, IsSomeAnd, slice_get, sym, ◌∙◌, ap, subst, arith, inl, inr, length-append, option_map, option_and_then, Option}
use Rattle.std.proofs.lemmas.Bool.Decides.{eqb_tells, leb_tells}
use Rattle.std.proofs.lemmas.Option.{slice_get-get_or}
use Rattle.pooma_machine.specs.declared.step.Request.{Request}
use Rattle.pooma_machine.specs.declared.step.Event.{Event}
use Rattle.pooma_machine.specs.declared.step.EventKind.TheVariants as kind
use Rattle.pooma_machine.specs.Steps.{IsWaiting, IsReady, IsLeastReady, is_released, status_of, event_of, next}
use Rattle.pooma_machine.specs.Values.{Account, asks_of, put_back, written_object}
use Rattle.pooma_bench.specs.declared.window.TheConstants.{OBJECTS}
use Rattle.pooma_bench.specs.Increments.{increments}
use Rattle.pooma_bench.specs.Windows.{WritesAnObject, present, HasReleased}
use Rattle.pooma_machine.proofs.Plans.{status_own, status_other}
use Rattle.pooma_bench.proofs.Objects.{incremented, objects_released, object_added}

-- a work adds one to the sum of the objects
added : (objects : List ℕ) (work : List Request) → length objects ≡ OBJECTS → sum objects + 1 < 2 ^ 64 → WritesAnObject work
    → (length (incremented objects work) ≡ length objects) × (sum (incremented objects work) ≡ sum objects + 1)
added objects work count few writes = at (written_object work) writes
  where
    new : Option ℕ → Option ℕ
    new object = option_map (λ old. increments.new_value work old []) (option_and_then (slice_get objects) object)

    at : (object : Option ℕ) → IsSomeAnd object (λ o. o < OBJECTS)
        → (length (put_back objects object (new object)) ≡ length objects) × (sum (put_back objects object (new object)) ≡ sum objects + 1)
    at None never = absurd never
    at (Some o) within = object_added objects o (omega arith) few

-- an entry that is dispatched and released is one more
pub released_more : (machine now : Account (List Request) ℕ) (entries released seat : ℕ) → HasReleased machine entries released → released < entries
    → now.plan ≡ machine.plan → now.opening ≡ machine.opening
    → now.history ≡ (machine.history ++ event_of kind.Dispatch released seat ∷ []) ++ event_of kind.Release released seat ∷ []
    → HasReleased now entries (released + 1)
released_more machine now entries released seat old more plan opening history =
    record {
      issued = ap length plan ∙ old.issued;
      limit = old.limit;
      within = omega arith;
      writes = subst (All WritesAnObject) (sym plan) old.writes;
      done = done;
      waiting = λ j from below. (let ne : released ≢ j = omega arith in same j ne ∙ old.waiting j (omega arith) below);
      events = (let events = old.events in
          omega (arith, ap length history, length-append sent (event_of kind.Release released seat ∷ []), length-append machine.history (event_of kind.Dispatch released seat ∷ [])));
      objects = ap length objects ∙ (step.0 ∙ old.objects);
      sum = ap sum objects ∙ (step.1 ∙ ap (λ n. n + 1) old.sum);
    }
  where
    sent : List Event
    sent = machine.history ++ event_of kind.Dispatch released seat ∷ []

    work : List Request
    work = get_or machine.plan released []

    there : slice_get machine.plan released ≡ Some work
    there = let issued = old.issued in slice_get-get_or machine.plan released [] (omega arith)

    objects : present now ≡ incremented (present machine) work
    objects = rw (plan, opening, history) (objects_released machine.plan machine.opening machine.history released seat work there)

    step : (length (incremented (present machine) work) ≡ length (present machine)) × (sum (incremented (present machine) work) ≡ sum (present machine) + 1)
    step =
        let summed = old.sum in
        let limit = old.limit in
        let issued = old.issued in
        added (present machine) work old.objects (omega arith) (old.writes released [] (omega arith))

    same : (j : ℕ) → released ≢ j → status_of now.history j ≡ status_of machine.history j
    same j ne = ap (λ h. status_of h j) history ∙ (status_other sent kind.Release released seat j ne ∙ status_other machine.history kind.Dispatch released seat j ne)

    own : is_released (status_of now.history released) ≡ true
    own =
        ap (λ h. is_released (status_of h released)) history
        ∙ ap is_released (status_own sent kind.Release released seat ∙ ap (next kind.Release seat) (status_own machine.history kind.Dispatch released seat))

    done : (j : ℕ) → j < released + 1 → IsTrue (is_released (status_of now.history j))
    done j h =
        elim (eqb_tells released j) [
          | inl t ↦ subst (λ i. is_released (status_of now.history i) ≡ true) t.1 own
          | inr n ↦
              let ne : released ≢ j = n.1 in
              ap is_released (same j ne) ∙ old.done j (omega arith)
        ]

-- the first entry that is left may be dispatched
first_ready : (machine : Account (List Request) ℕ) (entries released : ℕ) → HasReleased machine entries released → released < entries
    → IsReady (asks_of increments machine.plan) machine.history released
first_ready machine entries released at more = (at.waiting released (omega arith) more, λ i below conflict. at.done i below)

-- an entry that waits is one that is left
left_waits : (machine : Account (List Request) ℕ) (entries released j : ℕ) → HasReleased machine entries released → IsWaiting machine.history j → released ≤ j
left_waits machine entries released j at waits =
    elim (leb_tells (suc j) released) [
      | inl t ↦ absurd (cc (ap is_released waits, at.done j t.1))
      | inr f ↦ omega (arith, f.1)
    ]

-- the least entry that may be dispatched is the first that is left
pub least_is_first : (machine : Account (List Request) ℕ) (entries released j : ℕ) → HasReleased machine entries released
    → IsLeastReady (asks_of increments machine.plan) machine.history 0 j → j < length machine.plan → (j ≡ released) × (released < entries)
least_is_first machine entries released j at least there =
    let from : released ≤ j = left_waits machine entries released j at least.ready.0 in
    let issued = at.issued in
    let below : j < entries = omega arith in
    let more : released < entries = omega arith in (
      elim (leb_tells (suc released) j) [
        | inl t ↦ absurd (least.before released (omega arith) t.1 (first_ready machine entries released at more))
        | inr f ↦ omega (arith, f.1)
      ],
      more,
    )

-- where none may be dispatched, none is left
pub none_ready_all_released : (machine : Account (List Request) ℕ) (entries released : ℕ) → HasReleased machine entries released
    → ((j : ℕ) → 0 ≤ j → IsReady (asks_of increments machine.plan) machine.history j → ⊥) → released ≡ entries
none_ready_all_released machine entries released at none =
    elim (leb_tells (suc released) entries) [
      | inl t ↦ absurd (none released (omega arith) (first_ready machine entries released at t.1))
      | inr f ↦ let within = at.within in omega (arith, f.1)
    ]
