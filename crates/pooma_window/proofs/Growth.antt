-- What is kept of entries that are run one at a time when one more is issued, and when one more is run.
use Rattle.std.proofs.Common.{◌≡◌, ◌≢◌, ◌+◌, ◌<◌, ℕ, true, List, [], ◌∷◌, ◌++◌, length, map, filter, Contains, All, Some, refl, sym, ◌∙◌, ap, subst, arith, inl, inr, length-append, append-nil}
use Rattle.std.proofs.lemmas.Bool.Decides.{eqb_tells}
use Rattle.std.proofs.lemmas.List.{map-append}
use Rattle.std.proofs.lemmas.List.Elements.{All-append, filter-append}
use Rattle.pooma_logic.proofs.Elements.{contains_none}
use Rattle.pooma_machine.specs.declared.step.Request.{Request}
use Rattle.pooma_machine.specs.declared.step.Event.{Event}
use Rattle.pooma_machine.specs.declared.step.EventKind.TheVariants as kind
use Rattle.pooma_machine.specs.declared.step.Status.TheVariants as status
use Rattle.pooma_machine.specs.Steps.{IsReady, status_of, is_out, is_released, event_of}
use Rattle.pooma_window.specs.Questions.{Question, AreAsked, Follows, answered, all_answered}
use Rattle.pooma_window.specs.Windows.{dispatched, is_dispatch}
use Rattle.pooma_window.specs.Running.{HasRun, lent, ran}
use Rattle.pooma_window.proofs.Lists.{behind_cases, behind_others, behind_last, each_behind}
use Rattle.pooma_window.proofs.Statuses.{status_own, status_other}
use Rattle.pooma_window.proofs.Runs.{known_is_there, ran_own, ran_other}

pub asked_more : (plan : List (List Request)) (questions : List Question) (q : Question) → AreAsked plan questions → Follows plan questions q → AreAsked plan (questions ++ q ∷ [])
asked_more plan questions q asked follows = each_behind (Follows plan) questions q asked follows

dispatched_more : (history later : List Event) → dispatched (history ++ later) ≡ dispatched history ++ dispatched later
dispatched_more history later = ap (map (λ event. event.entry)) (filter-append is_dispatch history later) ∙ map-append (λ event. event.entry) (filter is_dispatch history) (filter is_dispatch later)

seats_more : (history : List Event) (event : Event) → event.seat ≡ 0 → All (λ e. e.seat ≡ 0) history → All (λ e. e.seat ≡ 0) (history ++ event ∷ [])
seats_more history event zero seats = All-append (λ e. e.seat ≡ 0) history (event ∷ []) seats (one event zero)
  where
    one : (event : Event) → event.seat ≡ 0 → All (λ e. e.seat ≡ 0) (event ∷ [])
    one event zero k d within = let first : k ≡ 0 = omega arith in rw first zero

-- before the first event
pub nothing_run : HasRun [] [] []
nothing_run =
    record {
      issued = λ j within none. absurd (omega arith);
      beyond = λ j late. refl;
      none_out = λ j. refl;
      released = λ j. (λ never. absurd (cc never), λ there. absurd (contains_none j there));
      order = refl;
      seats = λ k d within. absurd (omega arith);
      events = refl;
      asked = λ k q at. absurd (cc at);
    }

-- after one entry more was issued
pub run_issued : (plan : List (List Request)) (requests : List Request) (history : List Event) (j : ℕ) → j ≡ length plan → HasRun plan history []
    → HasRun (plan ++ requests ∷ []) (history ++ event_of kind.Request j 0 ∷ []) []
run_issued plan requests history j new run =
    record {
      issued = λ k within none.
          elim (eqb_tells j k) [
            | inl t ↦ cc (sym (own k t.1) ∙ none)
            | inr n ↦ let early : k < length plan = omega (arith, longer, n.1) in run.issued k early (sym (other k n.1) ∙ none)
          ];
      beyond = λ k late. let ne : j ≢ k = omega (arith, longer) in other k ne ∙ run.beyond k (omega (arith, longer));
      none_out = λ k. elim (eqb_tells j k) [ inl t ↦ ap is_out (own k t.1) | inr n ↦ ap is_out (other k n.1) ∙ run.none_out k ];
      released = λ k. (
        λ released. elim (eqb_tells j k) [ inl t ↦ absurd (cc (sym (ap is_released (own k t.1)) ∙ released)) | inr n ↦ (run.released k).0 (sym (ap is_released (other k n.1)) ∙ released) ],
        λ there. absurd (contains_none k there),
      );
      order = dispatched_more history (event_of kind.Request j 0 ∷ []) ∙ rw run.order refl;
      seats = seats_more history (event_of kind.Request j 0) refl run.seats;
      events =
          let events = run.events in
          omega (arith, longer, length-append history (event_of kind.Request j 0 ∷ []));
      asked = λ k q at. absurd (cc at);
    }
  where
    longer : length (plan ++ requests ∷ []) ≡ length plan + 1
    longer = length-append plan (requests ∷ [])

    own : (k : ℕ) → j ≡ k → status_of (history ++ event_of kind.Request j 0 ∷ []) k ≡ Some status.Waiting
    own k same = subst (λ i. status_of (history ++ event_of kind.Request j 0 ∷ []) i ≡ Some status.Waiting) same (status_own history kind.Request j 0)

    other : (k : ℕ) → j ≢ k → status_of (history ++ event_of kind.Request j 0 ∷ []) k ≡ status_of history k
    other k ne = status_other history kind.Request j 0 k ne

-- after the answer to one question more was run
module _ (plan : List (List Request)) (history : List Event) (questions : List Question) (run : HasRun plan history questions) (j : ℕ) (ready : IsReady plan history j) (q : Question) (answer : answered q ≡ j) (follows : Follows plan questions q) where
  there : j < length plan
  there = known_is_there plan history questions run j status.Waiting ready.0

  all : all_answered (questions ++ q ∷ []) ≡ all_answered questions ++ j ∷ []
  all = map-append answered questions (q ∷ []) ∙ ap (λ i. all_answered questions ++ i ∷ []) answer

  own : (k : ℕ) → j ≡ k → status_of (ran history j) k ≡ Some (status.Released 0)
  own k same = subst (λ i. status_of (ran history j) i ≡ Some (status.Released 0)) same (ran_own plan history j ready)

  other : (k : ℕ) → j ≢ k → status_of (ran history j) k ≡ status_of history k
  other k ne = ran_other plan history j ready k ne

  among : (k : ℕ) → is_released (status_of (ran history j) k) ≡ true → Contains (all_answered questions ++ j ∷ []) k
  among k released =
      elim (eqb_tells j k) [
        | inl t ↦ subst (Contains (all_answered questions ++ j ∷ [])) t.1 (behind_last (all_answered questions) j)
        | inr n ↦ behind_others (all_answered questions) j k ((run.released k).0 (sym (ap is_released (other k n.1)) ∙ released))
      ]

  released_among : (k : ℕ) → Contains (all_answered questions ++ j ∷ []) k → is_released (status_of (ran history j) k) ≡ true
  released_among k among =
      elim (eqb_tells j k) [
        | inl t ↦ ap is_released (own k t.1)
        | inr n ↦
            elim (behind_cases (all_answered questions) j k among) [
              | inl before ↦ ap is_released (other k n.1) ∙ (run.released k).1 before
              | inr last ↦ absurd (n.1 (sym last))
            ]
      ]

  pub run_more : HasRun plan (ran history j) (questions ++ q ∷ [])
  run_more =
      record {
        issued = λ k within none. elim (eqb_tells j k) [ inl t ↦ cc (sym (own k t.1) ∙ none) | inr n ↦ run.issued k within (sym (other k n.1) ∙ none) ];
        beyond = λ k late. let ne : j ≢ k = omega (arith, there) in other k ne ∙ run.beyond k late;
        none_out = λ k. elim (eqb_tells j k) [ inl t ↦ ap is_out (own k t.1) | inr n ↦ ap is_out (other k n.1) ∙ run.none_out k ];
        released = λ k. (λ released. rw all (among k released), λ there. released_among k (rw all at there));
        order = dispatched_more (lent history j) (event_of kind.Release j 0 ∷ []) ∙ (append-nil (dispatched (lent history j)) ∙ dispatched_more history (event_of kind.Dispatch j 0 ∷ []) ∙ (ap (λ entries. entries ++ j ∷ []) run.order ∙ sym all));
        seats = seats_more (lent history j) (event_of kind.Release j 0) refl (seats_more history (event_of kind.Dispatch j 0) refl run.seats);
        events =
            let events = run.events in
            omega (arith, length-append (lent history j) (event_of kind.Release j 0 ∷ []), length-append history (event_of kind.Dispatch j 0 ∷ []), length-append questions (q ∷ []));
        asked = asked_more plan questions q run.asked follows;
      }
