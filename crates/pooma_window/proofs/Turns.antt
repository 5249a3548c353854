-- One turn: a question is answered, and the entry at the place is run.
use Rattle.std.proofs.Common.{◌≡◌, ◌≢◌, ◌↔◌, ◌<◌, ℕ, List, [], ◌∷◌, ◌++◌, length, get_or, Contains, Option, Some, None, refl, sym, subst, IsSome, append-nil, ap, Result, Ok, Err, OnOk, OnErr, ◌∙◌, ◌*◌, append_assoc, arith}
use Rattle.std.proofs.lemmas.List.{get_or_default}
use Rattle.pooma_machine.specs.declared.step.Request.{Request}
use Rattle.pooma_machine.specs.declared.step.Event.{Event}
use Rattle.pooma_machine.specs.Steps.{Conflict, IsReady, status_of}
use Rattle.pooma_machine.specs.Became.{BecameReady, IsListOf, Names, TellsReady, Woken}
use Rattle.pooma_window.specs.Questions.{Question, AreAsked, Follows, question, followed_by}
use Rattle.pooma_window.specs.Running.{HasRun, lent, ran}
use Rattle.pooma_window.proofs.Choosing.{AreReady, IsNew}
use Rattle.pooma_window.proofs.Runs.{free_list, ready_while_lent, stays_while_lent, stays_when_ran}
use Rattle.pooma_window.proofs.Growth.{asked_more, run_more}

-- what holds anyway holds where a call succeeds, and where it fails
pub on_ok : {X E P : Type 0} (r : Result X E) → P → OnOk r P
on_ok (Ok x) holds = holds
on_ok (Err e) holds = tt

pub on_err : {X E P : Type 0} (r : Result X E) → P → OnErr r P
on_err (Ok x) holds = tt
on_err (Err e) holds = holds

pub followed_by_none : (known : Option (List Question)) → followed_by known [] ≡ known
followed_by_none None = refl
followed_by_none (Some questions) = ap Some (append-nil questions)

-- questions behind questions
pub followed_then : (first now later : Option (List Question)) (questions more : List Question) → now ≡ followed_by first questions → later ≡ followed_by now more → later ≡ followed_by first (questions ++ more)
followed_then None now later questions more is then = then ∙ ap (λ known. followed_by known more) is
followed_then (Some known) now later questions more is then = then ∙ (ap (λ known. followed_by known more) is ∙ ap Some (append_assoc known questions more))

-- there is one question an entry where there are three events an entry
pub one_each : (plan : List (List Request)) (history : List Event) (questions : List Question) → HasRun plan history questions → length history ≡ 3 * length plan → length questions ≡ length plan
one_each plan history questions run all = let events = run.events in omega arith

pub waiting_is_known : (plan : List (List Request)) (history : List Event) (j : ℕ) → IsReady plan history j → IsSome (status_of history j)
waiting_is_known plan history j ready = rw ready.0 refl

module _ (plan : List (List Request)) (history : List Event) (list : List ℕ) (list_of : IsListOf (IsReady plan history) list) (place : ℕ) (within : place < length list) (entry : ℕ) (is : entry ≡ get_or list place 0) where
  pub picked_ready : IsReady plan history entry
  picked_ready = (list_of.exactly entry).0 (subst (Contains list) (sym is) (place, within, get_or_default list place (get_or list place 0) 0 within))

  pub picked_follows : (questions : List Question) → HasRun plan history questions → Follows plan questions (question list place)
  picked_follows questions run = record { list = free_list plan history questions run list list_of; place = within }

  pub turn_asked : (questions : List Question) → HasRun plan history questions → AreAsked plan (questions ++ question list place ∷ [])
  turn_asked questions run = asked_more plan questions (question list place) run.asked (picked_follows questions run)

  pub turn_run : (questions : List Question) → HasRun plan history questions → HasRun plan (ran history entry) (questions ++ question list place ∷ [])
  turn_run questions run = run_more plan history questions run entry picked_ready (question list place) (sym is) (picked_follows questions run)

  module _ (left : List ℕ) (others : (j : ℕ) → Contains left j ↔ (Contains list j × (j ≢ entry))) where
    left_while_lent : (j : ℕ) → Contains left j → IsReady plan (lent history entry) j
    left_while_lent j there = let had = (others j).0 there in stays_while_lent plan history entry picked_ready j ((list_of.exactly j).0 had.0) had.1

    pub left_ready : AreReady plan (ran history entry) left
    left_ready j there = stays_when_ran plan history entry picked_ready j (left_while_lent j there)

    pub new_named : (woken : Woken) → TellsReady plan (lent history entry) (ran history entry) woken
        → (whole : List ℕ) × IsListOf (IsNew plan (ran history entry) left) whole × Names woken whole
    new_named woken tells = (
      tells.0,
      record {
        ascending = tells.1.ascending;
        exactly = λ j. (
          λ there. let became = (tells.1.exactly j).0 there in (became.0, λ before. became.1 (left_while_lent j before)),
          λ new. (tells.1.exactly j).1 (
            new.0,
            λ before. let other = ready_while_lent plan history entry picked_ready j before in new.1 ((others j).1 ((list_of.exactly j).1 other.0, other.1)),
          ),
        );
      },
      tells.2,
    )

    -- and each of these conflicts with the entry, where what became ready does
    pub new_freed : ((j : ℕ) → BecameReady plan (lent history entry) (ran history entry) j → Conflict plan entry j)
        → (j : ℕ) → IsReady plan (ran history entry) j → (Contains left j → ⊥) → Conflict plan entry j
    new_freed freed j ready not =
        freed j (ready, λ before. let other = ready_while_lent plan history entry picked_ready j before in not ((others j).1 ((list_of.exactly j).1 other.0, other.1)))
