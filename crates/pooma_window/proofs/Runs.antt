-- Entries that are run one at a time: which may be run then, and what is kept when one more is issued, or is run.
use Rattle.std.proofs.Common.{◌≡◌, ◌≢◌, ◌<◌, ℕ, true, false, List, length, Some, refl, sym, ◌∙◌, ap, subst, inl, inr}
use Rattle.std.proofs.lemmas.Bool.Decides.{eqb_tells, leb_tells}
use Rattle.pooma_machine.specs.declared.step.Request.{Request}
use Rattle.pooma_machine.specs.declared.step.Event.{Event}
use Rattle.pooma_machine.specs.declared.step.EventKind.TheVariants as kind
use Rattle.pooma_machine.specs.declared.step.Status.{Status}
use Rattle.pooma_machine.specs.declared.step.Status.TheVariants as status
use Rattle.pooma_machine.specs.Steps.{IsReady, IsLeastUnreleased, status_of, is_released}
use Rattle.pooma_machine.specs.Became.{IsListOf}
use Rattle.pooma_window.specs.Questions.{Question, IsFree, IsOpen}
use Rattle.pooma_window.specs.Running.{HasRun, lent, ran}
use Rattle.pooma_window.proofs.Statuses.{status_own, status_other, waiting_else, true_or_false}

module _ (plan : List (List Request)) (history : List Event) (questions : List Question) (run : HasRun plan history questions) where
  -- an entry that has a status is one of the plan
  pub known_is_there : (j : ℕ) (now : Status) → status_of history j ≡ Some now → j < length plan
  known_is_there j now is = elim (leb_tells (length plan) j) [ inl late ↦ absurd (cc (sym (run.beyond j late.1) ∙ is)) | inr early ↦ early.1 ]

  pub unreleased_if_open : (j : ℕ) → IsOpen questions j → is_released (status_of history j) ≡ false
  unreleased_if_open j unanswered =
      elim (true_or_false (is_released (status_of history j))) [ inl released ↦ absurd (unanswered ((run.released j).0 released)) | inr not ↦ not ]

  pub released_if_not_open : (j : ℕ) → (IsOpen questions j → ⊥) → is_released (status_of history j) ≡ true
  released_if_not_open j answered =
      elim (true_or_false (is_released (status_of history j))) [
        | inl released ↦ released
        | inr not ↦ absurd (answered (λ there. cc (sym not ∙ (run.released j).1 there)))
      ]

  -- the entries that are free are those that are ready
  pub free_of_ready : (j : ℕ) → IsReady plan history j → IsFree plan questions j
  free_of_ready j ready =
      record {
        there = known_is_there j status.Waiting ready.0;
        unanswered = λ there. cc (sym (ap is_released ready.0) ∙ (run.released j).1 there);
        apart = λ i earlier conflict unanswered. unanswered ((run.released i).0 (ready.1 i earlier conflict));
      }

  pub ready_of_free : (j : ℕ) → IsFree plan questions j → IsReady plan history j
  ready_of_free j free = (
    waiting_else (status_of history j) (run.issued j free.there) (run.none_out j) (unreleased_if_open j free.unanswered),
    λ i earlier conflict. released_if_not_open i (free.apart i earlier conflict),
  )

  pub free_list : (numbers : List ℕ) → IsListOf (IsReady plan history) numbers → IsListOf (IsFree plan questions) numbers
  free_list numbers list =
      record {
        ascending = list.ascending;
        exactly = λ j. (λ there. free_of_ready j ((list.exactly j).0 there), λ free. (list.exactly j).1 (ready_of_free j free));
      }

  -- nothing holds the least unreleased entry back
  pub least_is_ready : (j : ℕ) → IsLeastUnreleased (length plan) history j → IsReady plan history j
  least_is_ready j least =
      (waiting_else (status_of history j) (run.issued j least.there) (run.none_out j) least.unreleased, λ i earlier conflict. least.before i earlier)

module _ (plan : List (List Request)) (history : List Event) (j : ℕ) (ready : IsReady plan history j) where
  lent_own : status_of (lent history j) j ≡ Some (status.Out 0)
  lent_own = status_own history kind.Dispatch j 0

  pub ran_own : status_of (ran history j) j ≡ Some (status.Released 0)
  ran_own = status_own (lent history j) kind.Release j 0 ∙ rw lent_own refl

  lent_other : (i : ℕ) → j ≢ i → status_of (lent history j) i ≡ status_of history i
  lent_other i ne = status_other history kind.Dispatch j 0 i ne

  pub ran_other : (i : ℕ) → j ≢ i → status_of (ran history j) i ≡ status_of history i
  ran_other i ne = status_other (lent history j) kind.Release j 0 i ne ∙ lent_other i ne

  -- its dispatch makes no other entry ready or not ready
  lent_released : (i : ℕ) → is_released (status_of (lent history j) i) ≡ is_released (status_of history i)
  lent_released i =
      elim (eqb_tells j i) [
        | inl t ↦ subst (λ k. is_released (status_of (lent history j) k) ≡ is_released (status_of history k)) t.1 (ap is_released lent_own ∙ sym (ap is_released ready.0))
        | inr n ↦ ap is_released (lent_other i n.1)
      ]

  ready_is_other : (k : ℕ) → IsReady plan (lent history j) k → j ≢ k
  ready_is_other k other same = cc (sym lent_own ∙ ap (status_of (lent history j)) same ∙ other.0)

  pub ready_while_lent : (k : ℕ) → IsReady plan (lent history j) k → IsReady plan history k × (k ≢ j)
  ready_while_lent k other = (
    (
      sym (lent_other k (ready_is_other k other)) ∙ other.0,
      λ i earlier conflict. sym (lent_released i) ∙ other.1 i earlier conflict,
    ),
    λ same. ready_is_other k other (sym same),
  )

  pub stays_while_lent : (k : ℕ) → IsReady plan history k → k ≢ j → IsReady plan (lent history j) k
  stays_while_lent k other ne =
      (lent_other k (λ same. ne (sym same)) ∙ other.0, λ i earlier conflict. lent_released i ∙ other.1 i earlier conflict)

  -- nor does its release make one not ready
  ran_released : (i : ℕ) → is_released (status_of (lent history j) i) ≡ true → is_released (status_of (ran history j) i) ≡ true
  ran_released i released =
      elim (eqb_tells j i) [
        | inl t ↦ subst (λ k. is_released (status_of (ran history j) k) ≡ true) t.1 (ap is_released ran_own)
        | inr n ↦ ap is_released (status_other (lent history j) kind.Release j 0 i n.1) ∙ released
      ]

  pub stays_when_ran : (k : ℕ) → IsReady plan (lent history j) k → IsReady plan (ran history j) k
  stays_when_ran k other = (
    status_other (lent history j) kind.Release j 0 k (ready_is_other k other) ∙ other.0,
    λ i earlier conflict. ran_released i (other.1 i earlier conflict),
  )
