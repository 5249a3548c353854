-- How far the entries of a plan were run, one at a time. No contract of a public call cites this.
use Rattle.std.specs.Prelude.{◌≡◌, ◌↔◌, ◌+◌, ◌*◌, ◌<◌, ◌≤◌, ◌++◌, ◌∷◌, [], ℕ, IsTrue, List, length, All, Contains, None}
use Rattle.pooma_machine.specs.declared.step.Request.{Request}
use Rattle.pooma_machine.specs.declared.step.Event.{Event}
use Rattle.pooma_machine.specs.declared.step.EventKind.TheVariants as kind
use Rattle.pooma_machine.specs.Steps.{NoneOut, event_of, status_of, is_released}
use Rattle.pooma_window.specs.Questions.{Question, AreAsked, all_answered}
use Rattle.pooma_window.specs.Windows.{dispatched}

-- all entries of the plan were issued, and those released that are the answers to these questions; none is out
pub record HasRun (plan : List (List Request)) (history : List Event) (questions : List Question) : Type 0 where
  pub issued : (j : ℕ) → j < length plan → status_of history j ≡ None → ⊥
  pub beyond : (j : ℕ) → length plan ≤ j → status_of history j ≡ None
  pub none_out : NoneOut history
  pub released : (j : ℕ) → IsTrue (is_released (status_of history j)) ↔ Contains (all_answered questions) j
  pub order : dispatched history ≡ all_answered questions
  pub seats : All (λ event. event.seat ≡ 0) history
  pub events : length history ≡ length plan + 2 * length questions
  pub asked : AreAsked plan questions

-- what has happened after the entry was dispatched, and after it was released too
abbrev pub lent : List Event → ℕ → List Event
lent history j = history ++ event_of kind.Dispatch j 0 ∷ []

abbrev pub ran : List Event → ℕ → List Event
ran history j = lent history j ++ event_of kind.Release j 0 ∷ []
