-- What a window of works is that was completed.
use Rattle.std.specs.Prelude.{◌≡◌, ◌<◌, ℕ, Bool, true, false, List, map, filter, All, Option}
use Rattle.pooma_machine.specs.declared.step.Event.{Event}
use Rattle.pooma_machine.specs.declared.step.EventKind.{EventKind}
use Rattle.pooma_machine.specs.declared.step.EventKind.TheVariants as kind
use Rattle.pooma_machine.specs.Steps.{IsLegal}
use Rattle.pooma_machine.specs.Values.{Meaning, IsComplete, asks_of}
use Rattle.pooma_machine.specs.Told.{Window}
use Rattle.pooma_machine.specs.Journal.{Tells, entry_of}
use Rattle.pooma_window.specs.Questions.{Question, AreAsked, AreQuestionsOf, all_answered, followed_by}

-- the window has these works as its entries, and a legal history in which each of them was released
pub record IsWindowOf {W V O S : Type 0} (meaning : Meaning W V O S) (works : List W) (window : Window) : Type 0 where
  pub entries : window.entries ≡ map (entry_of meaning) works
  pub legal : IsLegal (asks_of meaning works) window.events
  pub complete : IsComplete works window.events

-- a window was told that is such a one
abbrev pub TellsOne : Option (List Window) → Option (List Window) → (Window → Type 0) → Type 0
TellsOne old new is = (window : Window) × is window × Tells old new window

abbrev pub dispatches : EventKind → Bool
dispatches kind.Request = false
dispatches kind.Dispatch = true
dispatches kind.Release = false

abbrev pub is_dispatch : Event → Bool
is_dispatch event = dispatches event.kind

-- the entries that were dispatched, in order
abbrev pub dispatched : List Event → List ℕ
dispatched events = map (λ event. event.entry) (filter is_dispatch events)

-- the window of these works as one thread completes it: all at seat 0, and dispatched as the questions were answered
pub record IsPicked {W V O S : Type 0} (meaning : Meaning W V O S) (works : List W) (questions : List Question) (window : Window) : Type 0 where
  pub whole : IsWindowOf meaning works window
  pub seats : All (λ event. event.seat ≡ 0) window.events
  pub asked : AreQuestionsOf (asks_of meaning works) questions
  pub order : dispatched window.events ≡ all_answered questions

-- each work asks for objects of which there are so many
abbrev pub AsksWithin : {W V O S : Type 0} → Meaning W V O S → ℕ → W → Type 0
AsksWithin meaning objects work = All (λ r. r.object < objects) (meaning.requests work)

-- one thread completed these works as this window: the questions that it asked came behind those before
abbrev pub IsPickedFrom : {W V O S : Type 0} → Meaning W V O S → List W → Window → Option (List Question) → Option (List Question) → Type 0
IsPickedFrom meaning works window old new = (questions : List Question) × IsPicked meaning works questions window × (new ≡ followed_by old questions)

-- it stopped before: so did the questions that it had asked till then
abbrev pub IsStopped : {W V O S : Type 0} → Meaning W V O S → List W → Option (List Question) → Option (List Question) → Type 0
IsStopped meaning works old new = (questions : List Question) × AreAsked (asks_of meaning works) questions × (new ≡ followed_by old questions)
