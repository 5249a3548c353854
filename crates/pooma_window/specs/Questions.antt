-- What a picker is asked, and which questions the entries of a window give rise to.
use Rattle.std.specs.Prelude.{◌≡◌, ◌<◌, ◌++◌, ℕ, Bool, List, map, length, take, slice_get, slice_index, Contains, Option, Some, option_map}
use Rattle.pooma_machine.specs.declared.step.Request.{Request}
use Rattle.pooma_machine.specs.Steps.{Conflict}
use Rattle.pooma_machine.specs.Became.{IsListOf}

-- a question: the entries to choose from, and the place among them that was the answer
pub record Question : Type 0 where
  pub ready : List ℕ
  pub place : ℕ

abbrev pub question : List ℕ → ℕ → Question
question ready place = record { ready = ready; place = place }

-- the questions that are known and then these; where none are known, none still are
abbrev pub followed_by : Option (List Question) → List Question → Option (List Question)
followed_by known later = option_map (λ questions. questions ++ later) known

-- the entry at the place that was the answer
abbrev pub answered : Question → ℕ
answered q = slice_index q.ready q.place

-- those of all questions, in order
abbrev pub all_answered : List Question → List ℕ
all_answered questions = map answered questions

-- an entry is open until it is an answer
abbrev pub IsOpen : List Question → ℕ → Type 0
IsOpen questions j = Contains (all_answered questions) j → ⊥

-- an entry of the plan is open, and conflicts with no earlier open entry
pub record IsFree (plan : List (List Request)) (questions : List Question) (j : ℕ) : Type 0 where
  pub there : j < length plan
  pub unanswered : IsOpen questions j
  pub apart : (i : ℕ) → i < j → Conflict plan i j → IsOpen questions i → ⊥

-- a question that comes after these: its list has, ascending, the entries that are free then, and the answer is a place in it
pub record Follows (plan : List (List Request)) (earlier : List Question) (q : Question) : Type 0 where
  pub list : IsListOf (IsFree plan earlier) q.ready
  pub place : q.place < length q.ready

-- each question comes after those before it
abbrev pub AreAsked : List (List Request) → List Question → Type 0
AreAsked plan questions = (k : ℕ) (q : Question) → slice_get questions k ≡ Some q → Follows plan (take k questions) q

-- the questions of a whole window: one for each entry
pub record AreQuestionsOf (plan : List (List Request)) (questions : List Question) : Type 0 where
  pub asked : AreAsked plan questions
  pub count : length questions ≡ length plan

-- what contracts see of a picker that keeps its questions: whether it answers the last place, and the questions
pub record Recorded : Type 0 where
  pub last : Bool
  pub questions : List Question
