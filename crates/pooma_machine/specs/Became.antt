-- Which entries a release made ready, and how an answer of bounded size tells them.
use Rattle.std.specs.Prelude.{◌≡◌, ◌==◌, ◌↔◌, ◌⊎◌, ◌<◌, ℕ, Bool, IsTrue, List, [], ◌∷◌, length, take, Contains, AllPairs, nat_lt, if◌then◌else◌}
use Rattle.pooma_queue.specs.declared.queue.Mode.{Mode}
use Rattle.pooma_queue.specs.declared.queue.Asked.{Asked}
use Rattle.pooma_queue.specs.Requests.{conflicts}
use Rattle.pooma_machine.specs.declared.step.Request.{Request}
use Rattle.pooma_machine.specs.declared.step.Event.{Event}
use Rattle.pooma_machine.specs.Steps.{IsReady, ConflictOver}

-- an entry became ready: it may be dispatched after the second history, and could not be after the first
abbrev pub BecameReady : List (List Request) → List Event → List Event → ℕ → Type 0
BecameReady plan before after j = IsReady plan after j × (IsReady plan before j → ⊥)

-- each number is below those behind it
abbrev pub IsAscending : List ℕ → Type 0
IsAscending numbers = AllPairs (λ a b. a < b) numbers

-- these are, in order, all numbers for which it holds
pub record IsListOf (holds : ℕ → Type 0) (numbers : List ℕ) : Type 0 where
  pub ascending : IsAscending numbers
  pub exactly : (j : ℕ) → Contains numbers j ↔ holds j

-- what contracts see of the answer: the entries that it names, and whether there are further ones
pub record Woken : Type 0 where
  pub entries : List ℕ
  pub more : Bool

-- the answer names the first 16 entries of a list, and says whether the list goes on
abbrev pub Names : Woken → List ℕ → Type 0
Names woken whole = (woken.entries ≡ take 16 whole) × (woken.more ≡ nat_lt 16 (length whole))

-- the answer names the entries that became ready
abbrev pub TellsReady : List (List Request) → List Event → List Event → Woken → Type 0
TellsReady plan before after woken = (whole : List ℕ) × IsListOf (BecameReady plan before after) whole × Names woken whole

-- an ascending list with this number at its place, once
abbrev pub with_entry : ℕ → List ℕ → List ℕ
with_entry j [] = j ∷ []
with_entry j (k ∷ ks) = if nat_lt j k then j ∷ k ∷ ks else if j == k then k ∷ ks else k ∷ with_entry j ks

-- with each ascending list that the old answer names, the new one names that list with the numbers put in for which it holds
abbrev pub Notes : (ℕ → Type 0) → Woken → Woken → Type 0
Notes holds old new = (whole : List ℕ) → IsAscending whole → Names old whole
    → (wider : List ℕ) × IsAscending wider × Names new wider × ((j : ℕ) → Contains wider j ↔ (Contains whole j ⊎ holds j))

-- what is asked for is asked by a later entry, conflicts with a request in this mode, and may be had
pub record IsFreed (plan : List (List Request)) (history : List Event) (j : ℕ) (mode : Mode) (asked : Asked) : Type 0 where
  pub later : j < asked.entry
  pub conflicting : IsTrue (conflicts asked.mode mode)
  pub ready : IsReady plan history asked.entry

-- a later entry may be dispatched, and conflicts with this one over the object
pub record IsFreedOver (plan : List (List Request)) (history : List Event) (j object entry : ℕ) : Type 0 where
  pub later : j < entry
  pub over : ConflictOver plan j entry object
  pub ready : IsReady plan history entry

-- it does so over some object
abbrev pub IsFreedBy : List (List Request) → List Event → ℕ → ℕ → Type 0
IsFreedBy plan history j entry = (object : ℕ) × IsFreedOver plan history j object entry
