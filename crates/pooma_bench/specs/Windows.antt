-- How far the entries of a measured window have come.
use Rattle.std.specs.Prelude.{◌≡◌, ◌+◌, ◌*◌, ◌<◌, ◌≤◌, ℕ, IsTrue, List, [], length, replicate, sum, All, IsSomeAnd}
use Rattle.pooma_machine.specs.declared.step.Request.{Request}
use Rattle.pooma_machine.specs.Steps.{IsWaiting, is_released, status_of}
use Rattle.pooma_machine.specs.Values.{Account, values, written_object}
use Rattle.pooma_bench.specs.declared.window.TheConstants.{OBJECTS, MOST_ENTRIES}
use Rattle.pooma_bench.specs.Increments.{increments}

-- a machine of no entries, whose objects are all 0
pub record IsFresh (machine : Account (List Request) ℕ) : Type 0 where
  pub plan : machine.plan ≡ []
  pub history : machine.history ≡ []
  pub opening : machine.opening ≡ replicate OBJECTS 0

-- the objects' present values
abbrev pub present : Account (List Request) ℕ → List ℕ
present machine = (values increments machine.plan machine.opening machine.history).objects

-- the work writes one of the objects
abbrev pub WritesAnObject : List Request → Type 0
WritesAnObject work = IsSomeAnd (written_object work) (λ object. object < OBJECTS)

-- a machine of so many entries: those below a number were dispatched and released, each of which added one to an object, and
-- the others are waiting
pub record HasReleased (machine : Account (List Request) ℕ) (entries released : ℕ) : Type 0 where
  pub issued : length machine.plan ≡ entries
  pub limit : entries ≤ MOST_ENTRIES
  pub within : released ≤ entries
  pub writes : All WritesAnObject machine.plan
  pub done : (j : ℕ) → j < released → IsTrue (is_released (status_of machine.history j))
  pub waiting : (j : ℕ) → released ≤ j → j < entries → IsWaiting machine.history j
  pub events : length machine.history ≡ entries + 2 * released
  pub objects : length (present machine) ≡ OBJECTS
  pub sum : sum (present machine) ≡ released
