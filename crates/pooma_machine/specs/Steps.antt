-- Which entries of a plan conflict, and which events may come after which others: a table of steps over pairs of entries.
-- A plan is seen here by what its entries ask for: entry 0's list of requests, entry 1's, and so on.
use Rattle.std.specs.Prelude.{◌≡◌, ◌==◌, ◌<◌, ◌≤◌, ℕ, Bool, true, false, IsTrue, List, [], length, take, slice_get, slice_index_or, Option, None, Some, Contains, AllPairs, fold, count_by, if◌then◌else◌}
use Rattle.pooma_queue.specs.declared.queue.Mode.{Mode}
use Rattle.pooma_queue.specs.declared.queue.Mode.TheVariants.{Write}
use Rattle.pooma_queue.specs.Requests.{conflicts}
use Rattle.pooma_machine.specs.declared.step.Request.{Request}
use Rattle.pooma_machine.specs.declared.step.Event.{Event}
use Rattle.pooma_machine.specs.declared.step.EventKind.{EventKind}
use Rattle.pooma_machine.specs.declared.step.EventKind.TheVariants as kind
use Rattle.pooma_machine.specs.declared.step.Status.{Status}
use Rattle.pooma_machine.specs.declared.step.Status.TheVariants as status

-- the requests ascend by object, one for each object, and at most one of them is to write
abbrev pub IsRequestList : List Request → Type 0
IsRequestList requests = AllPairs (λ a b. (a.object < b.object) × (a.mode ≡ Write → b.mode ≡ Write → ⊥)) requests

-- what the i-th entry of the plan asks for
abbrev pub requests_of : List (List Request) → ℕ → List Request
requests_of plan i = slice_index_or plan i []

-- the i-th entry asks for the object in this mode
abbrev pub AsksFor : List (List Request) → ℕ → ℕ → Mode → Type 0
AsksFor plan i object mode = Contains (requests_of plan i) (record { object = object; mode = mode })

-- two entries conflict over an object where both ask for it, at least one of them to write
pub record ConflictOver (plan : List (List Request)) (i j object : ℕ) : Type 0 where
  pub one : Mode
  pub other : Mode
  pub asks_one : AsksFor plan i object one
  pub asks_other : AsksFor plan j object other
  pub conflicting : IsTrue (conflicts one other)

-- two entries conflict where they do so over some object
abbrev pub Conflict : List (List Request) → ℕ → ℕ → Type 0
Conflict plan i j = (object : ℕ) × ConflictOver plan i j object

-- the event of an entry at a seat
abbrev pub event_of : EventKind → ℕ → ℕ → Event
event_of kind entry seat = record { kind = kind; entry = entry; seat = seat }

-- what an event of its own makes of an entry's status
abbrev pub next : EventKind → ℕ → Option Status → Option Status
next kind.Request seat old = Some status.Waiting
next kind.Dispatch seat old = Some (status.Out seat)
next kind.Release seat (Some (status.Out at)) = Some (status.Released at)
next kind.Release seat (Some status.Waiting) = Some status.Waiting
next kind.Release seat (Some (status.Released at)) = Some (status.Released at)
next kind.Release seat None = None

-- an entry's status after one further event
abbrev pub status_after : ℕ → Option Status → Event → Option Status
status_after j old event = if event.entry == j then next event.kind event.seat old else old

-- the status of an entry after these events: none before it is issued
abbrev pub status_of : List Event → ℕ → Option Status
status_of history j = fold (status_after j) None history

abbrev pub issues : EventKind → Bool
issues kind.Request = true
issues kind.Dispatch = false
issues kind.Release = false

-- whether the event issues an entry
abbrev pub is_request : Event → Bool
is_request event = issues event.kind

-- how many entries these events have issued
abbrev pub issued : List Event → ℕ
issued history = count_by is_request history

-- whether an entry of this status is out, or was released
abbrev pub is_out : Option Status → Bool
is_out (Some (status.Out seat)) = true
is_out (Some status.Waiting) = false
is_out (Some (status.Released seat)) = false
is_out None = false

abbrev pub is_released : Option Status → Bool
is_released (Some (status.Released seat)) = true
is_released (Some status.Waiting) = false
is_released (Some (status.Out seat)) = false
is_released None = false

-- an entry is waiting
abbrev pub IsWaiting : List Event → ℕ → Type 0
IsWaiting history j = status_of history j ≡ Some status.Waiting

-- each earlier entry that conflicts with this one was released
abbrev pub NothingBlocks : List (List Request) → List Event → ℕ → Type 0
NothingBlocks plan history j = (i : ℕ) → i < j → Conflict plan i j → IsTrue (is_released (status_of history i))

-- what has to hold for an event to come after these
abbrev pub Comes : List (List Request) → List Event → EventKind → ℕ → Type 0
Comes plan history kind.Request j = j ≡ issued history
Comes plan history kind.Dispatch j = IsWaiting history j × NothingBlocks plan history j
Comes plan history kind.Release j = IsTrue (is_out (status_of history j))

-- an event of one of the plan's entries may come after these
abbrev pub MayCome : List (List Request) → List Event → Event → Type 0
MayCome plan history event = (event.entry < length plan) × Comes plan history event.kind event.entry

-- each event may come after those before it
abbrev pub IsLegal : List (List Request) → List Event → Type 0
IsLegal plan history = (k : ℕ) (event : Event) → slice_get history k ≡ Some event → MayCome plan (take k history) event

-- an entry may be dispatched: it is waiting, and nothing blocks it
abbrev pub IsReady : List (List Request) → List Event → ℕ → Type 0
IsReady plan history j = IsWaiting history j × NothingBlocks plan history j

-- entry i blocks entry j: it is earlier, conflicts with it and was not released
pub record Blocks (plan : List (List Request)) (history : List Event) (i j : ℕ) : Type 0 where
  pub earlier : i < j
  pub conflict : Conflict plan i j
  pub unreleased : is_released (status_of history i) ≡ false

-- an entry is waiting and blocked: by is the least entry that blocks it, and object the least over which the two conflict
pub record IsHeldBack (plan : List (List Request)) (history : List Event) (j object by : ℕ) : Type 0 where
  pub waiting : IsWaiting history j
  pub blocked : Blocks plan history by j
  pub first : (i : ℕ) → Blocks plan history i j → by ≤ i
  pub over : ConflictOver plan by j object
  pub least : (o : ℕ) → ConflictOver plan by j o → object ≤ o

-- the seat of an entry's dispatch, if it was dispatched
abbrev pub seat_of : Option Status → Option ℕ
seat_of (Some (status.Out seat)) = Some seat
seat_of (Some (status.Released seat)) = Some seat
seat_of (Some status.Waiting) = None
seat_of None = None

-- an entry is out or was released, and this is the seat of its dispatch
abbrev pub IsDispatchedAt : List Event → ℕ → ℕ → Type 0
IsDispatchedAt history j seat = seat_of (status_of history j) ≡ Some seat

-- the least of so many entries that was not released
pub record IsLeastUnreleased (entries : ℕ) (history : List Event) (j : ℕ) : Type 0 where
  pub there : j < entries
  pub unreleased : is_released (status_of history j) ≡ false
  pub before : (i : ℕ) → i < j → IsTrue (is_released (status_of history i))

-- the least entry not below this number that may be dispatched
pub record IsLeastReady (plan : List (List Request)) (history : List Event) (from j : ℕ) : Type 0 where
  pub not_below : from ≤ j
  pub ready : IsReady plan history j
  pub before : (i : ℕ) → from ≤ i → i < j → IsReady plan history i → ⊥

-- an entry may be dispatched, and asks for the object
abbrev pub IsReadyFor : List (List Request) → List Event → ℕ → ℕ → Type 0
IsReadyFor plan history object j = IsReady plan history j × (mode : Mode) × AsksFor plan j object mode

-- the least entry not below this number that may be dispatched and asks for the object
pub record IsLeastReadyFor (plan : List (List Request)) (history : List Event) (object from j : ℕ) : Type 0 where
  pub not_below : from ≤ j
  pub ready : IsReadyFor plan history object j
  pub before : (i : ℕ) → from ≤ i → i < j → IsReadyFor plan history object i → ⊥

-- no entry is out
abbrev pub NoneOut : List Event → Type 0
NoneOut history = (i : ℕ) → is_out (status_of history i) ≡ false
