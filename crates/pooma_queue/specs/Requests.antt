-- The requests of one object in the order in which they came, and which of them still hold a later one back.
use Rattle.std.specs.Prelude.{◌≡◌, ◌<◌, ◌+◌, ◌-◌, ℕ, Bool, true, false, not, ◌&&◌, List, All, length, take, drop, slice_get, Option, Some, None, find, option_and_then, nat_lt, ◌==◌, if◌then◌else◌, AllPairs, Contains, get_or}
use Rattle.std.specs.List.{prefix_len, position_or_len, count_by}
use Rattle.pooma_queue.specs.declared.queue.Mode.{Mode}
use Rattle.pooma_queue.specs.declared.queue.Mode.TheVariants.{Read, Write}
use Rattle.pooma_queue.specs.declared.queue.Asked.{Asked}

-- what contracts see of a queue: its requests, and for how many more there is room
pub record Waiting : Type 0 where
  pub requests : List Asked
  pub room : ℕ

-- two requests of one object conflict where at least one of them is to write
abbrev pub conflicts : Mode → Mode → Bool
conflicts Read Read = false
conflicts Read Write = true
conflicts Write Read = true
conflicts Write Write = true

-- whether an earlier request holds a later one of this mode back: it conflicts, and was not released
abbrev pub holds_back : Mode → Asked → Bool
holds_back mode earlier = not earlier.released && conflicts earlier.mode mode

-- the first request before the k-th that holds it back, if there is one
abbrev pub blocker_of : List Asked → ℕ → Option Asked
blocker_of requests k = option_and_then (λ asked. find (holds_back asked.mode) (take k requests)) (slice_get requests k)

-- no request before the k-th holds it back
abbrev pub IsGranted : List Asked → ℕ → Type 0
IsGranted requests k = blocker_of requests k ≡ None

-- this one stands at place k, was not released, and nothing before it holds it back
pub record MayGoOn (requests : List Asked) (k : ℕ) (asked : Asked) : Type 0 where
  pub there : slice_get requests k ≡ Some asked
  pub unreleased : asked.released ≡ false
  pub granted : IsGranted requests k

-- each request is of a later entry than those before it
abbrev pub IsInOrder : List Asked → Type 0
IsInOrder requests = AllPairs (λ earlier later. earlier.entry < later.entry) requests

-- the request, released
abbrev pub released : Asked → Asked
released asked = record asked { released = true }

-- the first request of an entry before this one that holds back one of this mode, if there is one
abbrev pub holder_of : List Asked → ℕ → Mode → Option Asked
holder_of requests entry mode = find (λ earlier. nat_lt earlier.entry entry && holds_back mode earlier) requests

-- the request, released if it is this entry's
abbrev pub let_go : ℕ → Asked → Asked
let_go entry asked = if asked.entry == entry then released asked else asked

-- the place of the first request that holds back one of this mode; the number of requests where there is none
abbrev pub first_holding : Mode → List Asked → ℕ
first_holding mode requests = position_or_len (holds_back mode) requests

-- the requests from the first one on that was not released
abbrev pub open_part : List Asked → List Asked
open_part requests = drop (prefix_len (λ asked. asked.released) requests) requests

-- of these, the ones up to the first open request to write, with it: each later one is held back by it
abbrev pub front_of : List Asked → List Asked
front_of requests = take (position_or_len (holds_back Read) (open_part requests) + 1) (open_part requests)

-- none of these but the last is an open request to write
abbrev pub OnlyLastWrites : List Asked → Type 0
OnlyLastWrites requests = All (λ asked. holds_back Read asked ≡ false) (take (length requests - 1) requests)

-- nothing was released before its turn: what was has nothing open before it that it conflicts with
abbrev pub IsInTurn : List Asked → Type 0
IsInTurn requests = AllPairs (λ earlier later. later.released ≡ true → holds_back later.mode earlier ≡ false) requests

-- the entry asks for the object in this mode
abbrev pub AsksHere : ℕ → Mode → List Asked → Type 0
AsksHere entry mode requests = (released : Bool) × Contains requests (record { entry = entry; mode = mode; released = released })

-- how many requests of entries before this one hold back one of this mode
abbrev pub held_back_by : List Asked → ℕ → Mode → ℕ
held_back_by requests entry mode = count_by (λ earlier. nat_lt earlier.entry entry && holds_back mode earlier) requests

-- whether a request in this mode is to write
abbrev pub is_to_write : Mode → Bool
is_to_write mode = conflicts mode Read

-- for each request how many of those before it are to write, and how many of all
pub record IsTally (modes : List Mode) (writes : List ℕ) (written : ℕ) : Type 0 where
  pub long : length writes ≡ length modes
  pub before : (k d : ℕ) → k < length writes → get_or writes k d ≡ count_by is_to_write (take k modes)
  pub all : written ≡ count_by is_to_write modes
