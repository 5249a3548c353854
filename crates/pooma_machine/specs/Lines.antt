-- How the queues of the objects stand for what the entries of a plan ask for.
use Rattle.std.specs.Prelude.{◌≡◌, ◌==◌, ℕ, Bool, false, List, [], ◌∷◌, map, slice_index_or, Option, None, Some, Contains, fold, option_map, nat_lt, if◌then◌else◌}
use Rattle.std.specs.List.{list_any, sum_by}
use Rattle.pooma_queue.specs.declared.queue.Mode.{Mode}
use Rattle.pooma_queue.specs.declared.queue.Asked.{Asked}
use Rattle.pooma_queue.specs.Requests.{Waiting, IsInOrder, held_back_by, holder_of, let_go}
use Rattle.pooma_machine.specs.declared.step.Request.{Request}
use Rattle.pooma_machine.specs.declared.lines.Holder.{Holder}
use Rattle.pooma_machine.specs.Steps.{AsksFor}

-- the queue of an object; one that isn't there has no requests
abbrev pub queue_at : List Waiting → ℕ → Waiting
queue_at queues o = slice_index_or queues o (record { requests = []; room = 0 })

-- its requests, and for how many more it has room
abbrev pub line : List Waiting → ℕ → List Asked
line queues o = (queue_at queues o).requests

abbrev pub room_at : List Waiting → ℕ → ℕ
room_at queues o = (queue_at queues o).room

-- each queue has the requests of the plan's entries, in their order, with those marked that were released, and no others
pub record IsTied (plan : List (List Request)) (released : ℕ → Bool) (queues : List Waiting) : Type 0 where
  pub stands : (o : ℕ) (asked : Asked) → Contains (line queues o) asked → AsksFor plan asked.entry o asked.mode × (asked.released ≡ released asked.entry)
  pub there : (i o : ℕ) (mode : Mode) → AsksFor plan i o mode → Contains (line queues o) (record { entry = i; mode = mode; released = released i })
  pub order : (o : ℕ) → IsInOrder (line queues o)

-- what the requests of an entry add to the queue of an object
abbrev pub asked_at : ℕ → List Request → ℕ → List Asked
asked_at entry [] o = []
asked_at entry (r ∷ rs) o = if r.object == o then (record { entry = entry; mode = r.mode; released = false }) ∷ asked_at entry rs o else asked_at entry rs o

-- whether one of the requests is for the object
abbrev pub asks_here : List Request → ℕ → Bool
asks_here requests o = list_any (λ r. r.object == o) requests

-- the queue of an object, after the entry with these requests has let go of what it asked for
abbrev pub line_after : ℕ → List Request → ℕ → List Asked → List Asked
line_after entry requests o asked = if asks_here requests o then map (let_go entry) asked else asked

-- the first entry that holds this one back by the request's object
abbrev pub holder_over : List Waiting → ℕ → Request → Option ℕ
holder_over queues entry request = option_map (λ asked. asked.entry) (holder_of (line queues request.object) entry request.mode)

-- the lesser of what was found and what holds the entry back over a further object; what was found where they are the same
abbrev pub lesser : Option Holder → ℕ → Option ℕ → Option Holder
lesser found object None = found
lesser None object (Some by) = Some (record { object = object; by = by })
lesser (Some held) object (Some by) = if nat_lt by held.by then Some (record { object = object; by = by }) else Some held

-- the least entry that holds this one back, over the first object by which it does
abbrev pub held_by : List Waiting → ℕ → List Request → Option Holder
held_by queues entry requests = fold (λ found r. lesser found r.object (holder_over queues entry r)) None requests

-- how many requests of earlier entries hold this one back, over all objects
abbrev pub counted : List Waiting → ℕ → List Request → ℕ
counted queues entry requests = sum_by (λ r. held_back_by (line queues r.object) entry r.mode) requests
