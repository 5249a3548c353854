-- What a machine's parts have to do with one another between its calls.
use Rattle.std.specs.Prelude.{◌≡◌, ◌⊎◌, ◌+◌, ◌*◌, ◌<◌, ◌≤◌, ℕ, List, length, slice_get, All, sum_by, not, None, Some}
use Rattle.std.specs.List.{position_or_len}
use Rattle.pooma_queue.specs.Requests.{Waiting}
use Rattle.pooma_machine.specs.declared.step.Request.{Request}
use Rattle.pooma_machine.specs.declared.step.Event.{Event}
use Rattle.pooma_machine.specs.declared.step.Status.{Status}
use Rattle.pooma_machine.specs.declared.step.Status.TheVariants as status
use Rattle.pooma_machine.specs.Steps.{IsRequestList, IsLegal, IsWaiting, NothingBlocks, status_of, issued, is_released}
use Rattle.pooma_machine.specs.Lines.{IsTied, room_at}

-- a history is legal, has issued each entry of the plan and no other, and none was dispatched before its time
pub record IsSound (plan : List (List Request)) (history : List Event) : Type 0 where
  pub legal : IsLegal plan history
  pub issued : issued history ≡ length plan
  pub ended : (j : ℕ) → length plan ≤ j → status_of history j ≡ None
  pub passed : (j : ℕ) → j < length plan → IsWaiting history j ⊎ NothingBlocks plan history j
  pub form : All IsRequestList plan

-- the history is sound; the statuses and the queues are those that it gives
pub record IsKept (plan : List (List Request)) (history : List Event) (statuses : List Status) (queues : List Waiting) : Type 0 where
  pub sound : IsSound plan history
  pub count : length statuses ≡ length plan
  pub stands : (j : ℕ) → status_of history j ≡ slice_get statuses j
  pub tied : IsTied plan (λ i. is_released (status_of history i)) queues

-- the place of the first status that isn't released; the number of statuses where there is none
abbrev pub first_open : List Status → ℕ
first_open statuses = position_or_len (λ s. not (is_released (Some s))) statuses

-- how many further events an entry of this status will have
abbrev pub owed : Status → ℕ
owed status.Waiting = 2
owed (status.Out seat) = 1
owed (status.Released seat) = 0

-- what contracts see of a machine's table: the works of its entries, what has happened, the number of objects, and for how
-- many further entries there surely is room
pub record Schedule (W : Type 0) : Type 0 where
  pub plan : List W
  pub history : List Event
  pub objects : ℕ
  pub spare : ℕ

-- there is room for what is owed and for the spare entries
pub record HasRoom (entries events : ℕ) (statuses : List Status) (queues : List Waiting) (spare works_room statuses_room history_room : ℕ) : Type 0 where
  pub owes : events + sum_by owed statuses ≡ 3 * entries
  pub for_works : entries + spare ≤ works_room
  pub for_statuses : entries + spare ≤ statuses_room
  pub for_events : 3 * (entries + spare) ≤ history_room
  pub for_requests : (o : ℕ) → o < length queues → spare ≤ room_at queues o
