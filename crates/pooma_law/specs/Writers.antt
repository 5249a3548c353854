-- Who writes an object, and what it has behind the last of them.
use Rattle.std.specs.Prelude.{◌≡◌, ◌==◌, ◌&&◌, ℕ, suc, Bool, List, length, take, filter, unwrap_or, option_map, None}
use Rattle.std.specs.List.{list_any, range_with_len, last_or}
use Rattle.pooma_machine.specs.declared.step.Request.{Request}
use Rattle.pooma_machine.specs.declared.step.Event.{Event}
use Rattle.pooma_machine.specs.Steps.{requests_of, status_of, is_released}
use Rattle.pooma_machine.specs.Values.{is_write}

-- whether the requests ask to write the object
abbrev pub asks_to_write : List Request → ℕ → Bool
asks_to_write requests object = list_any (λ r. is_write r.mode && (r.object == object)) requests

-- the entries of the plan that ask to write the object, in their order
abbrev pub writers : List (List Request) → ℕ → List ℕ
writers plan object = filter (λ j. asks_to_write (requests_of plan j) object) (range_with_len 0 (length plan))

-- those of them that were released
abbrev pub released_writers : List (List Request) → List Event → ℕ → List ℕ
released_writers plan history object = filter (λ j. is_released (status_of history j)) (writers plan object)

-- the longer list begins with the elements of this one
abbrev pub IsFront : {X : Type 0} → List X → List X → Type 0
IsFront front whole = front ≡ take (length front) whole

-- the number of entries up to the last of these, with it; 0 where there are none
abbrev pub up_to_last : List ℕ → ℕ
up_to_last entries = unwrap_or (option_map suc (last_or None entries)) 0
