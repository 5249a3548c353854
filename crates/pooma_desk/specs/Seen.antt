-- What happened since a desk was started, as a list of events with the works that were requested, and what follows from it.
use Rattle.std.specs.Prelude.{◌≡◌, ◌==◌, ◌++◌, ℕ, Bool, false, List, map, filter, filter_map, length, Contains, nat_lt, if◌then◌else◌}
use Rattle.std.specs.List.{list_any}
use Rattle.pooma_machine.specs.declared.step.Event.{Event}
use Rattle.pooma_machine.specs.Values.{Account}
use Rattle.pooma_desk.specs.declared.sight.Noted.{Noted}

module _ {W : Type 0} where
  -- the events of these
  abbrev pub events_of : List (Noted W) → List Event
  events_of seen = map (λ n. n.event) seen

  -- the works of the requests among these, in their order
  abbrev pub works_of : List (Noted W) → List W
  works_of seen = filter_map (λ n. n.work) seen

  -- the plan after these: the works at the start, and then the requested ones
  abbrev pub plan_after : {V : Type 0} → Account W V → List (Noted W) → List W
  plan_after start seen = start.plan ++ works_of seen

  -- the history after these: that at the start, and then these events
  abbrev pub history_after : {V : Type 0} → Account W V → List (Noted W) → List Event
  history_after start seen = start.history ++ events_of seen

-- whether the number is one of these seats
abbrev pub is_one_of : List ℕ → ℕ → Bool
is_one_of seats number = list_any (λ seat. seat == number) seats

-- the calls among these that were made under one of the seats
abbrev pub calls_under : {W : Type 0} → List ℕ → List (Noted W) → List (Noted W)
calls_under seats seen = filter (λ n. is_one_of seats n.event.seat) seen

-- the longer of two lists; the first where they are of one length
abbrev pub longer : {X : Type 0} → List X → List X → List X
longer xs ys = if nat_lt (length xs) (length ys) then ys else xs

-- the whole list begins with what was seen, and nothing behind that was called under one of the seats
pub record HasSeen {W : Type 0} (seats : List ℕ) (seen whole : List (Noted W)) : Type 0 where
  pub rest : List (Noted W)
  pub begins : whole ≡ seen ++ rest
  pub others : (n : Noted W) → Contains rest n → is_one_of seats n.event.seat ≡ false
