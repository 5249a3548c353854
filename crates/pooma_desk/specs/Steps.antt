-- What each step of a desk makes of what its pass knows, and what it tells.
-- `before` and `after` are what is known, and the slots that are held; the slot holds a machine or none.
use Rattle.std.specs.Prelude.{◌≡◌, ◌≢◌, ◌+◌, ◌-◌, ◌++◌, ℕ, true, false, List, [], ◌∷◌, min, Option, Some}
use Rattle.atomic_table.specs.Table.{Step, Me, rest}
use Rattle.pooma_machine.specs.Values.{Account}
use Rattle.pooma_desk.specs.declared.sight.Noted.{Noted}
use Rattle.pooma_desk.specs.Sight.{Began}
use Rattle.pooma_desk.specs.Sight.{Sight}
use Rattle.pooma_desk.specs.Seen.{longer, HasSeen}
use Rattle.pooma_desk.specs.Rule.{Fits, IsAfter}

module _ {W V : Type 0} where
  -- the first, who has all shares and all numbers but 0 left
  abbrev pub first_sight : Began W V → Sight W V
  first_sight start = record { start = start; seats = 0 ∷ []; next = 1; shares = start.seats; seen = []; others = []; told = []; holds = false }

  -- step 1: the least number left goes to a newcomer with one share, who has seen as much
  abbrev pub given_away : Sight W V → Sight W V
  given_away v = record { start = v.start; seats = v.seats; next = v.next + 1; shares = v.shares - 1; seen = v.seen; others = v.others; told = v.told; holds = v.holds }

  abbrev pub newcomer : Sight W V → Sight W V
  newcomer v = record { start = v.start; seats = v.next ∷ []; next = v.start.seats; shares = 1; seen = v.seen; others = []; told = []; holds = false }

  -- step 2: one takes in the shares and the numbers left of another, and is told of its seats and its list
  abbrev pub joining : Sight W V → Sight W V → Sight W V
  joining v w = record { start = v.start; seats = v.seats; next = min v.next w.next; shares = v.shares + w.shares; seen = v.seen; others = w.seats; told = w.seen; holds = v.holds }

  -- what the joined one is left with
  abbrev pub spent : Sight W V
  spent = record { start = record { machine = record { plan = []; opening = []; history = []; spare = 0 }; seats = 0 }; seats = []; next = 0; shares = 0; seen = []; others = []; told = []; holds = false }

  -- and then has them for its own, with the longer list
  abbrev pub joined : Sight W V → Sight W V
  joined v = record { start = v.start; seats = v.seats ++ v.others; next = v.next; shares = v.shares; seen = longer v.seen v.told; others = []; told = []; holds = v.holds }

  -- step 3: one takes the turn, and has seen all
  abbrev pub taking : Sight W V → List (Noted W) → Sight W V
  taking v log = record { start = v.start; seats = v.seats; next = v.next; shares = v.shares; seen = log; others = v.others; told = v.told; holds = true }

  -- its list ends with these events
  abbrev pub noting_all : Sight W V → List (Noted W) → Sight W V
  noting_all v ns = record { start = v.start; seats = v.seats; next = v.next; shares = v.shares; seen = v.seen ++ ns; others = v.others; told = v.told; holds = v.holds }

  -- step 5: its list ends with one more event
  abbrev pub noting : Sight W V → Noted W → Sight W V
  noting v n = noting_all v (n ∷ [])

  -- step 7: it has left the turn
  abbrev pub leaving : Sight W V → Sight W V
  leaving v = record { start = v.start; seats = v.seats; next = v.next; shares = v.shares; seen = v.seen; others = v.others; told = v.told; holds = false }

  -- what the join tells once it is done: the new list begins with both, and has no further call of either
  pub record HasJoined (v w : Sight W V) : Type 0 where
    pub is : w ≡ joined v
    pub seen : HasSeen v.seats v.seen w.seen
    pub told : HasSeen v.others v.told w.seen
    pub fits : Fits w.start w.seen w

  abbrev pub Joins : Step (Option (Account W V)) → Me (Option (Account W V)) (Sight W V) → ℕ → Me (Option (Account W V)) (Sight W V) → Type 0
  Joins step before found after = HasJoined before.0 after.0 × (after.1 ≡ before.1)

  -- what the turn tells: the machine that was taken is the start's after all that happened, which goes on from what was seen
  pub record HasTaken (v w : Sight W V) (machine : Account W V) : Type 0 where
    pub is : w ≡ taking v w.seen
    pub seen : HasSeen v.seats v.seen w.seen
    pub fits : Fits w.start w.seen w
    pub after : IsAfter w.start.machine machine w.seen

  -- where the turn was free it is taken, and the machine with it; where it was not, nothing changes
  abbrev pub Takes : Step (Option (Account W V)) → Me (Option (Account W V)) (Sight W V) → ℕ → Me (Option (Account W V)) (Sight W V) → Type 0
  Takes step before found after =
      (found ≡ 0 → (machine : Account W V) × HasTaken before.0 after.0 machine × (after.1 ≡ (0, Some machine) ∷ before.1))
      × (found ≢ 0 → after ≡ before)

  -- a look at the turn changes nothing
  abbrev pub Peeks : Step (Option (Account W V)) → Me (Option (Account W V)) (Sight W V) → ℕ → Me (Option (Account W V)) (Sight W V) → Type 0
  Peeks step before found after = after ≡ before

  abbrev pub Notes : Noted W → Step (Option (Account W V)) → Me (Option (Account W V)) (Sight W V) → ℕ → Me (Option (Account W V)) (Sight W V) → Type 0
  Notes n step before found after = after ≡ (noting before.0 n, before.1)

  abbrev pub Leaves : Step (Option (Account W V)) → Me (Option (Account W V)) (Sight W V) → ℕ → Me (Option (Account W V)) (Sight W V) → Type 0
  Leaves step before found after = after ≡ (leaving before.0, rest before.1)
