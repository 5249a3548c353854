-- What holds of a desk between any two atomic steps.
use Rattle.std.specs.Prelude.{◌≡◌, ◌⊎◌, ◌+◌, ◌<◌, ◌≤◌, ◌≢◌, ℕ, suc, true, false, List, [], ◌∷◌, length, Option, Some, Contains}
use mathlib.Core.Option.{some, none}
use lib.ListN.{get_elem?}
use Rattle.atomic_table.specs.Table.{State}
use Rattle.pooma_machine.specs.declared.step.EventKind.TheVariants as kind
use Rattle.pooma_machine.specs.Values.{Account}
use Rattle.pooma_desk.specs.declared.sight.Noted.{Noted}
use Rattle.pooma_desk.specs.Sight.{Began}
use Rattle.pooma_desk.specs.Sight.{Sight}
use Rattle.pooma_desk.specs.Seen.{plan_after, history_after, is_one_of, longer, HasSeen}

-- the machine has what it had at the start, and then what the history since says
pub record IsAfter {W V : Type 0} (start machine : Account W V) (log : List (Noted W)) : Type 0 where
  pub plan : machine.plan ≡ plan_after start log
  pub opening : machine.opening ≡ start.opening
  pub history : machine.history ≡ history_after start log

module _ {W V : Type 0} where
  -- the number is a seat of this one: its own, joined into it, or being joined
  abbrev pub IsSeatOf : Sight W V → ℕ → Type 0
  IsSeatOf sight number = (is_one_of sight.seats number ≡ true) ⊎ (is_one_of sight.others number ≡ true)

  -- it was not spent by a join
  abbrev pub IsLive : Sight W V → Type 0
  IsLive sight = 0 < sight.shares

-- one event is the dispatch, the other the release of one entry
pub record IsPair {W : Type 0} (dispatch release : Noted W) : Type 0 where
  pub lent : dispatch.event.kind ≡ kind.Dispatch
  pub back : release.event.kind ≡ kind.Release
  pub entry : dispatch.event.entry ≡ release.event.entry

-- what one that is live has to do with the start and with the history since
pub record Fits {W V : Type 0} (start : Began W V) (log : List (Noted W)) (sight : Sight W V) : Type 0 where
  -- it keeps the start
  pub same : sight.start ≡ start
  -- its list is a front of the history, in which all calls under its seats stand; so is a list that it was told of by a join
  pub seen : HasSeen sight.seats sight.seen log
  pub told : HasSeen sight.others sight.told log
  -- the numbers that it has left are those from `next` up to the number of seats; none of them is a seat of its own
  pub next : sight.next ≤ start.seats
  pub given : (number : ℕ) → IsSeatOf sight number → number < sight.next
  -- no event names a number that is left
  pub named : (n : Noted W) → Contains log n → n.event.seat < sight.next
  -- it has more shares than numbers left
  pub more : start.seats < sight.next + sight.shares
  -- where an entry was dispatched under one of its seats, it was released there too, if it was
  pub pairs : (dispatch release : Noted W) → Contains log dispatch → Contains log release → IsPair dispatch release → IsSeatOf sight dispatch.event.seat → IsSeatOf sight release.event.seat

-- what two that are live have to do with one another: no seat of both, no seat of one among the numbers that the other has
-- left, and numbers left in one of them at most
pub record AreApart {W V : Type 0} (count : ℕ) (one other : Sight W V) : Type 0 where
  pub seats : (number : ℕ) → IsSeatOf one number → IsSeatOf other number → ⊥
  pub given : (number : ℕ) → IsSeatOf one number → number < other.next
  pub left : (one.next ≡ count) ⊎ (other.next ≡ count)

-- the first of these numbers
abbrev pub first_of : List ℕ → ℕ
first_of [] = 0
first_of (x ∷ xs) = x

module _ {W V : Type 0} where
  -- the turn is free: the machine is at home, it has this history since the start, and nobody holds it
  pub record IsFree (start : Began W V) (turn : ℕ) (log : List (Noted W)) (s : State (Option (Account W V)) (Sight W V)) : Type 0 where
    pub word : turn ≡ 0
    pub machine : Account W V
    pub home : s.homes ≡ some (Some machine) ∷ []
    pub after : IsAfter start.machine machine log
    pub nobody : (k : ℕ) (sight : Sight W V) → get_elem? s.views k ≡ some sight → sight.holds ≡ false

  -- the turn is taken: word 0 names the seat of one that is live and has seen the whole history; it alone holds the turn, and
  -- no machine is at home
  pub record IsTaken (turn : ℕ) (log : List (Noted W)) (s : State (Option (Account W V)) (Sight W V)) : Type 0 where
    pub place : ℕ
    pub holder : Sight W V
    pub there : get_elem? s.views place ≡ some holder
    pub live : IsLive holder
    pub holds : holder.holds ≡ true
    pub word : turn ≡ suc (first_of holder.seats)
    pub seen : holder.seen ≡ log
    pub away : s.homes ≡ none ∷ []
    pub alone : (k : ℕ) (sight : Sight W V) → k ≢ place → get_elem? s.views k ≡ some sight → sight.holds ≡ false

  -- the shares of all
  abbrev pub shares_of : List (Sight W V) → ℕ
  shares_of [] = 0
  shares_of (sight ∷ sights) = sight.shares + shares_of sights

  -- one that is live has seen the whole history, or was told of it by a join
  pub record IsWhole (log : List (Noted W)) (sights : List (Sight W V)) : Type 0 where
    pub place : ℕ
    pub sight : Sight W V
    pub there : get_elem? sights place ≡ some sight
    pub live : IsLive sight
    pub seen : longer sight.seen sight.told ≡ log

-- The rule of a desk, which holds between any two atomic steps.
pub record IsKept {W V : Type 0} (start : Began W V) (s : State (Option (Account W V)) (Sight W V)) : Type 0 where
  -- there is one history since the start
  pub log : List (Noted W)
  -- word 0 says whose turn it is, and word 1 how many events there were since the start
  pub turn : ℕ
  pub words : s.words ≡ turn ∷ length log ∷ []
  -- the turn is free, or one holds it
  pub held : IsFree start turn log s ⊎ IsTaken turn log s
  -- each that is live fits the start and the history, and any two are apart
  pub fits : (k : ℕ) (sight : Sight W V) → get_elem? s.views k ≡ some sight → IsLive sight → Fits start log sight
  pub apart : (k l : ℕ) (one other : Sight W V) → k ≢ l → get_elem? s.views k ≡ some one → get_elem? s.views l ≡ some other → IsLive one → IsLive other → AreApart start.seats one other
  -- no share is lost
  pub shares : shares_of s.views ≡ start.seats
  -- one that is live has seen all
  pub whole : IsWhole log s.views

-- what an event may be that the holder of the turn notes: it stands under a seat of its own; a release takes back what was
-- dispatched there, and what is dispatched was not released
pub record MayNote {W V : Type 0} (v : Sight W V) (n : Noted W) : Type 0 where
  pub mine : is_one_of v.seats n.event.seat ≡ true
  pub back : (d : Noted W) → Contains v.seen d → IsPair d n → is_one_of v.seats d.event.seat ≡ true
  pub lent : (r : Noted W) → Contains v.seen r → IsPair n r → ⊥
