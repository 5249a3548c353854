-- What a pass keeps between calls, and what the holder of the turn has.
use Rattle.std.specs.Prelude.{◌≡◌, ℕ, true, false, [], ◌∷◌, length, drop, Option, None}
use Rattle.pooma_machine.specs.Steps.{issued}
use Rattle.pooma_machine.specs.Values.{Meaning, Account}
use Rattle.pooma_law.specs.Histories.{IsHistoryOf}
use Rattle.atomic_table.specs.Table.{Me}
use Rattle.pooma_desk.specs.Sight.{Sight}
use Rattle.pooma_desk.specs.Seen.{plan_after, history_after}
use Rattle.pooma_desk.specs.Rule.{IsLive, Fits}

-- one that is live is outside the turn, and nothing is being joined into it
pub record IsResting {W V : Type 0} (v : Sight W V) : Type 0 where
  pub live : IsLive v
  pub outside : v.holds ≡ false
  pub alone : v.others ≡ []
  pub quiet : v.told ≡ []

-- what is known at the place of a pass, in the turn and outside: it fits what it has seen, and nothing is being joined into it
pub record IsPlaced {W V : Type 0} (v : Sight W V) (seat next : ℕ) : Type 0 where
  pub live : IsLive v
  pub fits : Fits v.start v.seen v
  pub alone : v.others ≡ []
  pub quiet : v.told ≡ []
  -- what the code keeps beside it
  pub own : v.seats ≡ seat ∷ drop 1 v.seats
  pub left : v.next ≡ next

-- what it has seen is legal, and has issued the entries of the plan
pub record IsSeenLegal {W V O S : Type 0} (meaning : Meaning W V O S) (v : Sight W V) : Type 0 where
  pub legal : IsHistoryOf meaning (plan_after v.start.machine v.seen) (history_after v.start.machine v.seen)
  pub issued : issued (history_after v.start.machine v.seen) ≡ length (plan_after v.start.machine v.seen)

-- between calls
pub record IsOutside {W V O S : Type 0} (meaning : Meaning W V O S) (me : Me (Option (Account W V)) (Sight W V)) (seat next : ℕ) : Type 0 where
  pub placed : IsPlaced me.0 seat next
  pub legal : IsSeenLegal meaning me.0
  pub outside : me.0.holds ≡ false
  pub none : me.1 ≡ []

-- in the turn, with the machine in hand
pub record IsInTurn {W V : Type 0} (me : Me (Option (Account W V)) (Sight W V)) (seat next : ℕ) : Type 0 where
  pub placed : IsPlaced me.0 seat next
  pub holds : me.0.holds ≡ true
  pub empty : me.1 ≡ (0, None) ∷ []
