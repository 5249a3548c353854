-- What is known at the place of a pass.
use Rattle.std.specs.Prelude.{ℕ, Bool, List}
use Rattle.pooma_machine.specs.Values.{Account}
use Rattle.pooma_desk.specs.declared.sight.Noted.{Noted}

-- what a desk was started with: its machine as it was then, and the number of seats
pub record Began (W V : Type 0) : Type 0 where
  pub machine : Account W V
  pub seats : ℕ

pub record Sight (W V : Type 0) : Type 0 where
  -- the start of the desk
  pub start : Began W V
  -- its seats, its own first
  pub seats : List ℕ
  -- the numbers of seats that it has left are those from here up to the number of seats
  pub next : ℕ
  -- its shares; none once it was joined into another
  pub shares : ℕ
  -- the front of what happened that it has seen
  pub seen : List (Noted W)
  -- in the middle of a join, the seats and the list of the other; else nothing
  pub others : List ℕ
  pub told : List (Noted W)
  -- whether it holds the turn
  pub holds : Bool
