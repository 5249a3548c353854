-- How workers share the entries of a window.
use Rattle.std.specs.Prelude.{◌≡◌, ◌⊎◌, ◌<◌, ℕ, List, [], ◌∷◌, All, Contains, Option, None, Some, Result, Ok}
use Rattle.pooma_machine.specs.Values.{Meaning, Account}
use Rattle.pooma_machine.specs.Told.{Window}
use Rattle.pooma_machine.specs.Journal.{window_of}
use Rattle.pooma_desk.specs.declared.sight.Noted.{Noted}
use Rattle.pooma_desk.specs.Tokens.{Started, Token, own_calls}
use Rattle.pooma_window.specs.Windows.{IsWindowOf}

-- the window of these works as so many workers complete it: each event stands at the seat of one of them
pub record IsShared {W V O S : Type 0} (meaning : Meaning W V O S) (workers : ℕ) (works : List W) (window : Window) : Type 0 where
  pub whole : IsWindowOf meaning works window
  pub seats : All (λ event. event.seat < workers) window.events

-- none of the calls of the pass is a request
abbrev pub AsksNothing : {W V : Type 0} → Token W V → Type 0
AsksNothing pass = (n : Noted _) → Contains (own_calls pass) n → n.work ≡ None

-- the pass of a worker at the desk: it has one share, and has requested nothing
pub record IsWorkers {W V : Type 0} (desk : Started W V) (pass : Token W V) : Type 0 where
  pub from : pass.from ≡ desk
  pub share : pass.shares ≡ 1
  pub quiet : AsksNothing pass

-- there is such a pass at the place of a worker
abbrev pub HasPass : {W V : Type 0} → Started W V → Option (Token W V) → Type 0
HasPass desk None = ⊥
HasPass desk (Some pass) = IsWorkers desk pass

-- the worker whose pass is at this place has this seat
abbrev pub IsSeated : {W V : Type 0} → ℕ → Option (Token W V) → Type 0
IsSeated seat None = ⊥
IsSeated seat (Some pass) = pass.seat ≡ seat

-- one of these places is that of the worker with this seat
abbrev pub HasWorker : {W V : Type 0} → List (Option (Token W V)) → ℕ → Type 0
HasWorker [] seat = ⊥
HasWorker (place ∷ places) seat = IsSeated seat place ⊎ HasWorker places seat

-- what a loop leaves at the place of a worker: a pass of the same seat
abbrev pub StaysSeated : {W V : Type 0} → Started W V → Option (Token W V) → Option (Token W V) → Type 0
StaysSeated desk old new = HasPass desk new × ((seat : ℕ) → IsSeated seat old → IsSeated seat new)

-- a machine was done by so many workers: it has the works and the objects that it had, and a window that they share
pub record IsDone {W V O S : Type 0} (meaning : Meaning W V O S) (workers : ℕ) (machine done : Account W V) : Type 0 where
  pub plan : done.plan ≡ machine.plan
  pub opening : done.opening ≡ machine.opening
  pub shared : IsShared meaning workers done.plan (window_of meaning done.plan done.history)

-- a function that is called so, and answers so, shares the entries of machines out among so many workers
pub record SharesOut {W V O S E : Type 0} (meaning : Meaning W V O S) (workers : ℕ) (pre : Account W V → Type 0) (post : Account W V → Result (Account W V) E → Type 0) : Type 0 where
  pub accepts : (machine : Account W V) → All (λ event. event.seat ≡ 0) machine.history → pre machine
  pub gives : (machine done : Account W V) → All (λ event. event.seat ≡ 0) machine.history → post machine (Ok done) → IsDone meaning workers machine done
