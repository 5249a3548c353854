-- What the ends of a deque are inside.
use Rattle.std.specs.Prelude.{◌≡◌, true, not, []}
use Rattle.crossbeam_deque.specs.Handles.{view, IsPassOf, worker_view, worker_flavor, stealer_deque, stealer_flavor}
use Rattle.pooma_ready.specs.Ends.{OwnerLists, ThiefLists, of_owner, of_thief}
use Rattle.pooma_ready.specs.declared.ready.Ready.TheInside.{Inside as OwnersInside}
use Rattle.pooma_ready.specs.declared.thief.Thief.TheInside.{Inside as ThiefsInside}

abbrev pub owner_of : OwnersInside → OwnerLists
owner_of r = of_owner (worker_view r.deque).put (worker_view r.deque).given r.robbed

-- the deque is first in, first out, and its owner has the thief's part as long as no thief was made
abbrev pub IsOwner : OwnersInside → Type 0
IsOwner r = (worker_flavor r.deque ≡ 0) × ((worker_view r.deque).owns ≡ true) × ((worker_view r.deque).steals ≡ not r.robbed) × ((worker_view r.deque).stolen ≡ [])

abbrev pub thief_of : ThiefsInside → ThiefLists
thief_of t = of_thief (view t.token).put (view t.token).given (view t.token).stolen

-- the token is one of the deque, which is first in, first out, and has the thief's part
abbrev pub IsThief : ThiefsInside → Type 0
IsThief t = IsPassOf (stealer_deque t.deque) t.token × (stealer_flavor t.deque ≡ 0) × ((view t.token).steals ≡ true)
