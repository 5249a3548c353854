use Rattle.std.proofs.Common.{◌≡◌}
use Rattle.crossbeam_deque.specs.Handles.{view, IsPassOf, stealer_deque}
use Rattle.pooma_ready.proofs.thief.first_of.Given as goal

-- a try for which another taker was faster leaves what the thief knows
abbrev pub invariant-loop : goal.invariant-loop
invariant-loop g l = IsPassOf (stealer_deque l.deque) l.token × (view l.token ≡ view l.initial.token)
