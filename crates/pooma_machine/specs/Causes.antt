-- Why a dispatch is refused.
use Rattle.std.specs.Prelude.{ℕ, List}
use Rattle.pooma_machine.specs.declared.step.Request.{Request}
use Rattle.pooma_machine.specs.declared.step.Event.{Event}
use Rattle.pooma_machine.specs.declared.refusal.DispatchError.{DispatchError}
use Rattle.pooma_machine.specs.declared.refusal.DispatchError.TheVariants.{Already, NotReady, OutOfMemory}
use Rattle.pooma_machine.specs.Steps.{IsDispatchedAt, IsHeldBack, IsReady}

-- each answer with what it says of the entry; no two of these hold at once
abbrev pub Explains : List (List Request) → List Event → ℕ → DispatchError → Type 0
Explains plan history j (Already seat) = IsDispatchedAt history j seat
Explains plan history j (NotReady object by) = IsHeldBack plan history j object by
Explains plan history j OutOfMemory = IsReady plan history j
