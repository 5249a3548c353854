use Rattle.std.proofs.Common.{◌≡◌, take}
use Rattle.pooma_law.specs.Ser.{ser}
use Rattle.pooma_window.proofs.window.outcomes_of.Given as goal

abbrev pub invariant-loop-j : goal.invariant-loop-j
invariant-loop-j g l = l.outcomes.items ≡ take l.j (ser g.W.Work.meaning l.machine.plan l.machine.opening).outcomes
