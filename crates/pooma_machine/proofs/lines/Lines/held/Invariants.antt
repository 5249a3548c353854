use Rattle.std.proofs.Common.{◌≡◌, take}
use Rattle.pooma_machine.specs.Lines.{held_by}
use Rattle.pooma_machine.proofs.lines.Lines.held.Given as goal

abbrev pub invariant-loop-request : goal.invariant-loop-request
invariant-loop-request l = l.found ≡ held_by l.self-inside.queues.items l.entry (take l.request-index l.requests)
