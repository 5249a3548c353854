use Rattle.std.proofs.Common.{◌≡◌, length, take}
use Rattle.pooma_machine.proofs.Queues.{LetGo}
use Rattle.pooma_machine.proofs.lines.Lines.let_go.Given as goal

abbrev pub invariant-loop-request : goal.invariant-loop-request
invariant-loop-request l = (LetGo l.fn.self l.self-inside.queues.items l.entry (take l.request-index l.requests)) × (length l.self-inside.queues.items ≡ length l.fn.self)
