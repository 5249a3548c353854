use Rattle.std.proofs.Common.{◌≡◌, [], All, length}
use Rattle.pooma_queue.specs.Requests.{Waiting}
use Rattle.pooma_machine.proofs.lines.Lines.new.Given as goal

abbrev pub invariant-loop : goal.invariant-loop
invariant-loop l = (length l.queues.items ≡ l.counter) × All (λ (queue : Waiting). queue.requests ≡ []) l.queues.items
