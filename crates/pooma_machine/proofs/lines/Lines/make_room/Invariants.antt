use Rattle.std.proofs.Common.{◌≡◌, ◌<◌, ◌≤◌, ℕ, All, take, length}
use Rattle.pooma_machine.specs.Lines.{line, room_at}
use Rattle.pooma_machine.proofs.lines.Lines.make_room.Given as goal

abbrev pub invariant-loop-request : goal.invariant-loop-request
invariant-loop-request l =
    record {
      lines : (o : ℕ) → line l.self-inside.queues.items o ≡ line l.fn.self o;
      rooms : (o : ℕ) → room_at l.fn.self o ≤ room_at l.self-inside.queues.items o;
      count : length l.self-inside.queues.items ≡ length l.fn.self;
      done : All (λ r. 0 < room_at l.self-inside.queues.items r.object) (take l.request-index l.requests);
    }
