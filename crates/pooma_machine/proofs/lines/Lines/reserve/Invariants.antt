use Rattle.std.proofs.Common.{◌≡◌, ◌<◌, ◌≤◌, ℕ, length}
use Rattle.pooma_machine.specs.Lines.{line, room_at}
use Rattle.pooma_machine.proofs.lines.Lines.reserve.Given as goal

abbrev pub invariant-loop-i : goal.invariant-loop-i
invariant-loop-i l =
    record {
      lines : (o : ℕ) → line l.self-inside.queues.items o ≡ line l.fn.self o;
      rooms : (o : ℕ) → room_at l.fn.self o ≤ room_at l.self-inside.queues.items o;
      count : length l.self-inside.queues.items ≡ length l.fn.self;
      done : (o : ℕ) → o < l.i → l.n ≤ room_at l.self-inside.queues.items o;
    }
