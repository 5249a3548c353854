use Rattle.std.proofs.Common.{◌≡◌, ◌+◌, ◌<◌, ◌++◌, All, List, map, length, deque_len}
use Rattle.std.specs.Arc.{arc_value}
use Rattle.pooma_machine.specs.Machine.{FitsShapes}
use Rattle.pooma_desk.specs.Rule.{IsAfter}
use Rattle.pooma_desk.specs.Steps.{noting_all}
use Rattle.pooma_desk.specs.Tokens.{all_requested}
use Rattle.pooma_desk.specs.Turns.{IsInTurn}
use Rattle.pooma_desk.proofs.desk.Desk.request_each.Given as goal

abbrev pub invariant-loop-work : goal.invariant-loop-work
invariant-loop-work g l =
    record {
      desk : l.turn.place.table_id ≡ l.initial.turn.place.table_id;
      seat : l.turn.seat ≡ l.initial.turn.seat;
      turn : IsInTurn l.turn.place.me l.turn.seat l.turn.next;
      after : IsAfter l.turn.place.me.0.start.machine l.turn.machine l.turn.place.me.0.seen;
      objects : All (λ work. All (λ r. r.object < length l.self.machine.opening) (g.W.Work.meaning.requests (arc_value work))) l.works.items;
      fits : All (λ work. FitsShapes g.W.Work.meaning (map g.W.Work.meaning.shape l.self.machine.opening) (arc_value work)) l.works.items;
      noted : (asked : List _) × (map arc_value l.initial.works.items ≡ asked ++ map arc_value l.works.items) × (length l.turn.machine.plan ≡ length l.initial.turn.machine.plan + length asked)
          × (l.turn.place.me ≡ (noting_all l.initial.turn.place.me.0 (all_requested (length l.initial.turn.machine.plan) l.initial.turn.seat asked), l.initial.turn.place.me.1));
    }

abbrev pub decreases-loop-work : goal.decreases-loop-work
decreases-loop-work g l = deque_len l.works
