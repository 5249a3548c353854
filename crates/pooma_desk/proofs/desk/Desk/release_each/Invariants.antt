use Rattle.std.proofs.Common.{◌≡◌, ◌≢◌, ◌++◌, All, AllPairs, length}
use Rattle.std.specs.Vec.Iter.{into_iter_items, into_iter_len}
use Rattle.pooma_machine.specs.declared.step.EventKind.TheVariants as kind
use Rattle.pooma_desk.specs.Rule.{IsAfter}
use Rattle.pooma_desk.specs.Steps.{noting_all}
use Rattle.pooma_desk.specs.Tokens.{IsLoanOf, all_called, entries_of, token_of}
use Rattle.pooma_desk.specs.Turns.{IsInTurn}
use Rattle.pooma_desk.proofs.desk.Desk.release_each.Given as goal

abbrev pub invariant-loop-one : goal.invariant-loop-one
invariant-loop-one g l =
    record {
      desk : l.turn.place.table_id ≡ l.initial.turn.place.table_id;
      seat : l.turn.seat ≡ l.initial.turn.seat;
      turn : IsInTurn l.turn.place.me l.turn.seat l.turn.next;
      after : IsAfter l.turn.place.me.0.start.machine l.turn.machine l.turn.place.me.0.seen;
      noted : l.turn.place.me ≡ (noting_all l.initial.turn.place.me.0 (all_called kind.Release l.initial.turn.seat (entries_of l.yielded)), l.initial.turn.place.me.1);
      rest : l.fn.done.items ≡ l.yielded ++ into_iter_items l.one-iterator;
      count : into_iter_len l.one-iterator ≡ length (into_iter_items l.one-iterator);
      loans : All (IsLoanOf g.W.Work.meaning (token_of l.self.desk l.turn.place.me.0)) (into_iter_items l.one-iterator);
      once : AllPairs (λ one other. one.entry ≢ other.entry) (into_iter_items l.one-iterator);
    }
