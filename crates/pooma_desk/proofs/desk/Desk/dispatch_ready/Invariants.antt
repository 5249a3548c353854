use Rattle.std.proofs.Common.{◌≡◌, ◌<◌, ◌≤◌, ◌-◌, All, AllPairs, length}
use Rattle.pooma_machine.specs.declared.step.EventKind.TheVariants as kind
use Rattle.pooma_machine.specs.Values.{asks_of}
use Rattle.pooma_desk.specs.Rule.{IsAfter}
use Rattle.pooma_desk.specs.Steps.{noting_all}
use Rattle.pooma_desk.specs.Tokens.{IsLoanOf, plan_of, history_of, all_called, entries_of, token_of}
use Rattle.pooma_desk.specs.Turns.{IsInTurn}
use Rattle.pooma_desk.proofs.Handing.{IsHanding}
use Rattle.pooma_desk.proofs.desk.Desk.dispatch_ready.Given as goal

abbrev pub invariant-entries : goal.invariant-entries
invariant-entries g l =
    record {
      desk : l.turn.place.table_id ≡ l.initial.turn.place.table_id;
      seat : l.turn.seat ≡ l.initial.turn.seat;
      turn : IsInTurn l.turn.place.me l.turn.seat l.turn.next;
      after : IsAfter l.turn.place.me.0.start.machine l.turn.machine l.turn.place.me.0.seen;
      noted : l.turn.place.me ≡ (noting_all l.initial.turn.place.me.0 (all_called kind.Dispatch l.initial.turn.seat (entries_of l.loans.items)), l.initial.turn.place.me.1);
      handing : IsHanding (asks_of g.W.Work.meaning (plan_of (token_of l.self.desk l.initial.turn.place.me.0))) l.initial.turn.seat l.fn.from l.next (history_of (token_of l.self.desk l.initial.turn.place.me.0)) (entries_of l.loans.items);
      loans : All (IsLoanOf g.W.Work.meaning (token_of l.self.desk l.turn.place.me.0)) l.loans.items;
      order : AllPairs (λ one other. one.entry < other.entry) l.loans.items;
      under : All (λ loan. loan.entry < l.next) l.loans.items;
      most : length l.loans.items ≤ l.most;
    }

abbrev pub decreases-entries : goal.decreases-entries
decreases-entries g l = l.most - length l.loans.items
