use Rattle.std.proofs.Common.{◌≤◌, ◌↔◌, ℕ, IsTrue}
use Rattle.std.specs.Prelude.{MatchOption}
use Rattle.pooma_machine.specs.Steps.{IsReady, IsLeastReady}
use Rattle.pooma_machine.specs.Values.{asks_of, IsComplete}
use Rattle.pooma_desk.proofs.Turning.{told_of}
use Rattle.pooma_desk.proofs.desk.Desk.look.Goals as goal

pub returns-clause-ready : goal.returns-clause-ready
returns-clause-ready g c =
    told_of c.args.self.now.desk c.leave.result c.enter-turn.result.place.me.0 c.enter-turn.result.machine (λ plan history. MatchOption c.ready_from-ready.result ((j : ℕ) → c.args.from ≤ j → IsReady (asks_of g.W.Work.meaning plan) history j → ⊥) (IsLeastReady (asks_of g.W.Work.meaning plan) history c.args.from)) c.leave.ensures.pass c.enter-turn.ensures.after c.ready_from-ready.ensures.least

pub returns-clause-all_released : goal.returns-clause-all_released
returns-clause-all_released g c =
    told_of c.args.self.now.desk c.leave.result c.enter-turn.result.place.me.0 c.enter-turn.result.machine (λ plan history. IsTrue c.all_released-all_released.result ↔ IsComplete plan history) c.leave.ensures.pass c.enter-turn.ensures.after c.all_released-all_released.ensures
