use Rattle.std.proofs.Common.{[], ◌∷◌, sym, subst}
use Rattle.pooma_machine.specs.declared.step.EventKind.TheVariants as kind
use Rattle.pooma_machine.specs.Steps.{event_of}
use Rattle.pooma_machine.specs.Values.{asks_of}
use Rattle.pooma_machine.specs.Became.{TellsReady}
use Rattle.pooma_desk.specs.Readied.{EndsWith}
use Rattle.pooma_desk.specs.Tokens.{Adds, called, plan_of, history_of}
use Rattle.pooma_desk.proofs.desk.Desk.release.Goals as goal

pub returns-clause-adds : goal.returns-clause-adds
returns-clause-adds g c = subst (λ t. Adds c.args.pass t (called kind.Release c.args.done.entry c.args.pass.seat)) (sym c.leave.ensures.pass) c.enter_and_release-turn.ensures.adds

pub returns-clause-became : goal.returns-clause-became
returns-clause-became g c = subst (λ t. EndsWith (history_of t) (event_of kind.Release c.args.done.entry c.args.pass.seat ∷ []) (λ before. TellsReady (asks_of g.W.Work.meaning (plan_of t)) before (history_of t) c.enter_and_release-turn.result.1)) (sym c.leave.ensures.pass) c.enter_and_release-turn.ensures.became
