use Rattle.std.proofs.Common.{◌∙◌, sym, subst}
use Rattle.pooma_queue.specs.Requests.{Waiting, MayGoOn}
use Rattle.pooma_machine.proofs.Queues.{queue_read}
use Rattle.pooma_machine.proofs.lines.Lines.front.Goals as goal

pub returns-clause-may_go_on : goal.returns-clause-may_go_on
returns-clause-may_go_on c k asked may =
    let read = c.index.ensures ∙ queue_read c.self.inside.queues.items c.args.object c.index.result.now (rw (← c.self.view_is) at c.requires) in
    c.front.ensures.may_go_on k asked (subst (λ (w : Waiting). MayGoOn w.requests k asked) (sym read) (rw (← c.self.view_is) at may))
