use Rattle.std.proofs.Common.{[], sym, subst, ◌∙◌}
use Rattle.std.proofs.lemmas.List.{get_or_default}
use Rattle.pooma_queue.specs.Requests.{Waiting, AsksHere}
use Rattle.pooma_machine.proofs.lines.Lines.earlier.Goals as goal

pub earlier-requires-clause-asks : goal.earlier-requires-clause-asks
earlier-requires-clause-asks c =
    let none : Waiting = record { requests = []; room = 0 } in
    let within = rw (← c.self.view_is) at c.requires.there in
    let here = c.index.ensures ∙ get_or_default c.self.inside.queues.items c.args.object c.index.result.now none within in
    subst (λ (queue : Waiting). AsksHere c.args.entry c.args.mode queue.requests) (sym here) (rw (← c.self.view_is) at c.requires.asks)
