use Rattle.std.proofs.Common.{◌<◌, subst}
use Rattle.std.specs.Prelude.{All}
use Rattle.pooma_machine.proofs.Worth.{asked_there}
use Rattle.pooma_machine.proofs.machine.Machine.work.Goals as goal

pub returns-clause-objects : goal.returns-clause-objects
returns-clause-objects g c =
    let at = c.work.ensures in
    let all = asked_there g.W.Work.meaning c.self.inside.table.plan _ c.self.inside.table.history c.self.inside.objects c.self.inside.outcomes.items c.work.result.now c.args.j c.self.invariant.0 at in
    rw (← c.self.view_is) (subst (λ n. All (λ r. r.object < n) (g.W.Work.meaning.requests c.work.result.now)) c.self.invariant.0.count all)
