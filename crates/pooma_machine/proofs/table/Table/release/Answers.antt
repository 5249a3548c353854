use Rattle.pooma_machine.specs.Values.{asks_of}
use Rattle.pooma_machine.proofs.Waking.{became_conflicts, freed_became}
use Rattle.pooma_machine.proofs.table.Table.release.Goals as goal

pub returns-clause-became : goal.returns-clause-became
returns-clause-became g c =
    let freed = rw (c.mark_released.ensures.plan, c.mark_released.ensures.history) at c.freed_by.ensures in
    rw c.mark_released.ensures.history (freed_became (asks_of g.W.Work.meaning c.args.self.now.plan) c.args.self.now.history c.args.j c.args.seat c.freed_by.result c.requires.out freed)

pub returns-clause-freed : goal.returns-clause-freed
returns-clause-freed g c =
    let freed = rw (c.mark_released.ensures.plan, c.mark_released.ensures.history) at c.freed_by.ensures in
    rw c.mark_released.ensures.history (became_conflicts (asks_of g.W.Work.meaning c.args.self.now.plan) c.args.self.now.history c.args.j c.args.seat c.freed_by.result c.requires.out freed)
